-- The path of each call of a change store is a path that a frame can have.
use Rattle.std.proofs.Common.{◌≡◌, ◌≤◌, ℕ, List, Bool, true, false, All, length, refl}
use Rattle.std.specs.Prelude.{nat_le, ◌&&◌}
use Rattle.std.specs.List.{list_all}
use Rattle.std.proofs.lemmas.List.Sums.{AllPass-from_list_all}
use Rattle.std.proofs.lemmas.Bool.{leb-true}
use Rattle.envelope.specs.declared.limits.TheConstants.{MAX_MESSAGE_BYTES}
use Rattle.envelope.specs.Envelope.{IsCall, IsPathByte}
use Rattle.csi_change_store.specs.Asking.{path_of}
use Rattle.csi_change_store.specs.declared.asking.ChangeStoreCall.{ChangeStoreCall}
use Rattle.csi_change_store.specs.declared.asking.ChangeStoreCall.TheVariants.{Read}

both : (a b : Bool) → (a && b) ≡ true → (a ≡ true) × (b ≡ true)
both true b e = (refl, e)
both false b e = absurd cc

abbrev is_path_byte : ℕ → Bool
is_path_byte byte = nat_le 33 byte && nat_le byte 126

abbrev is_path : List ℕ → Bool
is_path path = nat_le 1 (length path) && (nat_le (length path) 128 && list_all is_path_byte path)

all_path : (bytes : List ℕ) → list_all is_path_byte bytes ≡ true → All IsPathByte bytes
all_path bytes e k d lt =
    let h = both (nat_le 33 _) (nat_le _ 126) (AllPass-from_list_all is_path_byte bytes e k d lt) in
    (leb-true 33 _ h.0, leb-true _ 126 h.1)

call_passes : (path message : List ℕ) → is_path path ≡ true → length message ≤ MAX_MESSAGE_BYTES → IsCall (record { path = path; message = message })
call_passes path message e short =
    let h = both (nat_le 1 (length path)) (nat_le (length path) 128 && list_all is_path_byte path) e in
    let k = both (nat_le (length path) 128) (list_all is_path_byte path) h.1 in
    record {
      path_given = leb-true 1 (length path) h.0;
      path_short = leb-true (length path) 128 k.0;
      path_bytes = all_path path k.1;
      message_short = short;
    }

passes : (call : ChangeStoreCall) → is_path (path_of call) ≡ true
passes Read = refl
passes call = refl

pub is_call : (call : ChangeStoreCall) (message : List ℕ) → length message ≤ MAX_MESSAGE_BYTES → IsCall (record { path = path_of call; message = message })
is_call call message short = call_passes (path_of call) message (passes call) short
