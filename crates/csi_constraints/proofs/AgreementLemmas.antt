-- A row that represents a value passes a constraint exactly if the value does.
use Rattle.std.proofs.Common.{◌≡◌, ◌∙◌, refl, sym, ap, ap₂, ℕ, pos, not, ◌≤◌, ◌<◌, nat_le, nat_lt, List, [], ◌∷◌, find, Bool, true, false, cond, ◌&&◌, ◌||◌, Option, Some, None, IsSome, IsUtf8, arith}
use Rattle.std.specs.Bool.{Decides}
use Rattle.std.specs.List.{list_any}
use Rattle.std.specs.Option.{is_none, is_some}
use Rattle.std.specs.Ordering.{int_eq}
use Rattle.std.proofs.lemmas.Bool.Decides.{Decides-int_eq, nat_tests}
use Rattle.std.proofs.lemmas.Str.{is_utf8-from_IsUtf8}
use Rattle.sqlite.specs.declared.types.Value.{Value}
use Rattle.csi_types.specs.Maps.{same_text}
use Rattle.csi_types.specs.Names.{refused_name}
use Rattle.csi_types.specs.declared.reason.Reason.{Reason}
use Rattle.csi_config.specs.declared.config.Config.{Config}
use Rattle.csi_keeper.specs.Capability.{has_key, is_supported_key}
use Rattle.csi_keeper.specs.State.{AttachmentKey}
use Rattle.csi_keeper.specs.declared.capability.CapKey.{CapKey}
use Rattle.csi_keeper.specs.declared.volume.Attachment.{Attachment}
use Rattle.csi_keeper.specs.declared.volume.Volume.{Volume}
use Rattle.csi_sql.specs.Cells.{as_flag}
use Rattle.csi_sql.specs.Rows.{bool_value}
use Rattle.csi_constraints.specs.Scans.{with_owner}
use Rattle.csi_columns.specs.Encoding.{caps_bytes, FitCaps, ReadsBack}
use Rattle.csi_columns.specs.Entries.{attachment_entry}
use Rattle.csi_constraints.specs.Agreement.{AttachmentAgrees, OwnerAgrees, PairAgrees, VolumeAgrees}
use Rattle.csi_constraints.specs.Apart.{can_coexist}
use Rattle.csi_constraints.specs.Coded.{key_at}
use Rattle.csi_constraints.specs.Coding.{key_in, keys_in}
use Rattle.csi_constraints.specs.Joins.{attached, attached_at, attached_with}
use Rattle.csi_constraints.specs.Values.{are_some_and, is_some_and}
use Rattle.csi_constraints.specs.Volumes.{is_name}
use Rattle.csi_constraints.proofs.CodingLemmas.{cap_pass, caps_pass, each_back, key_in-caps_bytes, keys_in-caps_bytes, params_pass}

some_reported : {X : Type 0} (o : Option X) (b : Bool) → is_some o ≡ b → Decides b (IsSome o)
some_reported None b e = (λ h. e ∙ h, λ h. sym e ∙ h)
some_reported (Some x) b e = (λ h. refl, λ h. sym e)

same_found : {X : Type 0} (test : X → Bool) (xs : List X) → is_some (find test xs) ≡ list_any test xs
same_found test [] = refl
same_found test (x ∷ xs) = go (test x) (same_found test xs)
  where
    go : (b : Bool) → is_some (find test xs) ≡ list_any test xs → is_some (cond b (Some x) (find test xs)) ≡ (b || list_any test xs)
    go true rest = refl
    go false rest = rest

-- a search finds something exactly if an item of the list passes
found_any : {X : Type 0} (test : X → Bool) (xs : List X) → Decides (list_any test xs) (IsSome (find test xs))
found_any test xs = some_reported (find test xs) (list_any test xs) (same_found test xs)

given : (n next : ℕ) → Decides (nat_le 1 n && nat_lt n next) ((1 ≤ n) × (n < next))
given n next = (λ h. (grind (arith, nat_tests), grind (arith, nat_tests)), λ h. grind (arith, nat_tests))

no_reason : (o : Option Reason) → Decides (is_none o) (o ≡ None)
no_reason None = (λ h. refl, λ h. refl)
no_reason (Some r) = (λ h. absurd (cc), λ h. absurd (cc))

fine_name : (name : List ℕ) → IsUtf8 name → Decides (is_name name) (refused_name name ≡ None)
fine_name name good =
    let same : is_name name ≡ is_none (refused_name name) = ap (λ b. b && is_none (refused_name name)) (is_utf8-from_IsUtf8 name good) in
    (λ h. (no_reason (refused_name name)).0 (sym same ∙ h), λ h. same ∙ (no_reason (refused_name name)).1 h)

some_flag : (b : Bool) → is_some (as_flag (bool_value b)) ≡ true
some_flag true = refl
some_flag false = refl

pub volume_agrees : ReadsBack → (config : Config) (format next : ℕ) (e : ℕ × Volume) → VolumeAgrees config format next e
volume_agrees back config format next e = record {
  kinds = λ name pool. rw (is_utf8-from_IsUtf8 e.1.name name, is_utf8-from_IsUtf8 e.1.pool pool) refl;
  number = given e.0 next;
  name = fine_name e.1.name;
  pool = found_any (λ p. same_text p.name e.1.pool) config.pools;
  bytes = (λ h. h, λ h. h);
  caps = caps_pass back e.1.caps;
  params = params_pass back format e.1.params e.1.mutable;
}

pub attachment_agrees : ReadsBack → (config : Config) (rowid : Value) (e : AttachmentKey × Attachment) → AttachmentAgrees config rowid e
attachment_agrees back config rowid e = record {
  kinds = λ node. rw (is_utf8-from_IsUtf8 e.0.1 node) refl;
  readonly = some_flag e.1.readonly;
  node = found_any (λ m. same_text m.id e.0.1) config.nodes;
  cap = cap_pass back e.1.cap;
}

no_owner : {A B : Type 0} (test : A → B → Bool) (a : Option A) → are_some_and test a None ≡ false
no_owner test None = refl
no_owner test (Some x) = refl

pub owner_agrees : ReadsBack → (e : AttachmentKey × Attachment) (ks : List CapKey) → OwnerAgrees e ks
owner_agrees back e ks = record {
  owned = λ fit good fits all. ap (λ o. are_some_and (λ k js. has_key js (Some k)) o (keys_in (caps_bytes ks))) (key_in-caps_bytes back e.1.cap fit good)
      ∙ ap (is_some_and (λ js. has_key js (Some e.1.cap))) (keys_in-caps_bytes back ks fits ∙ each_back ks all.supported);
  unowned = λ row. no_owner (λ k js. has_key js (Some k)) (key_at 2 (with_owner row []));
}

flag_back : (b : Bool) → as_flag (bool_value b) ≡ Some b
flag_back true = refl
flag_back false = refl

one_attached : ReadsBack → (k : CapKey) (r : Bool) → FitCaps (k ∷ []) → is_supported_key k ≡ true → attached_with (key_in (caps_bytes (k ∷ []))) (as_flag (bool_value r)) ≡ Some (attached k r)
one_attached back k r fit good = ap (λ o. attached_with o (as_flag (bool_value r))) (key_in-caps_bytes back k fit good) ∙ ap (attached_with (Some k)) (flag_back r)

not_equal : (m n : ℕ) → (m ≡ n → ⊥) → int_eq (pos m) (pos n) ≡ false
not_equal m n far = go (int_eq (pos m) (pos n)) refl
  where
    go : (b : Bool) → int_eq (pos m) (pos n) ≡ b → int_eq (pos m) (pos n) ≡ false
    go true is = absurd (far (let same : pos m ≡ pos n = (Decides-int_eq (pos m) (pos n)).0 is in cc))
    go false is = is

pub pair_agrees : ReadsBack → (e f : AttachmentKey × Attachment) → PairAgrees e f
pair_agrees back e f = record {
  beside = λ same fit good other fine.
      ap (λ b. b && not (can_coexist (attached_at 2 3 (attachment_entry e)) (attached_at 2 3 (attachment_entry f)))) ((Decides-int_eq (pos e.0.0) (pos f.0.0)).1 (ap pos same))
      ∙ ap₂ (λ x y. not (can_coexist x y)) (one_attached back e.1.cap e.1.readonly fit good) (one_attached back f.1.cap f.1.readonly other fine);
  other = λ far. ap (λ b. b && not (can_coexist (attached_at 2 3 (attachment_entry e)) (attached_at 2 3 (attachment_entry f)))) (not_equal e.0.0 f.0.0 far);
}
