-- A text whose bytes pass a test is printable.
use Rattle.std.proofs.Common.{◌≡◌, ℕ, List, Bool, true, false, All, refl}
use Rattle.std.specs.Prelude.{nat_le, ◌&&◌}
use Rattle.std.specs.List.{list_all}
use Rattle.std.proofs.lemmas.List.Sums.{AllPass-from_list_all}
use Rattle.std.proofs.lemmas.Bool.{leb-true}
use Rattle.envelope.specs.Envelope.{IsTextByte}

pub both : (a b : Bool) → (a && b) ≡ true → (a ≡ true) × (b ≡ true)
both true b e = (refl, e)
both false b e = absurd cc

abbrev pub is_printable : ℕ → Bool
is_printable byte = nat_le 32 byte && nat_le byte 126

pub all_printable : (bytes : List ℕ) → list_all is_printable bytes ≡ true → All IsTextByte bytes
all_printable bytes e k d lt =
    let h = both (nat_le 32 _) (nat_le _ 126) (AllPass-from_list_all is_printable bytes e k d lt) in
    (leb-true 32 _ h.0, leb-true _ 126 h.1)
