-- Digits that encode bytes.
use Rattle.std.proofs.Common.{◌≡◌, ◌≢◌, ◌⊎◌, ◌∙◌, ◌%◌, ◌-◌, ℕ, Bool, true, false, List, [], Ok, Some, None, length, codes, if◌then◌else◌, ◌||◌, inl, inr, refl, slice_index_or, sym}
use Rattle.std.specs.Char.{is_ascii_hexdigit}
use Rattle.std.specs.Int.{is_in_range}
use Rattle.std.specs.Prelude.{is_some}
use Rattle.std.specs.List.{list_all}
use Rattle.std.proofs.lemmas.List.Sums.{AllPass-from_list_all, list_all-from_AllPass}
use Rattle.hex.specs.Hex.{decode_of, is_hex_digit}
use Rattle.hex.proofs.HexLemmas.{decode_of-digits, decode_of-ok}
use Rattle.csi_vectors.specs.Lines.{IsSpelling, Spells}

pick : (a b c : Bool) (x y z : ℕ) → ((a || b) || c) ≡ is_some (if b then Some x else if c then Some y else if a then Some z else None)
pick true true c x y z = refl
pick false true c x y z = refl
pick true false true x y z = refl
pick true false false x y z = refl
pick false false true x y z = refl
pick false false false x y z = refl

same_digits : (byte : ℕ) → is_ascii_hexdigit byte ≡ is_hex_digit byte
same_digits byte = pick (is_in_range 48 57 byte) (is_in_range 65 70 byte) (is_in_range 97 102 byte) (byte - 55) (byte - 87) (byte - 48)

pub digits_spell : (digits : List ℕ) → digits ≢ [] → length digits % 2 ≡ 0 → list_all is_ascii_hexdigit digits ≡ true → IsSpelling digits
digits_spell digits some even all =
    let h = AllPass-from_list_all is_ascii_hexdigit digits all in
    let r = decode_of-digits digits even (λ k d lt. sym (same_digits (slice_index_or digits k d)) ∙ h k d lt) in
    (r.0, inr (some, r.1))

pub spelling_digits : (digits : List ℕ) → IsSpelling digits → (digits ≡ codes "-") ⊎ ((digits ≢ []) × (length digits % 2 ≡ 0) × (list_all is_ascii_hexdigit digits ≡ true))
spelling_digits digits (bytes, inl dash) = inl dash.0
spelling_digits digits (bytes, inr spelled) =
    let ok = decode_of-ok digits bytes spelled.1 in
    inr (spelled.0, ok.0, list_all-from_AllPass is_ascii_hexdigit digits (λ k d lt. same_digits (slice_index_or digits k d) ∙ ok.1 k d lt))

-- the bytes that digits are decoded to are the bytes that they encode
pub spelled : (digits bytes : List ℕ) → decode_of digits ≡ Ok bytes → IsSpelling digits → Spells digits bytes
spelled digits bytes e (other, inl dash) = inr ((λ none. (let bad : codes "-" ≡ [] = sym dash.0 ∙ none in absurd cc)), e)
spelled digits bytes e (other, inr h) = inr (h.0, e)
