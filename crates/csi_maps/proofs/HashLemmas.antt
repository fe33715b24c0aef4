-- The hash of a name, word by word.
use Rattle.std.proofs.Common.{◌≡◌, ◌∙◌, ap, arith, refl, suc, ℕ, ◌+◌, ◌<◌, ◌≤◌, List, ◌∷◌, length, take, drop, get_or, add-one, drop-cons, length-drop}
use Rattle.std.specs.Int.{from_le_bytes, w64}
use Rattle.csi_maps.specs.Hashing.{hashed, word_hashed}

-- eight bytes are a word
pub word_first : (hash : ℕ) (xs : List ℕ) → 8 ≤ length xs → hashed hash xs ≡ hashed (word_hashed hash (from_le_bytes w64 (take 8 xs))) (drop 8 xs)
word_first hash (a ∷ b ∷ c ∷ d ∷ e ∷ f ∷ g ∷ h ∷ rest) least = refl
word_first hash xs least = absurd (omega (arith, least))

-- each of fewer than eight bytes is a word
byte_first : (hash b : ℕ) (rest : List ℕ) → length rest < 7 → hashed hash (b ∷ rest) ≡ hashed (word_hashed hash b) rest
byte_first hash a (b ∷ c ∷ d ∷ e ∷ f ∷ g ∷ h ∷ rest) less = absurd (omega (arith, less))
byte_first hash a rest less = refl

pub byte_next : (hash i d : ℕ) (xs : List ℕ) → i < length xs → length xs < 8 → hashed hash (drop i xs) ≡ hashed (word_hashed hash (get_or xs i d)) (drop (i + 1) xs)
byte_next hash i d xs within few =
    let less : length (drop (suc i) xs) < 7 = omega (arith, length-drop (suc i) xs) in
    rw add-one (ap (hashed hash) (drop-cons xs i d within) ∙ byte_first hash (get_or xs i d) (drop (suc i) xs) less)
