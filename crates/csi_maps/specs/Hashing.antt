-- The hash of a name.
use Rattle.std.specs.Prelude.{ℕ, ◌*◌, ◌/◌, ◌%◌, ◌^◌, List, [], ◌∷◌, bit_xor}
use Rattle.std.specs.Int.{from_le_bytes, w64}
use Rattle.csi_keeper.specs.Texts.{Text}

-- the hash after one more word; from the same hash no two words lead to the same hash
abbrev pub word_hashed : ℕ → ℕ → ℕ
word_hashed hash word = let product = bit_xor hash word * 0x9e3779b97f4a7c15 % 2 ^ 64 in bit_xor product (product / 2 ^ 32)

-- the hash after these bytes: each eight bytes are a word, and each byte that is left over is a word
abbrev pub hashed : ℕ → List ℕ → ℕ
hashed hash (a ∷ b ∷ c ∷ d ∷ e ∷ f ∷ g ∷ h ∷ rest) = hashed (word_hashed hash (from_le_bytes w64 (a ∷ b ∷ c ∷ d ∷ e ∷ f ∷ g ∷ h ∷ []))) rest
hashed hash (b ∷ rest) = hashed (word_hashed hash b) rest
hashed hash [] = hash

-- the hash of a name; equal names have the same hash, and different names may have the same hash too
unfoldable pub name_hash : Text → ℕ
name_hash name = hashed 0 name
