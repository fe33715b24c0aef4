-- A line as a vector.
use Rattle.std.specs.Prelude.{ℕ, ◌≡◌, ◌≢◌, ◌⊎◌, ◌<◌, ◌==◌, Bool, List, [], Ok, codes, length}
use Rattle.std.specs.List.{after_first, before_first, position_or_len}
use Rattle.hex.specs.Hex.{decode_of}

abbrev pub is_space : ℕ → Bool
is_space byte = byte == 32

-- a text has a space
abbrev pub HasSpace : List ℕ → Type 0
HasSpace text = position_or_len is_space text < length text

-- the part of a text before its first space, and the part after it
abbrev pub head : List ℕ → List ℕ
head text = before_first is_space text

abbrev pub tail : List ℕ → List ℕ
tail text = after_first is_space text

-- a dash means no bytes; otherwise two digits mean one byte
abbrev pub Spells : List ℕ → List ℕ → Type 0
Spells digits bytes = ((digits ≡ codes "-") × (bytes ≡ [])) ⊎ ((digits ≢ []) × (decode_of digits ≡ Ok bytes))

-- the digits mean some bytes
abbrev pub IsSpelling : List ℕ → Type 0
IsSpelling digits = (bytes : List ℕ) × Spells digits bytes

-- A line has the name, the input and the output of a vector, with one space between them. The name and the
-- input have no space.
pub record IsLineOf (line name input output : List ℕ) : Type 0 where
  pub first : HasSpace line
  pub second : HasSpace (tail line)
  pub name_is : name ≡ head line
  pub named : name ≢ []
  pub input_is : Spells (head (tail line)) input
  pub output_is : Spells (tail (tail line)) output
