-- The values that bytes encode: varints, fields, and lists of fields. The words are the Protocol Buffers
-- encoding guide's. Where the guide leaves a reader a choice, the choice is named.
use Rattle.std.specs.Prelude.{◌≡◌, ℕ, ◌+◌, ◌*◌, ◌%◌, ◌^◌, ◌<◌, ◌≤◌, List, [], ◌∷◌, ◌++◌, length, All}

-- ---- "Base 128 Varints"

-- the low seven bits of byte i, times 128 to the i, summed over the bytes
abbrev pub groups_value : List ℕ → ℕ
groups_value [] = 0
groups_value (b ∷ bs) = b % 128 + 128 * groups_value bs

-- The bytes are a varint of n. It need not be the shortest. The guide gives a varint ten bytes, and the
-- tenth holds the 64th bit alone: here a tenth byte above 1 is malformed, and no bit is dropped.
pub record IsVarint (bytes : List ℕ) (n : ℕ) : Type 0 where
  pub more : List ℕ
  pub last : ℕ
  pub whole : bytes ≡ more ++ last ∷ []
  pub continued : All (λ b. 128 ≤ b) more
  pub ended : last < 128
  pub at_most_ten : length more ≤ 9
  pub tenth : length more ≡ 9 → last ≤ 1
  pub value : n ≡ groups_value bytes

-- ---- "Message Structure"

-- the contents of a field, by its wire type: VARINT, I64, LEN, I32
pub data Part : Type 0 where
  Number : ℕ → Part
  Eight : List ℕ → Part
  Payload : List ℕ → Part
  Four : List ℕ → Part

-- one field: its number and its contents
pub record WireField : Type 0 where
  pub number : ℕ
  pub part : Part

-- the wire type; no field has another one (the groups of 3 and 4 are not read)
abbrev pub kind_of : Part → ℕ
kind_of (Number n) = 0
kind_of (Eight bytes) = 1
kind_of (Payload bytes) = 2
kind_of (Four bytes) = 5

-- the bytes after the tag ("Length-Delimited Records" and "Non-varint Numbers")
abbrev pub SpellsPart : Part → List ℕ → Type 0
SpellsPart (Number n) bytes = IsVarint bytes n
SpellsPart (Eight p) bytes = (length p ≡ 8) × (bytes ≡ p)
SpellsPart (Payload p) bytes = (len : List ℕ) × IsVarint len (length p) × (bytes ≡ len ++ p)
SpellsPart (Four p) bytes = (length p ≡ 4) × (bytes ≡ p)

-- The bytes encode the field: a tag, which is a varint of eight times the number plus the wire type, and then
-- the contents. Numbers begin at 1, and a tag is below 2 ^ 32.
pub record Spells (e : WireField) (bytes : List ℕ) : Type 0 where
  pub tag : List ℕ
  pub payload : List ℕ
  pub is_tag : IsVarint tag (e.number * 8 + kind_of e.part)
  pub low : e.number * 8 + kind_of e.part < 2 ^ 32
  pub positive : 1 ≤ e.number
  pub is_payload : SpellsPart e.part payload
  pub whole : bytes ≡ tag ++ payload

-- a message: the encodings of its fields, in order
abbrev pub AreFields : List WireField → List ℕ → Type 0
AreFields [] bytes = bytes ≡ []
AreFields (e ∷ es) bytes = (first : List ℕ) × (rest : List ℕ) × Spells e first × AreFields es rest × (bytes ≡ first ++ rest)

-- ---- which fields have an encoding

abbrev pub FitsPart : Part → Type 0
FitsPart (Number n) = n < 2 ^ 64
FitsPart (Eight p) = length p ≡ 8
FitsPart (Payload p) = length p < 2 ^ 64
FitsPart (Four p) = length p ≡ 4

pub record FitsField (e : WireField) : Type 0 where
  pub positive : 1 ≤ e.number
  pub low : e.number < 2 ^ 29
  pub part : FitsPart e.part
