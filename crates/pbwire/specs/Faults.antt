-- The reasons why bytes encode no field, by the rules of the encoding guide ("Base 128 Varints" and "Message
-- Structure"). The names of the reasons are our own.
use Rattle.std.specs.Prelude.{◌≡◌, ℕ, ◌%◌, ◌^◌, ◌<◌, ◌≤◌, ◌≢◌, ◌⊎◌, List, ◌++◌, length}
use Rattle.pbwire.specs.declared.field.WireWhy.{WireWhy}
use Rattle.pbwire.specs.declared.field.WireWhy.TheVariants as why
use Rattle.pbwire.specs.Wire.{IsVarint}

-- the bytes begin with a varint of n, and go on with rest
abbrev pub Begins : ℕ → List ℕ → List ℕ → Type 0
Begins n rest bytes = (first : List ℕ) × IsVarint first n × (bytes ≡ first ++ rest)

abbrev pub NoVarint : List ℕ → Type 0
NoVarint bytes = (n : ℕ) (rest : List ℕ) → Begins n rest bytes → ⊥

-- the bytes begin with the tag of a field, and go on with rest
pub record AfterTag (tag : ℕ) (rest bytes : List ℕ) : Type 0 where
  pub begins : Begins tag rest bytes
  pub numbered : 8 ≤ tag
  pub low : tag < 2 ^ 32

-- A varint must be at the start of rest: a tag, a number or a length.
abbrev pub VarintAt : List ℕ → List ℕ → Type 0
VarintAt rest bytes = (rest ≡ bytes) ⊎ ((tag : ℕ) × AfterTag tag rest bytes × ((tag % 8 ≡ 0) ⊎ (tag % 8 ≡ 2)))

-- `n` bytes must be at the start of rest.
abbrev pub BytesAt : ℕ → List ℕ → List ℕ → Type 0
BytesAt n rest bytes =
    ((tag : ℕ) × AfterTag tag rest bytes × (((tag % 8 ≡ 1) × (n ≡ 8)) ⊎ ((tag % 8 ≡ 5) × (n ≡ 4))))
    ⊎ ((tag : ℕ) × (len : List ℕ) × AfterTag tag len bytes × (tag % 8 ≡ 2) × Begins n rest len)

-- the meaning of each reason for bytes that should begin with a field
abbrev pub Faults : WireWhy → List ℕ → Type 0
Faults why.Varint bytes = (rest : List ℕ) × VarintAt rest bytes × NoVarint rest × (10 ≤ length rest)
Faults why.Tag bytes = (tag : ℕ) × (rest : List ℕ) × Begins tag rest bytes × ((tag < 8) ⊎ (2 ^ 32 ≤ tag))
Faults why.WireType bytes = (tag : ℕ) × (rest : List ℕ) × AfterTag tag rest bytes × (tag % 8 ≢ 0) × (tag % 8 ≢ 1) × (tag % 8 ≢ 2) × (tag % 8 ≢ 5)
Faults why.CutShort bytes =
    ((rest : List ℕ) × VarintAt rest bytes × NoVarint rest × (length rest < 10))
    ⊎ ((n : ℕ) × (rest : List ℕ) × BytesAt n rest bytes × (length rest < n))
