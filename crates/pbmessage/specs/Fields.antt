-- A message as a list of fields: which of them are good, how far a prefix of the bytes is a list of good
-- fields, and which value the bytes mean.
use Rattle.std.specs.Prelude.{◌≡◌, ℕ, zero, suc, ◌≤◌, ◌<◌, List, [], ◌∷◌, length, take, Result, Ok, Err}
use Rattle.std.specs.List.{AllByRecursion}
use Rattle.pbwire.specs.declared.field.WireWhy.{WireWhy}
use Rattle.pbwire.specs.Wire.{WireField, AreFields}
use Rattle.pbmessage.specs.declared.message.DecodeFault.{DecodeFault}
use Rattle.pbmessage.specs.declared.message.DecodeFault.TheVariants as fault
use Rattle.pbwire.specs.Reading.{field_at}

-- the bytes are a list of fields (Protocol Buffers encoding guide, 'Message Structure'), each of them good
pub record AreGood (good : WireField → Type 0) (bytes : List ℕ) : Type 0 where
  pub fields : List WireField
  pub whole : AreFields fields bytes
  pub each : AllByRecursion good fields

-- the longest prefix that is a list of good fields ends here
pub record IsFaultOffset (good : WireField → Type 0) (bytes : List ℕ) (at : ℕ) : Type 0 where
  pub within : at ≤ length bytes
  pub prefix : AreGood good (take at bytes)
  pub longest : (n : ℕ) → at < n → n ≤ length bytes → AreGood good (take n bytes) → ⊥

-- the bytes mean no value, and this is the offset of the fault
abbrev pub IsRefusedAt : (WireField → Type 0) → List ℕ → ℕ → Type 0
IsRefusedAt good bytes at = IsFaultOffset good bytes at × (AreGood good bytes → ⊥)

-- the fault is true of the bytes: they mean no value and this is the offset, or memory ran out for a value
-- that they mean
abbrev pub Refuses : (WireField → Type 0) → List ℕ → DecodeFault → Type 0
Refuses good bytes (fault.Malformed at) = IsRefusedAt good bytes at
Refuses good bytes fault.NoMemory = AreGood good bytes

-- the bytes mean the value: they are a list of good fields, and the list has this value
pub record Means {V : Type 0} (good : WireField → Type 0) (value : List WireField → V) (bytes : List ℕ) (v : V) : Type 0 where
  pub fields : List WireField
  pub whole : AreFields fields bytes
  pub each : AllByRecursion good fields
  pub is : v ≡ value fields

-- the first field, and the fields of the rest
abbrev pub first_and : (List ℕ → List WireField) → Result (WireField × List ℕ) WireWhy → List WireField
first_and others (Ok x) = x.0 ∷ others x.1
first_and others (Err e) = []

-- the first fields, at most `k`
unfoldable pub prefix_fields : ℕ → List ℕ → List WireField
prefix_fields zero bytes = []
prefix_fields (suc k) bytes = first_and (λ rest. prefix_fields k rest) (field_at bytes)

-- the fields of a payload; a law says that these are the fields that the bytes encode
abbrev pub fields_of : List ℕ → List WireField
fields_of bytes = prefix_fields (length bytes) bytes
