-- The statements of the laws of the crates below. A function whose proof needs a law calls it, and passes it
-- to the lemmas.
use Rattle.std.specs.Prelude.{◌≡◌, ◌↔◌, ℕ, ◌<◌, List, ◌++◌, length, reverse, Ok}
use Rattle.std.specs.FinMap.{entries, from_entries}
use Rattle.pbwire.specs.Wire.{WireField, Spells, FitsField}
use Rattle.pbwire.specs.Reading.{field_at}
use Rattle.pbwire.specs.Writing.{spelling}
use Rattle.csi_types.specs.Maps.{TextMap}

-- `pbwire::laws::spelled`
pub record FieldLaws : Type 0 where
  pub exactly : (bytes rest : List ℕ) (e : WireField) → (field_at bytes ≡ Ok (e, rest)) ↔ ((first : List ℕ) × Spells e first × (bytes ≡ first ++ rest))
  pub shorter : (bytes rest : List ℕ) (e : WireField) → field_at bytes ≡ Ok (e, rest) → length rest < length bytes

-- `FieldLaws`, `pbwire::laws::written`, and `csi_types::laws::map_entries`
pub record SpellingLaws : Type 0 where
  pub fields : FieldLaws
  pub again : (e : WireField) (more : List ℕ) → FitsField e → field_at (spelling e ++ more) ≡ Ok (e, more)
  pub map_entries : (m : TextMap) → from_entries (reverse (entries m)) ≡ m
