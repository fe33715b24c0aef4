-- Maps laid over one another, as parameters of a volume are changed: the given keys get the given values,
-- the other keys keep theirs (CSI specification, 'ControllerModifyVolume', the field `mutable_parameters`).
use Rattle.std.specs.Prelude.{ℕ, Bool, false, List, ◌++◌, Option, None, Some}
use Rattle.std.specs.FinMap.{entries, from_entries, get}
use Rattle.std.specs.List.{list_all}
use Rattle.csi_types.specs.Maps.{TextMap, same_text}

-- the entries of both maps; a key that both have gets the given value
unfoldable pub laid_over : TextMap → TextMap → TextMap
laid_over m given = from_entries (entries given ++ entries m)

-- there is a value, and it is this text
abbrev pub is_text : List ℕ → Option (List ℕ) → Bool
is_text text None = false
is_text text (Some value) = same_text value text

-- each key of the given map has the same value in `m`
abbrev pub has_each : TextMap → TextMap → Bool
has_each m given = list_all (λ e. is_text e.1 (get m e.0)) (entries given)
