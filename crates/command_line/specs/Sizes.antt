-- Sizes, as people read them.
use Rattle.std.specs.Prelude.{ℕ, ◌/◌, ◌%◌, ◌^◌, ◌==◌, ◌&&◌, nat_lt, List, [], ◌∷◌, ◌++◌, Option, Some, None, codes, decimal, if◌then◌else◌}
use Rattle.command_line.specs.declared.sizes.Unit.{Unit}

-- the number of halves of a unit in a size, if there is more than one and no byte is left over
abbrev pub halves_or_none : ℕ → ℕ → Option ℕ
halves_or_none bytes half = if nat_lt 1 (bytes / half) && bytes % half == 0 then Some (bytes / half) else None

-- the decimal place of a number of halves: `.5`, or nothing
abbrev pub half : ℕ → List ℕ
half halves = if halves % 2 == 0 then [] else codes ".5"

-- halves of a unit, as `1 GiB` or `1.5 GiB`
abbrev pub halves_text : ℕ → List ℕ → List ℕ
halves_text halves unit = decimal (halves / 2) ++ (half halves ++ (codes " " ++ unit))

-- the text of a number of halves of this unit, or another text if there is no such number
abbrev pub in_unit : Option ℕ → List ℕ → List ℕ → List ℕ
in_unit (Some halves) unit otherwise = halves_text halves unit
in_unit None unit otherwise = otherwise

-- a size in the first unit in which it is exact to one decimal, otherwise in bytes
abbrev pub size_text : List Unit → ℕ → List ℕ
size_text [] bytes = decimal bytes ++ codes " B"
size_text (unit ∷ rest) bytes = in_unit (halves_or_none bytes unit.half) unit.name.now (size_text rest bytes)

-- a size in binary units
abbrev pub binary_size : ℕ → List ℕ
binary_size bytes =
    in_unit (halves_or_none bytes (2 ^ 59)) (codes "EiB")
    (in_unit (halves_or_none bytes (2 ^ 49)) (codes "PiB")
    (in_unit (halves_or_none bytes (2 ^ 39)) (codes "TiB")
    (in_unit (halves_or_none bytes (2 ^ 29)) (codes "GiB")
    (in_unit (halves_or_none bytes (2 ^ 19)) (codes "MiB")
    (in_unit (halves_or_none bytes (2 ^ 9)) (codes "KiB")
    (decimal bytes ++ codes " B"))))))
