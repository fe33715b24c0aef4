-- The bytes that a writer holds after bytes were written to it.
use Rattle.std.specs.Prelude.{ℕ, ◌≡◌, ◌++◌, List, Option}
use Rattle.std.specs.Io.KnownBytes.{Appends}

-- a prefix of the bytes, also all of them
abbrev pub IsPrefix : List ℕ → List ℕ → Type 0
IsPrefix part whole = (more : List ℕ) × (whole ≡ part ++ more)

-- a prefix of these bytes was appended
abbrev pub WrotePrefix : Option (List ℕ) → Option (List ℕ) → List ℕ → Type 0
WrotePrefix held holds whole = (part : List ℕ) × IsPrefix part whole × Appends held holds part
