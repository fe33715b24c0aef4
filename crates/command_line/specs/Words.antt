-- Words of a line.
use Rattle.std.specs.Prelude.{ℕ, List, [], ◌∷◌, ◌++◌}

-- a dash for an empty text
abbrev pub or_dash : List ℕ → List ℕ
or_dash [] = 45 ∷ []
or_dash (byte ∷ rest) = byte ∷ rest

-- a text with a mark after it; an empty text stays empty
abbrev pub after_mark : List ℕ → List ℕ → List ℕ
after_mark [] mark = []
after_mark (byte ∷ rest) mark = (byte ∷ rest) ++ mark
