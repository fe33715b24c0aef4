-- The line that a program writes on standard error.
use Rattle.std.specs.Prelude.{ℕ, List, [], ◌∷◌, ◌++◌, if◌then◌else◌, chars, codes, encode_utf8_all}
use Rattle.std.specs.Char.{is_control}
use Rattle.std.specs.Char.Escape.{escape_default}
use Rattle.std.specs.List.{flat_map}

-- a character of a line: a control character is escaped, as `\n` or `\u{1b}`
abbrev pub shown : ℕ → List ℕ
shown character = if is_control character then escape_default character else character ∷ []

-- a text with each control character escaped
abbrev pub shown_text : List ℕ → List ℕ
shown_text text = encode_utf8_all (flat_map shown (chars text))

-- the line of a program and a text, with its end: the program's name, a colon, a space and the text, escaped
abbrev pub line_of : List ℕ → List ℕ → List ℕ
line_of program text = (program ++ codes ": ") ++ (shown_text text ++ 10 ∷ [])
