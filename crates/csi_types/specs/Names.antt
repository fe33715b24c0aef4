-- The name of a volume (CSI specification, 'CreateVolume', the field `name`).
use Rattle.std.specs.Prelude.{ℕ, Bool, ◌||◌, ◌&&◌, ◌==◌, nat_lt, nat_le, List, [], ◌∷◌, length, Option}
use Rattle.std.specs.List.{list_any}
use Rattle.std.specs.Str.{chars}
use Rattle.csi_types.specs.declared.limits.TheConstants.{MAX_TEXT_BYTES}
use Rattle.csi_types.specs.declared.reason.Reason.{Reason}
use Rattle.csi_types.specs.declared.reason.Reason.TheVariants.{NameMissing, NameTooLong, NameBanned}
use Rattle.csi_types.specs.Lines.{first_line}

abbrev pub is_empty : {A : Type 0} → List A → Bool
is_empty xs = length xs == 0

-- the text has more than `most` bytes
abbrev pub longer_than : ℕ → List ℕ → Bool
longer_than most text = nat_lt most (length text)

-- U+0000 to U+0008, U+000B, U+000C, U+000E to U+001F and U+007F to U+009F
abbrev pub is_banned : ℕ → Bool
is_banned c = nat_le c 8 || c == 11 || c == 12 || (nat_le 14 c && nat_le c 31) || (nat_le 127 c && nat_le c 159)

-- a byte of 0x20 to 0x7E, which is a printable character of ASCII
abbrev pub is_plain : ℕ → Bool
is_plain byte = nat_le 32 byte && nat_le byte 126

-- a character of the text is banned
abbrev pub holds_banned : List ℕ → Bool
holds_banned text = list_any is_banned (chars text)

-- the reason why a name is refused, if it is refused: the first line that is true
abbrev pub refused_name : List ℕ → Option Reason
refused_name =
    first_line ((NameMissing, is_empty) ∷ (NameTooLong, longer_than MAX_TEXT_BYTES) ∷ (NameBanned, holds_banned) ∷ [])
