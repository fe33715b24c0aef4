-- The one encoding of a message: rising field numbers, minimal varints, default scalars and empty texts left
-- out, present messages written even when empty, map entries in byte order of their keys with both parts
-- always written.
use Rattle.std.specs.Prelude.{ℕ, ℤ, Bool, true, ◌&&◌, nat_lt, ◌<◌, ◌^◌, List, [], ◌∷◌, ◌++◌, map, length, Option, ◌==◌, if◌then◌else◌, option_to_list}
use Rattle.std.specs.Prelude.{IfSome, IsUtf8, FitsSigned}
use Rattle.std.specs.Int.{cast_unsigned, w32, w64}
use Rattle.std.specs.List.{AllByRecursion}
use Rattle.std.specs.FinMap.{entries}
use Rattle.pbwire.specs.Wire.{WireField, Number, Payload}
use Rattle.pbwire.specs.Writing.{spellings}
use Rattle.csi_types.specs.Maps.{TextMap}
use Rattle.pbmessage.specs.Views.{Payloads}

-- ---- rows: the fields of one number, all varints or all payloads

pub data Row : Type 0 where
  Numbers : ℕ → List ℕ → Row
  Strings : ℕ → List (List ℕ) → Row

abbrev pub payload_fields : ℕ → Payloads → List WireField
payload_fields k ps = map (λ p. record { number = k; part = Payload p }) ps

abbrev pub number_fields : ℕ → List ℕ → List WireField
number_fields k xs = map (λ x. record { number = k; part = Number x }) xs

unfoldable pub row_fields : Row → List WireField
row_fields (Numbers k xs) = number_fields k xs
row_fields (Strings k ps) = payload_fields k ps

-- a table of rows, from the first to the last
infixl 12 ◌▸◌
pub data Rows : Type 0 where
  Start : Rows
  ◌▸◌ : Rows → Row → Rows

abbrev pub fields : Rows → List WireField
fields Start = []
fields (rs ▸ r) = fields rs ++ row_fields r

abbrev pub bytes_of : Rows → List ℕ
bytes_of rs = spellings (fields rs)

abbrev pub row_number : Row → ℕ
row_number (Numbers k xs) = k
row_number (Strings k ps) = k

-- the number is above the number of every row
abbrev pub above : Rows → ℕ → Bool
above Start k = true
above (rs ▸ r) k = above rs k && nat_lt (row_number r) k

-- the numbers of the rows are in strictly rising order, from 1 to 2^29 - 1
abbrev pub rises : Rows → Bool
rises Start = true
rises (rs ▸ r) = rises rs && (above rs (row_number r) && (nat_lt 0 (row_number r) && nat_lt (row_number r) (2 ^ 29)))

-- ---- how a part is written

-- an empty text is left out
abbrev pub present : List ℕ → Payloads
present [] = []
present (b ∷ bs) = (b ∷ bs) ∷ []

-- 0 is left out
abbrev pub present_number : ℕ → List ℕ
present_number x = if x == 0 then [] else x ∷ []

-- a signed number, also one of 32 bits, as its 64 bits
abbrev pub signed_number : ℤ → List ℕ
signed_number z = present_number (cast_unsigned w64 z)

abbrev pub flag_number : Bool → List ℕ
flag_number b = if b then 1 ∷ [] else []

-- a present message without kept fields
abbrev pub presence : Bool → Payloads
presence b = if b then [] ∷ [] else []

-- messages as payloads
abbrev pub spelled : {V : Type 0} → (V → Rows) → List V → Payloads
spelled canon vs = map (λ v. bytes_of (canon v)) vs

-- both parts are always written
abbrev pub canon_map_entry : List ℕ × List ℕ → Rows
canon_map_entry e = Start ▸ Strings 1 (e.0 ∷ []) ▸ Strings 2 (e.1 ∷ [])

-- ---- rows by the kind of the part

abbrev pub text_row : ℕ → List ℕ → Row
text_row k t = Strings k (present t)

abbrev pub texts_row : ℕ → List (List ℕ) → Row
texts_row k ts = Strings k ts

abbrev pub signed_row : ℕ → ℤ → Row
signed_row k z = Numbers k (signed_number z)

abbrev pub flag_row : ℕ → Bool → Row
flag_row k b = Numbers k (flag_number b)

abbrev pub option_row : {V : Type 0} → (V → Rows) → ℕ → Option V → Row
option_row canon k o = Strings k (spelled canon (option_to_list o))

abbrev pub messages_row : {V : Type 0} → (V → Rows) → ℕ → List V → Row
messages_row canon k vs = Strings k (spelled canon vs)

abbrev pub map_row : ℕ → TextMap → Row
map_row k m = Strings k (spelled canon_map_entry (entries m))

abbrev pub presence_row : ℕ → Bool → Row
presence_row k b = Strings k (presence b)

-- ---- values that have an encoding: texts in UTF-8, numbers in the range of their type, and payloads whose
-- length is a varint

abbrev pub FitsText : List ℕ → Type 0
FitsText t = IsUtf8 t × (length t < 2 ^ 64)

abbrev pub FitsTexts : List (List ℕ) → Type 0
FitsTexts ts = AllByRecursion FitsText ts

abbrev pub FitsI64 : ℤ → Type 0
FitsI64 z = FitsSigned w64 z

abbrev pub FitsI32 : ℤ → Type 0
FitsI32 z = FitsSigned w32 z

-- a value that is written as a payload
abbrev pub FitsInner : {V : Type 0} → (V → Type 0) → (V → Rows) → V → Type 0
FitsInner fits canon v = fits v × (length (bytes_of (canon v)) < 2 ^ 64)

abbrev pub FitsOption : {V : Type 0} → (V → Type 0) → (V → Rows) → Option V → Type 0
FitsOption fits canon o = IfSome o (FitsInner fits canon)

abbrev pub FitsMessages : {V : Type 0} → (V → Type 0) → (V → Rows) → List V → Type 0
FitsMessages fits canon vs = AllByRecursion (FitsInner fits canon) vs

abbrev pub FitsMapEntry : List ℕ × List ℕ → Type 0
FitsMapEntry e = FitsText e.0 × FitsText e.1

abbrev pub FitsMap : TextMap → Type 0
FitsMap m = FitsMessages FitsMapEntry canon_map_entry (entries m)
