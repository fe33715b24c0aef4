-- The contents of a list of fields, by field number. A field counts only with the wire type of its kind.
use Rattle.std.specs.Prelude.{ℕ, ℤ, Bool, true, false, not, ◌%◌, ◌^◌, List, [], ◌∷◌, ◌++◌, map, reverse, Option, Some, None, ◌==◌, if◌then◌else◌}
use Rattle.std.specs.Int.{cast_signed, w32, w64}
use Rattle.std.specs.List.{filter_map, flat_map}
use Rattle.std.specs.FinMap.{from_entries}
use Rattle.csi_types.specs.Maps.{TextMap}
use Rattle.pbwire.specs.Wire.{WireField, Part, Number, Eight, Payload, Four}
use Rattle.pbmessage.specs.Fields.{fields_of}

abbrev pub Payloads : Type 0
Payloads = List (List ℕ)

abbrev pub payload : Part → Option (List ℕ)
payload (Number n) = None
payload (Eight bytes) = None
payload (Payload bytes) = Some bytes
payload (Four bytes) = None

abbrev pub number : Part → Option ℕ
number (Number n) = Some n
number (Eight bytes) = None
number (Payload bytes) = None
number (Four bytes) = None

abbrev pub payload_of : ℕ → WireField → Option (List ℕ)
payload_of n e = if e.number == n then payload e.part else None

abbrev pub number_of : ℕ → WireField → Option ℕ
number_of n e = if e.number == n then number e.part else None

-- a payload with the number of its field
abbrev pub beside : ℕ → Option (List ℕ) → Option (ℕ × List ℕ)
beside n None = None
beside n (Some p) = Some (n, p)

abbrev pub member_of : (ℕ → Bool) → WireField → Option (ℕ × List ℕ)
member_of test e = if test e.number then beside e.number (payload e.part) else None

-- the contents of a message: the payloads and the varints of each number in order, and the payloads of all
-- numbers that pass a test
pub record Views : Type 0 where
  pub payloads : ℕ → Payloads
  pub numbers : ℕ → List ℕ
  pub members : (ℕ → Bool) → List (ℕ × List ℕ)

unfoldable pub views : List WireField → Views
views fs = record { payloads = λ n. filter_map (payload_of n) fs; numbers = λ n. filter_map (number_of n) fs; members = λ test. filter_map (member_of test) fs }

-- the value of a list of fields, from a function over its views
abbrev pub value_of : {V : Type 0} → (Views → V) → List WireField → V
value_of of fs = of (views fs)

-- ---- scalars (Protocol Buffers encoding guide, 'Last One Wins')

-- the last item, or the default
abbrev pub last_or : {A : Type 0} → A → List A → A
last_or d [] = d
last_or d (x ∷ xs) = last_or x xs

abbrev pub text : Payloads → List ℕ
text ps = last_or [] ps

-- 64 bits in two's complement
abbrev pub i64 : List ℕ → ℤ
i64 ns = cast_signed w64 (last_or 0 ns)

-- the low 32 bits in two's complement
abbrev pub i32 : List ℕ → ℤ
i32 ns = cast_signed w32 (last_or 0 ns % 2 ^ 32)

-- a number other than 0 is true
abbrev pub flag : List ℕ → Bool
flag ns = not (last_or 0 ns == 0)

-- ---- embedded messages, whose occurrences are merged (encoding guide, 'Last One Wins' and 'Length-Delimited
-- Records')

-- the fields of all the payloads, joined
abbrev pub joined : Payloads → List WireField
joined ps = flat_map fields_of ps

abbrev pub inner : {V : Type 0} → (List WireField → V) → Payloads → Option V
inner value [] = None
inner value (p ∷ ps) = Some (value (joined (p ∷ ps)))

-- true if a message without kept fields is present
abbrev pub is_present : Payloads → Bool
is_present [] = false
is_present (p ∷ ps) = true

-- ---- repeated messages (encoding guide, 'Repeated Elements')

-- each payload is a message of its own
abbrev pub messages : {V : Type 0} → (List WireField → V) → Payloads → List V
messages value ps = map (λ p. value (fields_of p)) ps

-- ---- maps of texts (encoding guide, 'Maps')

-- a missing part is the empty text
abbrev pub map_entry_in : Views → List ℕ × List ℕ
map_entry_in v = (text (v.payloads 1), text (v.payloads 2))

abbrev pub map_entry : List WireField → List ℕ × List ℕ
map_entry fs = map_entry_in (views fs)

-- if keys are equal, the last entry counts
abbrev pub text_map : Payloads → TextMap
text_map ps = from_entries (reverse (messages map_entry ps))

-- ---- oneofs (encoding guide, 'Oneofs')

-- the payloads at the beginning that have this number
abbrev pub run_at : ℕ → List (ℕ × List ℕ) → Payloads
run_at k [] = []
run_at k (m ∷ ms) = if m.0 == k then m.1 ∷ run_at k ms else []

-- from members in reverse order: the number of the last member, and its payloads since another member
abbrev pub last_run : List (ℕ × List ℕ) → Option (ℕ × Payloads)
last_run [] = None
last_run (m ∷ ms) = Some (m.0, reverse (run_at m.0 (m ∷ ms)))

-- the number of the last member, and its payloads after the last field of another member
abbrev pub one_of : List (ℕ × List ℕ) → Option (ℕ × Payloads)
one_of ms = last_run (reverse ms)

-- ---- the views with one more field

abbrev pub no_views : Views
no_views = record { payloads = λ n. []; numbers = λ n. []; members = λ test. [] }

abbrev pub with_payload : ℕ → List ℕ → Views → Views
with_payload k p v = record {
  payloads = λ n. if k == n then v.payloads n ++ p ∷ [] else v.payloads n;
  numbers = v.numbers;
  members = λ test. if test k then v.members test ++ (k, p) ∷ [] else v.members test;
}

abbrev pub with_number : ℕ → ℕ → Views → Views
with_number k x v = record {
  payloads = v.payloads;
  numbers = λ n. if k == n then v.numbers n ++ x ∷ [] else v.numbers n;
  members = v.members;
}
