-- The field at the start of the bytes, or the first fault that a reader meets from the left (encoding guide,
-- "Base 128 Varints" and "Message Structure"). `laws` ties `field_at` to the encodings of `Wire` and to the
-- table of faults (`Faults`); `next_of` gives the next item of a list of fields.
use Rattle.std.specs.Prelude.{ℕ, zero, suc, ◌+◌, ◌-◌, ◌*◌, ◌/◌, ◌%◌, ◌^◌, List, [], ◌∷◌, length, take, drop, Option, Some, None, Result, Ok, Err}
use Rattle.std.specs.Prelude.{nat_lt, nat_le, ◌==◌, ◌||◌, if◌then◌else◌, Bool, true, false}
use Rattle.pbwire.specs.declared.field.WireWhy.{WireWhy}
use Rattle.pbwire.specs.declared.field.WireWhy.TheVariants as why
use Rattle.pbwire.specs.declared.field.Value.{Value}
use Rattle.pbwire.specs.declared.field.Value.TheVariants.{Varint, Fixed64, Bytes, Fixed32}
use Rattle.pbwire.specs.declared.field.Field.{Field}
use Rattle.pbwire.specs.declared.field.WireFault.{WireFault}
use Rattle.pbwire.specs.Wire.{WireField, Part, Number, Eight, Payload, Four}

infixl 10 ◌>>=◌
abbrev pub ◌>>=◌ : {A B : Type 0} → Result A WireWhy → (A → Result B WireWhy) → Result B WireWhy
(Ok x) >>= f = f x
(Err e) >>= f = Err e

-- the models of a value and of a field, wherever they are in memory
abbrev pub part_of : Value → Part
part_of (Varint n) = Number n
part_of (Fixed64 bytes) = Eight bytes
part_of (Bytes bytes) = Payload bytes.now
part_of (Fixed32 bytes) = Four bytes

abbrev pub wire_field_of : Field → WireField
wire_field_of f = record { number = f.number; part = part_of f.value }

-- the result of a function, with `view` applied to its value
abbrev pub seen : {X Y : Type 0} → (X → Y) → Result X WireWhy → Result Y WireWhy
seen view (Ok x) = Ok (view x)
seen view (Err e) = Err e

-- the number with these seven bits and, above them, the groups that follow
abbrev pub with_group : ℕ → Result (ℕ × List ℕ) WireWhy → Result (ℕ × List ℕ) WireWhy
with_group b read = read >>= λ x. Ok (b % 128 + 128 * x.0, x.1)

-- the groups of a varint; the first argument is the number of groups that may still come, and the last of
-- these is at most 1
unfoldable pub groups_at : ℕ → List ℕ → Result (ℕ × List ℕ) WireWhy
groups_at zero bytes = Err why.Varint
groups_at (suc zero) [] = Err why.CutShort
groups_at (suc zero) (b ∷ bs) = if nat_le b 1 then Ok (b, bs) else Err why.Varint
groups_at (suc (suc left)) [] = Err why.CutShort
groups_at (suc (suc left)) (b ∷ bs) = if nat_lt b 128 then Ok (b, bs) else with_group b (groups_at (suc left) bs)

unfoldable pub varint_at : List ℕ → Result (ℕ × List ℕ) WireWhy
varint_at bytes = groups_at 10 bytes

-- a tag: a field number of at least 1 and a wire type, in 32 bits
unfoldable pub tag_at : List ℕ → Result (ℕ × List ℕ) WireWhy
tag_at bytes = do
  tag ← varint_at bytes
  if nat_le (2 ^ 32) tag.0 || nat_lt tag.0 8 then Err why.Tag else Ok tag

-- `n` bytes, and the rest
abbrev pub bytes_at : ℕ → List ℕ → Result (List ℕ × List ℕ) WireWhy
bytes_at n bytes = if nat_lt (length bytes) n then Err why.CutShort else Ok (take n bytes, drop n bytes)

-- the contents of a field with this wire type, and the rest
unfoldable pub part_at : ℕ → List ℕ → Result (Part × List ℕ) WireWhy
part_at wire_type bytes =
    if wire_type == 0 then (varint_at bytes >>= λ n. Ok (Number n.0, n.1))
    else if wire_type == 1 then (bytes_at 8 bytes >>= λ p. Ok (Eight p.0, p.1))
    else if wire_type == 2 then (varint_at bytes >>= λ n. bytes_at n.0 n.1 >>= λ p. Ok (Payload p.0, p.1))
    else if wire_type == 5 then (bytes_at 4 bytes >>= λ p. Ok (Four p.0, p.1))
    else Err why.WireType

-- one field, and the bytes after it
unfoldable pub field_at : List ℕ → Result (WireField × List ℕ) WireWhy
field_at bytes = do
  tag ← tag_at bytes
  part ← part_at (tag.0 % 8) tag.1
  Ok (record { number = tag.0 / 8; part = part.0 }, part.1)

-- the position of a reader in a message: the number of bytes that were read, the rest, and whether a fault
-- was met
pub record Cursor : Type 0 where
  pub at : ℕ
  pub rest : List ℕ
  pub failed : Bool

-- the item and the cursor after a field, or after a fault in its place
abbrev pub moved : Cursor → Result (WireField × List ℕ) WireWhy → Option (Result WireField WireFault) × Cursor
moved c (Ok x) = (Some (Ok x.0), record { at = c.at + (length c.rest - length x.1); rest = x.1; failed = false })
moved c (Err e) = (Some (Err (record { why = e; at = c.at })), record { at = c.at; rest = c.rest; failed = true })

-- the next item and the cursor after it; no item at the end of the message and after a fault
abbrev pub next_of : Cursor → Option (Result WireField WireFault) × Cursor
next_of c = if c.failed || (length c.rest == 0) then (None, c) else moved c (field_at c.rest)

abbrev pub seen_field : Result Field WireFault → Result WireField WireFault
seen_field (Ok f) = Ok (wire_field_of f)
seen_field (Err e) = Err e

abbrev pub seen_next : Option (Result Field WireFault) → Option (Result WireField WireFault)
seen_next None = None
seen_next (Some r) = Some (seen_field r)
