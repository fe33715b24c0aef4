-- The shortest encoding of a field: each varint in as few bytes as possible (encoding guide, "Base 128
-- Varints"). `laws::written` says that no other encoding is shorter.
use Rattle.std.specs.Prelude.{ℕ, zero, suc, ◌+◌, ◌*◌, ◌/◌, ◌%◌, List, [], ◌∷◌, ◌++◌, length, map, nat_lt, if◌then◌else◌}
use Rattle.std.specs.List.{flat_map}
use denote.Ref.{Bor}
use Rattle.pbwire.specs.Wire.{WireField, Part, Number, Eight, Payload, Four, kind_of}

-- a number in as few groups of seven bits as possible, at most one more than the first argument
unfoldable pub minimal : ℕ → ℕ → List ℕ
minimal zero n = n ∷ []
minimal (suc k) n = if nat_lt n 128 then n ∷ [] else (n % 128 + 128) ∷ minimal k (n / 128)

abbrev pub varint : ℕ → List ℕ
varint n = minimal 9 n

abbrev pub part : Part → List ℕ
part (Number n) = varint n
part (Eight p) = p
part (Payload p) = varint (length p) ++ p
part (Four p) = p

abbrev pub spelling : WireField → List ℕ
spelling e = varint (e.number * 8 + kind_of e.part) ++ part e.part

abbrev pub spellings : List WireField → List ℕ
spellings es = flat_map spelling es

-- an entry of a map of texts, its key and its value: an embedded message with the key as field 1 and
-- the value as field 2, both always there (encoding guide, "Maps")
abbrev pub map_entry : ℕ → List ℕ × List ℕ → WireField
map_entry number kv = record {
  number = number;
  part = Payload (spelling (record {
    number = 1;
    part = Payload kv.0;
  }) ++ spelling (record { number = 2; part = Payload kv.1 }));
}

-- the bytes of a key and a value that are borrowed
abbrev pub bytes_of : Bor (List ℕ) × Bor (List ℕ) → List ℕ × List ℕ
bytes_of kv = (kv.0.now, kv.1.now)

abbrev pub map_entries : ℕ → List (List ℕ × List ℕ) → List WireField
map_entries number kvs = map (map_entry number) kvs
