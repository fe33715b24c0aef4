-- The entry of a volume in which each length takes one byte.
use Rattle.std.proofs.Common.{◌≡◌, ◌∙◌, Result, Ok, Err, OnOk, is_ok, if◌then◌else◌, ℕ, List, [], ◌∷◌, ◌++◌, ◌+◌, ◌*◌, ◌^◌, ◌<◌, ◌≤◌, ap, ap₂, sym, refl, rules, subst, length, length-append, append_assoc, arith}
use Rattle.std.proofs.lemmas.Grind.{flat_map-append}
use Rattle.std.proofs.lemmas.List.{append-nil}
use Rattle.std.specs.Fmt.{decimal}
use Rattle.std.specs.Int.{cast_unsigned, w64}
use Rattle.pbwire.specs.Wire.{Payload}
use Rattle.pbwire.specs.Writing.{varint, spelling, spellings}
use Rattle.pbmessage.specs.Canon.{bytes_of, map_row, messages_row, payload_fields, row_fields, signed_row, text_row, FitsInner, FitsTexts}
use Rattle.pbmessage.specs.facts.Writing.{joined_row}
use Rattle.csi_types.specs.declared.responses.Response.TheVariants as response
use Rattle.csi_codec.specs.declared.listing.ListedEntry.{ListedEntry}
use Rattle.csi_codec.specs.Listing.{IsShort, id_field, listed_entry, listed_id, placed_volume, short_entry, short_volume, size_bytes}
use Rattle.csi_codec.specs.Methods.{response_bytes, FitsResponse}
use Rattle.csi_codec.specs.facts.Listing.{entries_only}
use Rattle.csi_codec.specs.messages.Topology.{canon_map}
use Rattle.csi_codec.specs.messages.Volume.{canon_entry, canon_nodes, canon_volume, placement_bytes, FitsVolume}

-- the law `pbwire::laws::short`
abbrev Short : Type 0
Short = (n : ℕ) → n < 128 → varint n ≡ n ∷ []

short_field : Short → (k : ℕ) (p : List ℕ) → k * 8 + 2 < 128 → length p < 128 → spelling (record { number = k; part = Payload p }) ≡ (k * 8 + 2) ∷ length p ∷ p
short_field law k p low len =
    let tag = law (k * 8 + 2) low in
    let size = law (length p) len in
    rw (tag, size) refl

abbrev placed : ListedEntry → List ℕ
placed e = placement_bytes e.placement.now.context e.placement.now.topology

abbrev volume_bytes : ListedEntry → List ℕ
volume_bytes e = bytes_of (canon_volume (placed_volume e.bytes (listed_id e) e.placement.now))

-- the fields of a volume, in three parts
volume_parts : (e : ListedEntry) → volume_bytes e ≡ spellings (row_fields (signed_row 1 e.bytes)) ++ (spellings (row_fields (text_row 2 (listed_id e))) ++ placed e)
volume_parts e =
    let size = row_fields (signed_row 1 e.bytes) in
    let id = row_fields (text_row 2 (listed_id e)) in
    let context = row_fields (map_row 3 e.placement.now.context) in
    let topology = row_fields (messages_row canon_map 5 e.placement.now.topology) in
    ap spellings (append_assoc (size ++ id) context topology)
    ∙ flat_map-append spelling (size ++ id) (context ++ topology)
    ∙ ap (λ (bs : List ℕ). bs ++ placed e) (flat_map-append spelling size id)
    ∙ append_assoc (spellings size) (spellings id) (placed e)

volume_is : Short → (e : ListedEntry) (size : List ℕ) → size ≡ spellings (row_fields (signed_row 1 e.bytes)) → 1 ≤ length e.prefix.now → length e.prefix.now + length (decimal e.number) < 128
    → volume_bytes e ≡ size ++ ((18 ∷ (length e.prefix.now + length (decimal e.number)) ∷ listed_id e) ++ placed e)
volume_is law e size is some short =
    let len : length (listed_id e) ≡ length e.prefix.now + length (decimal e.number) = length-append e.prefix.now (decimal e.number) in
    let id : spellings (row_fields (text_row 2 (listed_id e))) ≡ 18 ∷ (length e.prefix.now + length (decimal e.number)) ∷ listed_id e =
    sym (joined_row 2 e.prefix.now (decimal e.number) some) ∙ short_field law 2 (listed_id e) (omega arith) (omega (arith, len, short)) ∙ ap (λ (n : ℕ). 18 ∷ n ∷ listed_id e) len in
    volume_parts e ∙ ap₂ (λ (xs ys : List ℕ). xs ++ (ys ++ placed e)) (sym is) id

no_nodes : (e : ListedEntry) → e.nodes.now ≡ [] → FitsInner FitsTexts canon_nodes e.nodes.now
unfolding row_fields
no_nodes e none = subst (λ (ts : List (List ℕ)). FitsInner FitsTexts canon_nodes ts) (sym none) (tt, omega arith)

empty_status : Short → spellings (payload_fields 2 (bytes_of (canon_nodes []) ∷ [])) ≡ 18 ∷ 0 ∷ []
unfolding row_fields
empty_status law = append-nil (spelling (record { number = 2; part = Payload [] })) ∙ short_field law 2 [] (omega arith) (omega arith)

entry_parts : (e : ListedEntry) → bytes_of (canon_entry (listed_entry e)) ≡ spelling (record { number = 1; part = Payload (volume_bytes e) }) ++ spellings (payload_fields 2 (bytes_of (canon_nodes e.nodes.now) ∷ []))
unfolding row_fields
entry_parts e = refl

-- an entry in which the volume's length takes one byte, and which has no nodes
inner_is : Short → (e : ListedEntry) (len : ℕ) → e.nodes.now ≡ [] → len ≡ length (volume_bytes e) → len < 122
    → bytes_of (canon_entry (listed_entry e)) ≡ (10 ∷ len ∷ volume_bytes e) ++ (18 ∷ 0 ∷ [])
inner_is law e len none is short =
    let volume : spelling (record { number = 1; part = Payload (volume_bytes e) }) ≡ 10 ∷ len ∷ volume_bytes e =
    short_field law 1 (volume_bytes e) (omega arith) (omega (arith, is, short)) ∙ ap (λ (n : ℕ). 10 ∷ n ∷ volume_bytes e) (sym is) in
    let status : spellings (payload_fields 2 (bytes_of (canon_nodes e.nodes.now) ∷ [])) ≡ 18 ∷ 0 ∷ [] =
    ap (λ (ts : List (List ℕ)). spellings (payload_fields 2 (bytes_of (canon_nodes ts) ∷ []))) none ∙ empty_status law in
    entry_parts e ∙ ap₂ (λ (xs ys : List ℕ). xs ++ ys) volume status

inner_length : Short → (e : ListedEntry) (len : ℕ) → e.nodes.now ≡ [] → len ≡ length (volume_bytes e) → len < 122 → length (bytes_of (canon_entry (listed_entry e))) ≡ len + 4
inner_length law e len none is short = ap length (inner_is law e len none is short) ∙ omega (arith, is, length-append (10 ∷ len ∷ volume_bytes e) (18 ∷ 0 ∷ []))

entry_is : Short → (e : ListedEntry) (len : ℕ) → e.nodes.now ≡ [] → len ≡ length (volume_bytes e) → len < 122
    → response_bytes (response.List (listed_entry e ∷ []) []) ≡ (10 ∷ (len + 4) ∷ 10 ∷ len ∷ volume_bytes e) ++ (18 ∷ 0 ∷ [])
entry_is law e len none is short =
    let size : length (bytes_of (canon_entry (listed_entry e))) ≡ len + 4 = inner_length law e len none is short in
    entries_only (listed_entry e ∷ [])
    ∙ append-nil (spelling (record { number = 1; part = Payload (bytes_of (canon_entry (listed_entry e))) }))
    ∙ short_field law 1 (bytes_of (canon_entry (listed_entry e))) (omega arith) (omega (arith, size, short))
    ∙ ap₂ (λ (n : ℕ) (bs : List ℕ). 10 ∷ n ∷ bs) size (inner_is law e len none is short)

short_length : (e : ListedEntry) → length (short_volume e) ≡ length (size_bytes (cast_unsigned w64 e.bytes)) + (length (id_field e.prefix.now e.number) + length (placed e))
unfolding short_volume
short_length e =
    omega (arith, length-append (size_bytes (cast_unsigned w64 e.bytes)) (id_field e.prefix.now e.number ++ placed e), length-append (id_field e.prefix.now e.number) (placed e))

volume_short : Short → (e : ListedEntry) → IsShort e → volume_bytes e ≡ short_volume e
unfolding short_volume
volume_short law e so =
    volume_is law e (size_bytes (cast_unsigned w64 e.bytes)) refl so.named (omega (arith, so.low, short_length e, length-append e.prefix.now (decimal e.number)))

pub short_is : Short → (e : ListedEntry) → e.nodes.now ≡ [] → IsShort e → response_bytes (response.List (listed_entry e ∷ []) []) ≡ short_entry e
unfolding short_entry
short_is law e none so =
    let is : volume_bytes e ≡ short_volume e = volume_short law e so in
    let low : length (volume_bytes e) < 122 = omega (arith, so.low, ap length is) in
    entry_is law e (length (volume_bytes e)) none refl low
    ∙ ap (λ (bs : List ℕ). 10 ∷ (length bs + 4) ∷ 10 ∷ length bs ∷ (bs ++ 18 ∷ 0 ∷ [])) is

pub short_fits : Short → (e : ListedEntry) → e.nodes.now ≡ [] → IsShort e → FitsVolume (placed_volume e.bytes (listed_id e) e.placement.now) → FitsResponse (response.List (listed_entry e ∷ []) [])
unfolding FitsResponse
short_fits law e none so fits =
    let low : length (volume_bytes e) < 122 = omega (arith, so.low, ap length (volume_short law e so)) in
    let small : length (volume_bytes e) < 2 ^ 64 = omega (arith, low) in
    let inner : length (bytes_of (canon_entry (listed_entry e))) < 2 ^ 64 = omega (arith, inner_length law e (length (volume_bytes e)) none refl low, low) in
    (((((fits, small), no_nodes e none), inner), tt), search rules)

-- the parts of an entry, as they are put together
pub put_together : (e : ListedEntry) (whole : List ℕ) (len : ℕ) → len ≡ length (size_bytes (cast_unsigned w64 e.bytes)) + (length (id_field e.prefix.now e.number) + length (placed e))
    → whole ≡ 10 ∷ (len + 4) ∷ 10 ∷ len ∷ (size_bytes (cast_unsigned w64 e.bytes) ++ (id_field e.prefix.now e.number ++ (placed e ++ 18 ∷ 0 ∷ []))) → whole ≡ short_entry e
unfolding short_entry short_volume
put_together e whole len counted is =
    let size : List ℕ = size_bytes (cast_unsigned w64 e.bytes) in
    let id : List ℕ = id_field e.prefix.now e.number in
    let same : len ≡ length (short_volume e) = counted ∙ sym (short_length e) in
    is
    ∙ ap (λ (bs : List ℕ). 10 ∷ (len + 4) ∷ 10 ∷ len ∷ bs) (ap (λ (bs : List ℕ). size ++ bs) (sym (append_assoc id (placed e) (18 ∷ 0 ∷ []))) ∙ sym (append_assoc size (id ++ placed e) (18 ∷ 0 ∷ [])))
    ∙ ap (λ (n : ℕ). 10 ∷ (n + 4) ∷ 10 ∷ n ∷ (short_volume e ++ 18 ∷ 0 ∷ [])) same

pub is_short : (e : ListedEntry) (len : ℕ) → len ≡ length (size_bytes (cast_unsigned w64 e.bytes)) + (length (id_field e.prefix.now e.number) + length (placed e))
    → 1 ≤ length e.prefix.now → len < 122 → IsShort e
is_short e len counted named low = record { named = named; low = omega (arith, counted, short_length e, low) }

-- the appended bytes, if there was room for them
pub extended : {A E : Type 0} (r : Result A E) (new old more : List ℕ) → new ≡ (if is_ok r then old ++ more else old) → OnOk r (new ≡ old ++ more)
extended (Ok x) new old more is = is
extended (Err e) new old more is = tt
