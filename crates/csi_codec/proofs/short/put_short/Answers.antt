use Rattle.std.proofs.Common.{◌≡◌, ◌+◌, ◌-◌, ◌++◌, ◌∷◌, [], ◌∙◌, ap, ap₂, append-nil, arith, drop, length, length-append, rules, List, ℕ}
use Rattle.std.specs.Int.{cast_unsigned, w64}
use Rattle.std.proofs.lemmas.List.{drop_all}
use Rattle.csi_codec.specs.Listing.{id_field, size_bytes}
use Rattle.csi_codec.specs.messages.Volume.{placement_bytes}
use Rattle.csi_codec.proofs.ListingLemmas.{is_short, put_together}
use Rattle.csi_codec.proofs.short.put_short.Goals as goal

pub returns-clause-written : goal.returns-clause-written
returns-clause-written c =
    let e = c.args.entry.now in
    let len = 174 - c.put_size-start.result in
    let id = id_field e.prefix.now e.number in
    let placed = placement_bytes e.placement.now.context e.placement.now.topology in
    let same : c.cast_unsigned.result ≡ cast_unsigned w64 e.bytes = search rules in
    let size = ap (λ (n : ℕ). size_bytes n) same in
    let long = ap (λ (bs : List ℕ). length bs) size in
    let end = ap (λ (bs : List ℕ). length bs) c.ending-ending.ensures.value in
    let counted : len ≡ length (size_bytes (cast_unsigned w64 e.bytes)) + (length id + length placed) = omega (arith, length-append placed (18 ∷ 0 ∷ [])) in
    let rest : drop 176 c.args.buffer.now ≡ [] = drop_all 176 c.args.buffer.now (omega arith) in
    let ending = ap₂ (λ (xs ys : List ℕ). xs ++ ys) c.ending-ending.ensures.value rest ∙ append-nil (placed ++ (18 ∷ 0 ∷ [])) in
    put_together e _ len counted
    (c.put_before.ensures.written
    ∙ ap (λ (bs : List ℕ). 10 ∷ (len + 4) ∷ 10 ∷ len ∷ bs)
    (c.put_size-start.ensures.written ∙ ap₂ (λ (xs ys : List ℕ). xs ++ ys) size (c.put_id-id.ensures.written ∙ ap (λ (bs : List ℕ). id ++ bs) (c.put_before-placed.ensures.written ∙ ending))))

pub returns-clause-short : goal.returns-clause-short
returns-clause-short c =
    let e = c.args.entry.now in
    let len = 174 - c.put_size-start.result in
    let id = id_field e.prefix.now e.number in
    let placed = placement_bytes e.placement.now.context e.placement.now.topology in
    let same : c.cast_unsigned.result ≡ cast_unsigned w64 e.bytes = search rules in
    let long = ap (λ (n : ℕ). length (size_bytes n)) same in
    let end = ap (λ (bs : List ℕ). length bs) c.ending-ending.ensures.value in
    let counted : len ≡ length (size_bytes (cast_unsigned w64 e.bytes)) + (length id + length placed) = omega (arith, length-append placed (18 ∷ 0 ∷ [])) in
    is_short e len counted (omega (arith, c.if-prefix-eq0.false)) c.if-len-ge-SHORT_VOLUME.false

pub returns-clause-fitting : goal.returns-clause-fitting
returns-clause-fitting c = (search rules, c.put_id-id.ensures.fitting, c.ending-ending.ensures.fitting.0, c.ending-ending.ensures.fitting.1)
