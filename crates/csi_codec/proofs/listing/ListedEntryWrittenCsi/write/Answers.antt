use Rattle.std.proofs.Common.{◌≡◌, ◌++◌, [], ◌∷◌, ℕ, ℤ, List, OnOk, of_z, rules, subst, to_z, w64}
use Rattle.std.specs.Fmt.{decimal}
use Rattle.std.proofs.lemmas.Int.{to_z-of_z}
use Rattle.pbwire.specs.Wire.{WireField}
use Rattle.pbwire.specs.Writing.{spellings}
use Rattle.pbmessage.specs.Canon.{bytes_of, payload_fields, row_fields}
use Rattle.csi_codec.specs.Listing.{placed_volume}
use Rattle.csi_codec.specs.messages.Volume.{canon_nodes, canon_volume}
use Rattle.pbmessage.specs.facts.Writing.{keeps_on, wrote_then}
use Rattle.csi_codec.proofs.listing.ListedEntryWrittenCsi.write.Goals as goal

pub returns-clause-ok : goal.returns-clause-ok
unfolding row_fields
returns-clause-ok c =
    let entry = c.args.self.now in
    let old = c.args.out.now.items in
    let new = c.put_message-2.new.out.items in
    let volume : ℤ → List ℕ → List WireField = λ z digits. payload_fields 1 (bytes_of (canon_volume (placed_volume z (entry.prefix.now ++ digits) entry.placement.now)) ∷ []) in
    let nodes : List WireField = payload_fields 2 (bytes_of (canon_nodes entry.nodes.now) ∷ []) in
    subst (λ (z : ℤ). OnOk c.put_message-2.result (new ≡ old ++ spellings (volume z (decimal entry.number) ++ nodes))) (to_z-of_z w64 entry.bytes (search rules))
    (subst (λ (digits : List ℕ). OnOk c.put_message-2.result (new ≡ old ++ spellings (volume (to_z w64 (of_z w64 entry.bytes)) digits ++ nodes))) c.format.ensures.text
    (wrote_then c.put_message-2.result old c.put_message.new.out.items new (volume (to_z w64 (of_z w64 entry.bytes)) c.format.result.now) nodes c.in_ok-put_message.ensures.ok c.put_message-2.ensures.ok))

pub returns-clause-kept : goal.returns-clause-kept
returns-clause-kept c = keeps_on _ _ _ c.put_message-2.ensures.kept c.put_message.ensures.kept
