use Rattle.std.proofs.Common.{rules}
use Rattle.pbmessage.specs.Canon.{row_fields}
use Rattle.pbmessage.specs.facts.Writing.{extended_keeps, keeps_on, wrote_next, wrote_placed, wrote_signed}
use Rattle.csi_codec.proofs.listing.PlacedVolumeWrittenCsi.write.Goals as goal

pub returns-in_err-put_joined-clause-kept : goal.returns-in_err-put_joined-clause-kept
returns-in_err-put_joined-clause-kept c = keeps_on _ _ _ c.put_joined.ensures.kept c.put_signed.ensures.kept

pub returns-clause-ok : goal.returns-clause-ok
unfolding row_fields
returns-clause-ok c =
    wrote_placed c.put_placement.result _ _ _ _ _ _
    (wrote_next _ _ _ _ _ (wrote_signed _ _ 1 c.args.self.now.bytes (search rules) c.in_ok-put_signed.ensures.ok) c.in_ok-put_joined.ensures.ok) c.put_placement.ensures.ok

pub returns-clause-kept : goal.returns-clause-kept
returns-clause-kept c = extended_keeps c.put_placement.result _ _ _ _ (keeps_on _ _ _ c.put_joined.ensures.kept c.put_signed.ensures.kept) c.put_placement.ensures.ok c.put_placement.ensures.err
