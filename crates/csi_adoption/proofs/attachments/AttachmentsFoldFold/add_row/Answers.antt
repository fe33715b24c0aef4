use Rattle.csi_adoption.proofs.FaultLemmas.{none_takes}
use Rattle.csi_adoption.proofs.attachments.AttachmentsFoldFold.add_row.Goals as goal

pub returns-clause-folded : goal.returns-clause-folded
returns-clause-folded c first rows h = record {
  kinds = (rw c.in_ok-add_row.was at c.add_row.ensures.folded) first.kinds rows h.kinds;
  rising = (rw c.in_ok-add_row-2.was at c.add_row-2.ensures.folded) first.rising rows h.rising;
  cap = (rw c.in_ok-add_row-3.was at c.add_row-3.ensures.folded) first.cap rows h.cap;
  readonly = (rw c.in_ok-add_row-4.was at c.add_row-4.ensures.folded) first.readonly rows h.readonly;
  node = (rw c.in_ok-add_row-5.was at c.add_row-5.ensures.folded) first.node rows h.node;
  node_volumes = (rw c.in_ok-add_row-6.was at c.add_row-6.ensures.folded) first.node_volumes rows h.node_volumes;
}

pub returns-in_err-add_row-6-clause-error_only_if : goal.returns-in_err-add_row-6-clause-error_only_if
returns-in_err-add_row-6-clause-error_only_if c = absurd (none_takes c.args.self.now.node_volumes.parts.items (rw c.in_err-add_row-6.was at c.add_row-6.ensures.error_only_if))
