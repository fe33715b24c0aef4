use Rattle.csi_adoption.proofs.FaultLemmas.{none_takes}
use Rattle.csi_adoption.proofs.volumes.VolumesFoldFold.add_row.Goals as goal

pub returns-clause-folded : goal.returns-clause-folded
returns-clause-folded c first rows h = record {
  kinds = (rw c.in_ok-add_row.was at c.add_row.ensures.folded) first.kinds rows h.kinds;
  rising = (rw c.in_ok-add_row-2.was at c.add_row-2.ensures.folded) first.rising rows h.rising;
  number = (rw c.in_ok-add_row-3.was at c.add_row-3.ensures.folded) first.number rows h.number;
  name = (rw c.in_ok-add_row-4.was at c.add_row-4.ensures.folded) first.name rows h.name;
  pool = (rw c.in_ok-add_row-5.was at c.add_row-5.ensures.folded) first.pool rows h.pool;
  bytes = (rw c.in_ok-add_row-6.was at c.add_row-6.ensures.folded) first.bytes rows h.bytes;
  caps = (rw c.in_ok-add_row-7.was at c.add_row-7.ensures.folded) first.caps rows h.caps;
  params = (rw c.in_ok-add_row-8.was at c.add_row-8.ensures.folded) first.params rows h.params;
  pool_bytes = (rw c.in_ok-add_row-9.was at c.add_row-9.ensures.folded) first.pool_bytes rows h.pool_bytes;
  pool_volumes = (rw c.in_ok-add_row-10.was at c.add_row-10.ensures.folded) first.pool_volumes rows h.pool_volumes;
  rows_are = (rw c.in_ok-add_row-11.was at c.add_row-11.ensures.folded) first.rows rows h.rows_are;
}

pub returns-in_err-add_row-9-clause-error_only_if : goal.returns-in_err-add_row-9-clause-error_only_if
returns-in_err-add_row-9-clause-error_only_if c = absurd (none_takes c.args.self.now.pool_bytes.parts.items (rw c.in_err-add_row-9.was at c.add_row-9.ensures.error_only_if))

pub returns-in_err-add_row-10-clause-error_only_if : goal.returns-in_err-add_row-10-clause-error_only_if
returns-in_err-add_row-10-clause-error_only_if c = absurd (none_takes c.args.self.now.pool_volumes.parts.items (rw c.in_err-add_row-10.was at c.add_row-10.ensures.error_only_if))
