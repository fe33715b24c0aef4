use Rattle.std.proofs.Common.{◌∙◌, sym, subst, take, ◌+◌, arith, ℕ}
use Rattle.csi_keeper.specs.declared.volume.Volume.{Volume}
use Rattle.csi_columns.specs.Entries.{volume_entry}
use Rattle.csi_tables.specs.Holding.{IsStored, IsReadable}
use Rattle.csi_tables.specs.Reading.{AreReadOf, ShowsVolume}
use Rattle.csi_tables.specs.declared.fault.TablesFault.TheVariants.{Refused}
use Rattle.csi_tables.proofs.CellLemmas.{read_more, entry_at, handed_on}
use Rattle.csi_tables.proofs.ReadingLemmas.{read_next, read_whole}
use Rattle.csi_tables.proofs.rows.volumes_from.Goals as goal

pub loop-row-preserved : goal.loop-row-preserved
loop-row-preserved c = (
  λ es all are. c.in_ok-push.ensures.ok
      ∙ read_more volume_entry (λ (e : ℕ × Volume). e.1) IsStored c.args.rows.now es c.loop-row.row-index c.row-item.result c.loop-row.volumes c.in_ok-volume_from.field-0 (omega arith)
      (λ e p is. c.in_ok-volume_from.ensures.ok e p (c.row-item.is ∙ is)) all are (c.loop-row.invariant.0 es all are),
  subst (AreReadOf ShowsVolume (take (c.loop-row.row-index + 1) c.args.rows.now)) (sym c.in_ok-push.ensures.ok)
      (read_next ShowsVolume c.args.rows.now c.loop-row.row-index c.row-item.result c.loop-row.volumes c.in_ok-volume_from.field-0 (omega arith) c.loop-row.invariant.1
      (subst (λ r. ShowsVolume r c.in_ok-volume_from.field-0) (c.row-item.is) c.in_ok-volume_from.ensures.exact)),
)

pub returns-clause-exact : goal.returns-clause-exact
returns-clause-exact c = read_whole ShowsVolume c.args.rows.now c.loop-row.row-index c.loop-row.volumes (omega arith) c.loop-row.invariant.1

pub returns-in_err-volume_from-clause-refused : goal.returns-in_err-volume_from-clause-refused
returns-in_err-volume_from-clause-refused c is es all are =
    let e = entry_at volume_entry IsReadable c.args.rows.now es c.loop-row.row-index c.row-item.result (omega arith) all are in
    c.volume_from.ensures.refused (handed_on c.from_residual.result c.volume_from.result c.in_err-volume_from.field-0.0 Refused c.from_residual.ensures.1 is c.in_err-volume_from.was) e.0 e.1 (c.row-item.is ∙ e.2)
