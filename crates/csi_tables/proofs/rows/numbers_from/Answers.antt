use Rattle.std.proofs.Common.{◌∙◌, ◌+◌, sym, ap, arith, subst, take, ℕ, [], ◌∷◌}
use Rattle.sqlite.specs.Order.{column, Row}
use Rattle.csi_sql.specs.Rows.{number_value}
use Rattle.csi_tables.specs.Reading.{AreReadOf, ShowsNumber}
use Rattle.csi_tables.specs.declared.fault.TablesFault.TheVariants.{Refused}
use Rattle.csi_tables.proofs.CellLemmas.{entry_of, handed_on}
use Rattle.csi_tables.proofs.ReadingLemmas.{number_next, read_next, read_whole}
use Rattle.csi_tables.proofs.rows.numbers_from.Goals as goal

pub loop-row-preserved : goal.loop-row-preserved
loop-row-preserved c = (
  λ ns are. c.in_ok-push.ensures.ok
      ∙ number_next c.args.rows.now c.loop-row.row-index c.row-item.result c.loop-row.numbers c.in_ok-number_in.field-0 (omega arith)
      (subst (λ r. ShowsNumber r c.in_ok-number_in.field-0) c.row-item.is c.in_ok-number_in.ensures.ok) ns are (c.loop-row.invariant.0 ns are),
  subst (AreReadOf ShowsNumber (take (c.loop-row.row-index + 1) c.args.rows.now)) (sym c.in_ok-push.ensures.ok)
      (read_next ShowsNumber c.args.rows.now c.loop-row.row-index c.row-item.result c.loop-row.numbers c.in_ok-number_in.field-0 (omega arith) c.loop-row.invariant.1
      (subst (λ r. ShowsNumber r c.in_ok-number_in.field-0) c.row-item.is c.in_ok-number_in.ensures.ok)),
)

pub returns-clause-exact : goal.returns-clause-exact
returns-clause-exact c = read_whole ShowsNumber c.args.rows.now c.loop-row.row-index c.loop-row.numbers (omega arith) c.loop-row.invariant.1

pub returns-in_err-number_in-clause-refused : goal.returns-in_err-number_in-clause-refused
returns-in_err-number_in-clause-refused c is ns are =
    let e = entry_of (λ (n : ℕ). number_value n ∷ []) c.args.rows.now ns c.loop-row.row-index c.row-item.result (omega arith) are in
    c.number_in.ensures.refused (handed_on c.from_residual.result c.number_in.result c.in_err-number_in.field-0.0 Refused c.from_residual.ensures.1 is c.in_err-number_in.was) e.0 (ap (λ (r : Row). column r 0) (c.row-item.is ∙ e.1))
