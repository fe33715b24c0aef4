use Rattle.std.proofs.Common.{◌∙◌, sym, ap}
use Rattle.sqlite.specs.Order.{Row, column}
use Rattle.csi_keeper.specs.facts.Reads.{if_ok}
use Rattle.csi_sql.specs.declared.formats.TheConstants.{LATEST_FORMAT}
use Rattle.csi_tables.proofs.ReadingLemmas.{one_number, stated}
use Rattle.csi_tables.proofs.RefusalLemmas.{has_next, read_as, unread}
use Rattle.csi_tables.proofs.read.next_number.Goals as goal

pub returns-clause-exact : goal.returns-clause-exact
returns-clause-exact g c = if_ok (λ n is. record { rows = c.in_ok-row.row; shown = λ clean ours. (c.in_ok-row.ensures.ok clean).what ours; read = is }) c.number_in.result c.number_in.ensures.ok

pub returns-clause-reads : goal.returns-clause-reads
returns-clause-reads g c =
    read_as c.number_in.result c.in_ok-row.ensures
    (λ s shows what. if_ok (λ n is. one_number n s.next (sym is ∙ ap (λ (r : Row). column r 0) what.2 ∙ stated _ LATEST_FORMAT s.next what.0 shows.rows.meta what.1)) c.number_in.result c.number_in.ensures.ok)
    (λ s shows known what is. c.number_in.ensures.refused is s.next (ap (λ (r : Row). column r 0) what.2 ∙ stated _ LATEST_FORMAT s.next what.0 shows.rows.meta what.1))

pub returns-in_err-row-clause-reads : goal.returns-in_err-row-clause-reads
returns-in_err-row-clause-reads g c = unread c.from_residual.result c.in_err-row.field-0.0 (λ s shows. has_next s shows) c.in_err-row.ensures c.from_residual.ensures.1
