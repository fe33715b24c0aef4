use Rattle.std.proofs.Common.{◌∙◌, List, subst}
use Rattle.sqlite.specs.Held.{state}
use Rattle.csi_keeper.specs.facts.Reads.{if_ok}
use Rattle.sqlite.specs.Order.{Row}
use Rattle.csi_tables.specs.Reading.{AreReadOf, ShowsAttachment}
use Rattle.csi_tables.proofs.ShownLemmas.{node_rows, nodes_readable}
use Rattle.csi_tables.proofs.RefusalLemmas.{read_as, unread}
use Rattle.csi_tables.proofs.read.attachments.Goals as goal

pub returns-clause-reads : goal.returns-clause-reads
returns-clause-reads g c =
    read_as c.attachments_from.result c.in_ok-rows.ensures
    (λ s shows what. let it = node_rows s (state g.S.Store c.args.conn.now).now.trees shows.rows c.args.number c.in_ok-rows.rows.items what in if_ok (λ xs read. read it.0 it.1 (c.deref.ensures.value ∙ it.2) ∙ it.3) c.attachments_from.result c.attachments_from.ensures.ok)
    (λ s shows known what is. let it = nodes_readable s (state g.S.Store c.args.conn.now).now.trees shows.rows known c.args.number c.in_ok-rows.rows.items what in c.attachments_from.ensures.refused is it.0 it.1 (c.deref.ensures.value ∙ it.2))

pub returns-in_err-rows-clause-reads : goal.returns-in_err-rows-clause-reads
returns-in_err-rows-clause-reads g c = unread c.from_residual.result c.in_err-rows.field-0.0 (λ s shows none. none) c.in_err-rows.ensures c.from_residual.ensures.1

pub returns-clause-exact : goal.returns-clause-exact
returns-clause-exact g c = if_ok (λ x read. record { rows = c.in_ok-rows.rows.items; shown = λ clean ours. (c.in_ok-rows.ensures.ok clean).what ours; read = subst (λ (rows : List Row). AreReadOf ShowsAttachment rows x) c.deref.ensures.value read }) c.attachments_from.result c.attachments_from.ensures.exact
