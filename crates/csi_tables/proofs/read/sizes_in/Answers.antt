use Rattle.std.proofs.Common.{◌∙◌, List, subst}
use Rattle.sqlite.specs.Held.{state}
use Rattle.csi_keeper.specs.State.{sizes}
use Rattle.csi_keeper.specs.facts.Reads.{if_ok}
use Rattle.sqlite.specs.Order.{Row}
use Rattle.csi_tables.specs.Reading.{AreReadOf, ShowsNumber}
use Rattle.csi_tables.proofs.ShownLemmas.{sizes_rows}
use Rattle.csi_tables.proofs.RefusalLemmas.{read_numbers, unread}
use Rattle.csi_tables.proofs.read.sizes_in.Goals as goal

pub returns-clause-reads : goal.returns-clause-reads
returns-clause-reads g c = read_numbers c.numbers_from.result c.deref.result.now (λ s. sizes s c.args.pool.now) c.in_ok-rows.ensures c.numbers_from.ensures.ok c.numbers_from.ensures.refused
    (λ s shows what. c.deref.ensures.value ∙ sizes_rows s (state g.S.Store c.args.conn.now).now.trees shows.rows c.args.pool.now c.in_ok-rows.rows.items what)

pub returns-in_err-rows-clause-reads : goal.returns-in_err-rows-clause-reads
returns-in_err-rows-clause-reads g c = unread c.from_residual.result c.in_err-rows.field-0.0 (λ s shows none. none) c.in_err-rows.ensures c.from_residual.ensures.1

pub returns-clause-exact : goal.returns-clause-exact
returns-clause-exact g c = if_ok (λ x read. record { rows = c.in_ok-rows.rows.items; shown = λ clean ours. (c.in_ok-rows.ensures.ok clean).what ours; read = subst (λ (rows : List Row). AreReadOf ShowsNumber rows x) c.deref.ensures.value read }) c.numbers_from.result c.numbers_from.ensures.exact
