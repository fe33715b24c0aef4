use Rattle.std.proofs.Common.{◌∙◌}
use Rattle.sqlite.specs.Held.{state}
use Rattle.csi_keeper.specs.facts.Reads.{if_ok}
use Rattle.csi_tables.proofs.ShownLemmas.{name_found, name_readable}
use Rattle.csi_tables.proofs.RefusalLemmas.{read_as, unread}
use Rattle.csi_tables.proofs.read.by_name.Goals as goal

pub returns-clause-reads : goal.returns-clause-reads
returns-clause-reads g c =
    read_as c.volume_of.result c.in_ok-found.ensures
    (λ s shows what. let it = name_found s (state g.S.Store c.args.conn.now).now.trees shows.rows c.args.name.now c.in_ok-found.found what in if_ok (λ v read. read it.0 it.1 it.2 ∙ it.3) c.volume_of.result c.volume_of.ensures.ok)
    (λ s shows known what is. let it = name_readable s (state g.S.Store c.args.conn.now).now.trees shows.rows known c.args.name.now c.in_ok-found.found what in c.volume_of.ensures.refused is it.0 it.1 it.2)

pub returns-in_err-found-clause-reads : goal.returns-in_err-found-clause-reads
returns-in_err-found-clause-reads g c = unread c.from_residual.result c.in_err-found.field-0.0 (λ s shows none. none) c.in_err-found.ensures c.from_residual.ensures.1

pub returns-clause-exact : goal.returns-clause-exact
returns-clause-exact g c = if_ok (λ x read. record { rows = c.in_ok-found.found; shown = λ clean ours. (c.in_ok-found.ensures.ok clean).what ours; read = read }) c.volume_of.result c.volume_of.ensures.exact
