use Rattle.std.proofs.Common.{◌∙◌, ap, is_some}
use Rattle.sqlite.specs.Held.{state}
use Rattle.csi_tables.proofs.ShownLemmas.{number_found, some_found}
use Rattle.csi_tables.proofs.RefusalLemmas.{read_as, unread}
use Rattle.csi_tables.proofs.read.has_volume.Goals as goal

pub returns-clause-reads : goal.returns-clause-reads
returns-clause-reads g c =
    read_as _ c.in_ok-found.ensures
    (λ s shows what. let it = number_found s (state g.S.Store c.args.conn.now).now.trees shows.rows c.args.number c.in_ok-found.found what in c.is_some.ensures ∙ ap is_some it.2 ∙ some_found it.0 ∙ ap is_some it.3)
    (λ s shows known what is. absurd (cc (is)))

pub returns-in_err-found-clause-reads : goal.returns-in_err-found-clause-reads
returns-in_err-found-clause-reads g c = unread c.from_residual.result c.in_err-found.field-0.0 (λ s shows none. none) c.in_err-found.ensures c.from_residual.ensures.1

pub returns-clause-exact : goal.returns-clause-exact
returns-clause-exact g c = record { rows = c.in_ok-found.found; shown = λ clean ours. (c.in_ok-found.ensures.ok clean).what ours; read = c.is_some.ensures }
