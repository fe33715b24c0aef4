use Rattle.std.proofs.Common.{◌∙◌, ap, option_map}
use Rattle.sqlite.specs.Held.{state}
use Rattle.csi_keeper.specs.facts.Reads.{if_ok}
use Rattle.csi_tables.proofs.ShownLemmas.{number_found, share_found}
use Rattle.csi_tables.specs.Reading.{share}
use Rattle.csi_tables.proofs.RefusalLemmas.{read_as, unread}
use Rattle.csi_tables.proofs.read.share.Goals as goal

pub returns : goal.returns
returns g c =
    read_as c.share_of.result c.in_ok-found.ensures
    (λ s shows what. let it = number_found s (state g.S.Store c.args.conn.now).now.trees shows.rows c.args.number c.in_ok-found.found what in if_ok (λ v read. read it.0 it.2 ∙ share_found it.0 ∙ ap (option_map share) it.3) c.share_of.result c.share_of.ensures.ok)
    (λ s shows known what is. let it = number_found s (state g.S.Store c.args.conn.now).now.trees shows.rows c.args.number c.in_ok-found.found what in c.share_of.ensures.refused is it.0 it.1 it.2)

pub returns-in_err-found : goal.returns-in_err-found
returns-in_err-found g c = unread c.from_residual.result c.in_err-found.field-0.0 (λ s shows none. none) c.in_err-found.ensures c.from_residual.ensures.1
