use Rattle.std.proofs.lemmas.Result.{IfOk-weaker}
use Rattle.csi_change_store.specs.Items.{seen_notes}
use Rattle.csid.proofs.ReadingLemmas.{taken}
use Rattle.csid.proofs.change_store.read_tables.Goals as goal

pub returns-clause-taken : goal.returns-clause-taken
returns-clause-taken g c =
    IfOk-weaker c.keeper_over.result _ _
    (λ t it. taken g.S.Store c.args.config.now c.args.conn g.P.Peer.exchanged c.args.change_store.now c.gives_rows.ensures c.one_state.ensures _ _ (seen_notes c.in-Ok.notes) _ t c.in-Ok.ensures.rows c.in_ok-check_or_make_meta.ensures.settled it)
    c.keeper_over.ensures.adopted
