use Rattle.csid.proofs.ReadingLemmas.{copied}
use Rattle.csid.proofs.change_store.read_change_store.Goals as goal

pub returns-in-Ok-clause-copied : goal.returns-in-Ok-clause-copied
returns-in-Ok-clause-copied g c =
    copied g.S.Store c.args.config.now c.args.conn g.P.Peer.exchanged c.args.change_store _ c.copied.new.keeper c.in-Ok.keeper _ _ c.in_ok-tables.ensures.taken c.copied.ensures.keeper_unchanged c.in-Ok.ensures.copy c.in-Ok.ensures.change_store c.new.ensures c.in-Ok.ensures.fresh
