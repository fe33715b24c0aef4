use Rattle.csi_keeper.specs.Listing.{IsPageWithNodes}
use Rattle.csi_through.proofs.ReadLemmas.{read_through}
use Rattle.csi_through.proofs.through.ThroughKeeper.page_with_nodes.Goals as goal

pub returns : goal.returns
returns g c =
    read_through g.M.Keeper.model g.D.ChangeStore.model c.args.self.now c.page_with_nodes-answer.new.self c.finish_call.new.self (λ s p. IsPageWithNodes s c.args.after c.args.count p)
    c.start_call.new.health c.page_with_nodes-answer.result c.finish_call.result c.in_ok-start_call.ensures.current
    (λ yes. absurd (let no = c.in_ok-start_call.ensures.down.1 yes in cc (no))) c.in_ok-start_call.ensures.count c.in_ok-start_call.ensures.stays c.page_with_nodes-answer.ensures c.finish_call.ensures
