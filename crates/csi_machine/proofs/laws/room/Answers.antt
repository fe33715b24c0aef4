use Rattle.csi_machine.proofs.OfferLemmas.{answered, asked_exactly, offered, offers}
use Rattle.csi_machine.proofs.laws.room.Goals as goal

pub returns : goal.returns
returns c =
    let config = c.args.config.now in
    let good = c.configured.ensures in
    record {
      chosen = offers config good;
      made = offered config good;
      exact = asked_exactly config good;
      answered = answered config good c.pools_named.ensures.names c.pool_keys_differ.ensures.bounded;
    }
