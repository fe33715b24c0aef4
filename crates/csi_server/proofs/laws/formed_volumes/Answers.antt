use Rattle.csi_types.specs.Methods.{method_at}
use Rattle.csi_machine.specs.Step.{plan, step}
use Rattle.csi_server.proofs.Forms.{formed_reply, short_reported}
use Rattle.csi_server.specs.Volumes.{asks_keeper}
use Rattle.csi_server.proofs.laws.formed_volumes.Goals as goal

pub returns : goal.returns
returns c config s call few =
    formed_reply (step config) (λ t r. short_reported (plan config t r).outcome) c.decimal_is_text.ensures c.reading.ensures.requests method_at asks_keeper s call few
