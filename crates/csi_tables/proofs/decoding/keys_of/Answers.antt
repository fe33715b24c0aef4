use Rattle.std.proofs.Common.{◌∙◌, sym, ap, arith}
use Rattle.csi_keeper.specs.Capability.{key_of}
use Rattle.csi_tables.proofs.DecodingLemmas.{no_key}
use Rattle.csi_tables.proofs.decoding.keys_of.Goals as goal

pub returns-in_default-clause-refused : goal.returns-in_default-clause-refused
returns-in_default-clause-refused c is =
    no_key c.args.capabilities.now c.loop-capability.capability-index c.capability-item.result (omega arith) (ap key_of (sym c.capability-item.is) ∙ sym c.in_ok-key.ensures ∙ c.in_default.is)
