use Rattle.std.proofs.Common.{◌∙◌, sym, ap, map}
use Rattle.csi_keeper.specs.Capability.{key_of}
use Rattle.csi_keeper.specs.facts.Reads.{if_ok}
use Rattle.csi_tables.specs.declared.fault.TablesFault.TheVariants.{Refused}
use Rattle.csi_tables.proofs.CellLemmas.{handed_on}
use Rattle.csi_tables.proofs.DecodingLemmas.{caps_read, caps_not_read, caps_without_keys}
use Rattle.csi_tables.proofs.decoding.read_caps.Goals as goal

pub returns-in_err-message-clause-refused : goal.returns-in_err-message-clause-refused
returns-in_err-message-clause-refused c is ks fit known = caps_not_read c.read_back.ensures c.args.bytes.now
    (c.read.ensures.refused (handed_on c.from_residual.result c.read.result c.in_err-message.field-0.0 Refused c.from_residual.ensures.1 is c.in_err-message.was)) ks fit

pub returns-clause-refused : goal.returns-clause-refused
returns-clause-refused c is ks fit known = caps_without_keys c.read_back.ensures c.args.bytes.now c.in_ok-message.message c.in_ok-message.ensures.ok
    (λ js same. c.keys_of.ensures.refused is js (same ∙ ap (map key_of) (sym c.as_slice.ensures))) ks fit known

pub returns-clause-ok : goal.returns-clause-ok
returns-clause-ok c = if_ok (λ js same. caps_read c.read_back.ensures c.args.bytes.now c.in_ok-message.message js c.in_ok-message.ensures.ok (same ∙ ap (map key_of) c.as_slice.ensures)) c.keys_of.result c.keys_of.ensures.ok

pub returns-clause-exact : goal.returns-clause-exact
returns-clause-exact c = if_ok (λ js same. (c.in_ok-message.message, c.in_ok-message.ensures.ok, same ∙ ap (map key_of) c.as_slice.ensures)) c.keys_of.result c.keys_of.ensures.ok
