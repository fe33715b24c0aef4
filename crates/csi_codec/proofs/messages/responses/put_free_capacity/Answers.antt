use Rattle.std.proofs.Common.{rules}
use Rattle.pbmessage.specs.facts.Writing.{keeps_on, wrote_next, wrote_signed}
use Rattle.csi_codec.proofs.messages.responses.put_free_capacity.Goals as goal

pub returns-in_err-put_option-clause-kept : goal.returns-in_err-put_option-clause-kept
returns-in_err-put_option-clause-kept c = keeps_on _ _ _ c.put_option.ensures.kept c.put_signed.ensures.kept

pub returns-clause-ok : goal.returns-clause-ok
returns-clause-ok c = wrote_next _ _ _ _ _ (wrote_signed _ _ 1 c.args.available (search rules) c.in_ok-put_signed.ensures.ok) c.in_ok-put_option.ensures.ok

pub returns-clause-kept : goal.returns-clause-kept
returns-clause-kept c = keeps_on _ _ _ c.put_option.ensures.kept c.put_signed.ensures.kept
