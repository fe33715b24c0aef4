use Rattle.std.proofs.Common.{rules}
use Rattle.std.proofs.lemmas.Str.{IsUtf8-from_ascii}
use Rattle.pbmessage.proofs.slots.is_text.Goals as goal

pub returns-then-is_ascii : goal.returns-then-is_ascii
returns-then-is_ascii c = (λ t. IsUtf8-from_ascii c.args.payload.now c.if-is_ascii.ensures.cases, λ u. search rules)
