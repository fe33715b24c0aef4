use Rattle.std.proofs.Common.{ℕ, List, ◌++◌, ◌∙◌, ap}
use Rattle.csi_types.specs.declared.code.Code.TheVariants as code
use Rattle.envelope.specs.Envelope.{reply_bytes_of}
use Rattle.csi_client.specs.Replies.{first_line}
use Rattle.csi_client.proofs.showing.Printer.make_lines.Goals as goal

pub returns-in-Ok-clause-bad : goal.returns-in-Ok-clause-bad
returns-in-Ok-clause-bad c at e =
    let bad = c.put_body_lines.ensures.malformed at e in
    ((at, bad.0), bad.1 ∙ (c.in-Ok.ensures.line code.Ok bad.0.done ∙ ap (λ (x : List ℕ). x ++ first_line code.Ok (reply_bytes_of c.args.reply.now)) c.clear.ensures.items))
