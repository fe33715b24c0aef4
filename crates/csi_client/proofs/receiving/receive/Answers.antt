use Rattle.std.proofs.Common.{sym, ◌∙◌, inr}
use Rattle.std.specs.Io.KnownBytes.{IsAtEnd}
use Rattle.envelope.specs.Envelope.{reply_bytes_of}
use Rattle.csi_client.proofs.Gathering.{nothing_came, reply_came}
use Rattle.csi_client.proofs.receiving.receive.Goals as goal

pub returns-in-None-reply : goal.returns-in-None-reply
returns-in-None-reply g c =
    let read = c.in-Ok-gather.ensures in
    (read.0, read.1, nothing_came read.0 (IsAtEnd (g.R.Read.remaining c.gather.new.reader)) c.gather.new.framer read.2 (sym c.fault.ensures.value ∙ c.in-None.is) c.in-None-reply.ensures)

pub returns : goal.returns
returns g c =
    let read = c.in-Ok-gather.ensures in
    let r = reply_bytes_of c.in-Some-reply.reply in
    (read.0, read.1, inr (r, reply_came read.0 (IsAtEnd (g.R.Read.remaining c.gather.new.reader)) c.gather.new.framer r read.2 c.in-Some-reply.ensures.0 c.in-Some-reply.ensures.1))
