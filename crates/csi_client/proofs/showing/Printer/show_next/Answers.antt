use Rattle.std.proofs.Common.{sym}
use Rattle.envelope.specs.Envelope.{reply_bytes_of}
use Rattle.frames_core.specs.Framer.{IsReplyFrame}
use Rattle.frames_core.specs.Feeding.{ReplyFed}
use Rattle.csi_client.proofs.Printing.{fed_fault, fed_halted, fed_shown, advanced}
use Rattle.csi_client.proofs.showing.Printer.show_next.Goals as goal

pub returns-in-Some-clause-steps : goal.returns-in-Some-clause-steps
returns-in-Some-clause-steps g c read held live =
    let f : ReplyFed c.args.framer.now c.feed-count.new.self c.args.rest.now c.feed-count.result = record { within = c.feed-count.ensures.within; past = c.feed-count.ensures.past; held = c.feed-count.ensures.held; all = c.feed-count.ensures.all; known = c.feed-count.ensures.known; idle = c.feed-count.ensures.idle } in
    fed_fault c.args.self.now.method read c.args.framer.now c.feed-count.new.self c.args.rest.now c.feed-count.result held (g.W.Write.contents c.args.writer.now) c.args.self.now.refused c.in-Some.fault live f c.requires.within_piece (sym c.in-Some.ensures.value)

pub returns-in-Err-clause-steps : goal.returns-in-Err-clause-steps
returns-in-Err-clause-steps g c read held live =
    let f : ReplyFed c.args.framer.now c.feed-count.new.self c.args.rest.now c.feed-count.result = record { within = c.feed-count.ensures.within; past = c.feed-count.ensures.past; held = c.feed-count.ensures.held; all = c.feed-count.ensures.all; known = c.feed-count.ensures.known; idle = c.feed-count.ensures.idle } in
    fed_halted (Unit {0}) c.args.self.now.method read c.args.framer.now c.feed-count.new.self c.args.rest.now c.feed-count.result held (g.W.Write.contents c.args.writer.now) (g.W.Write.contents c.show.new.writer) c.args.self.now.refused (reply_bytes_of c.in-Some-reply.reply) c.in-Err.halt live f c.requires.some c.requires.within_piece
    c.in-Some-reply.ensures.0 c.in-Some-reply.ensures.1 c.in-Err.ensures.shows

pub returns-in-Ok-clause-steps : goal.returns-in-Ok-clause-steps
returns-in-Ok-clause-steps g c read held live =
    let f : ReplyFed c.args.framer.now c.feed-count.new.self c.args.rest.now c.feed-count.result = record { within = c.feed-count.ensures.within; past = c.feed-count.ensures.past; held = c.feed-count.ensures.held; all = c.feed-count.ensures.all; known = c.feed-count.ensures.known; idle = c.feed-count.ensures.idle } in
    let frame : IsReplyFrame c.feed-count.new.self.held = (reply_bytes_of c.in-Some-reply.reply, c.in-Some-reply.ensures.0, c.in-Some-reply.ensures.1) in
    fed_shown c.args.self.now.method read c.args.framer.now c.feed-count.new.self c.next_frame.new.self c.args.rest.now c.feed-count.result held (g.W.Write.contents c.args.writer.now) (g.W.Write.contents c.show.new.writer) c.args.self.now.refused c.show.new.self.refused (reply_bytes_of c.in-Some-reply.reply) c.in-Ok.field-0 live f
    c.in-Some-reply.ensures.0 c.in-Some-reply.ensures.1 c.in-Ok.ensures.shows c.in-Ok.ensures.refused
    (c.next_frame.ensures.given_up frame) (c.next_frame.ensures.open frame)

pub returns-in-Ok-clause-count : goal.returns-in-Ok-clause-count
returns-in-Ok-clause-count g c =
    let f : ReplyFed c.args.framer.now c.feed-count.new.self c.args.rest.now c.feed-count.result = record { within = c.feed-count.ensures.within; past = c.feed-count.ensures.past; held = c.feed-count.ensures.held; all = c.feed-count.ensures.all; known = c.feed-count.ensures.known; idle = c.feed-count.ensures.idle } in
    let frame : IsReplyFrame c.feed-count.new.self.held = (reply_bytes_of c.in-Some-reply.reply, c.in-Some-reply.ensures.0, c.in-Some-reply.ensures.1) in
    advanced c.args.framer.now c.feed-count.new.self c.next_frame.new.self c.args.rest.now c.feed-count.result c.requires.ready f
    (c.next_frame.ensures.given_up frame) (c.next_frame.ensures.open frame)
