use Rattle.frames_core.proofs.Written.{wrote_kept}
use Rattle.frames_core.proofs.writing.send.Goals as goal

pub returns-clause-part : goal.returns-clause-part
returns-clause-part g c =
    let w = g.W.Write.contents in
    wrote_kept (w c.args.writer.now) (w c.put.new.writer) (w c.flush.new.self) _ c.put.ensures.part c.flush.ensures.bytes
