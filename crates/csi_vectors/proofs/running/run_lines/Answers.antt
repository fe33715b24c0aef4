use Rattle.std.proofs.Common.{◌+◌, Ok, ap, arith, refl}
use Rattle.std.proofs.KnownBytes.{Keeps-refl}
use Rattle.csi_vectors.proofs.Kept.{halted, one_more, stopped}
use Rattle.csi_vectors.proofs.running.run_lines.Goals as goal

pub loop-count-init : goal.loop-count-init
loop-count-init g c = (refl, Keeps-refl (g.W.Write.contents c.args.writer.now), refl)

pub returns-in-Err : goal.returns-in-Err
returns-in-Err g c =
    let r = g.B.Read.remaining in
    let w = g.W.Write.contents in
    let i = c.loop-count in
    stopped c.args.config.now (r c.args.reader.now) (w c.args.writer.now) (r i.reader) (w i.writer) i.count i.failed c.in-Err.end i.invariant c.in-Err.ensures.err

pub returns-in-Err-run_line : goal.returns-in-Err-run_line
returns-in-Err-run_line g c =
    let r = g.B.Read.remaining in
    let w = g.W.Write.contents in
    let i = c.loop-count in
    halted c.args.config.now (r c.args.reader.now) (w c.args.writer.now) (r i.reader) (r c.next_line.new.reader) (w i.writer) (w c.run_line.new.writer) i.count (i.count + 1) i.failed
    c.next_line.new.line.items c.deref.result.now c.in-Err-run_line.halt c.ended.result i.invariant c.in-Ok-true.ensures.line c.deref.ensures.value
    c.in-Err-run_line.ensures.kept c.in-Err-run_line.ensures.bad c.in-Err-run_line.ensures.cut refl c.ended.ensures

pub loop-count-preserved : goal.loop-count-preserved
loop-count-preserved g c =
    let r = g.B.Read.remaining in
    let w = g.W.Write.contents in
    let i = c.loop-count in
    let ran = c.in-Ok.ensures.ok in
    one_more c.args.config.now (r c.args.reader.now) (w c.args.writer.now) (r i.reader) (r c.next_line.new.reader) (w i.writer) (w c.run_line.new.writer) i.count i.failed c.in-Ok.is_failed _
    c.next_line.new.line.items c.deref.result.now ran.0 ran.1 i.invariant c.in-Ok-true.ensures.line (c.in-Ok-true.ensures.not_empty (ap Ok c.in-Ok-true.field-0-test)) c.deref.ensures.value ran.2 ran.3 ran.4 refl

pub returns : goal.returns
returns g c =
    let i = c.loop-count in
    (i.count, g.B.Read.remaining i.reader, i.failed, i.invariant, omega (arith, i.auto.count-end, c.loop-count-test.false))
