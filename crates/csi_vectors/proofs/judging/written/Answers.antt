use Rattle.std.proofs.Common.{Some, arith, refl}
use Rattle.csi_vectors.proofs.Runs.{run_written}
use Rattle.csi_vectors.proofs.judging.written.Goals as goal

pub returns-then-is_whole : goal.returns-then-is_whole
returns-then-is_whole c =
    run_written c.args.config.now _ _ c.serve.result c.args.input.now c.new-writer.result.items c.serve.new.writer.items (Some c.serve.new.reader.now) (c.if-is_whole.ensures.true_only_if refl) c.new-writer.ensures.items c.serve.ensures.serves refl refl refl
    (c.in_ok-keeper.ensures, c.first.ensures 1 (omega arith) (omega arith))
