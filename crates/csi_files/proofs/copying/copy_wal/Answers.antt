use Rattle.std.proofs.lemmas.Result.{IfOk-weaker}
use Rattle.csi_files.proofs.CopyLemmas.{looked_first, looked_moved}
use Rattle.csi_files.proofs.ResultLemmas.{IfErr-weaker}
use Rattle.csi_files.proofs.copying.copy_wal.Goals as goal

pub returns-in-Ok-true-clause-moved : goal.returns-in-Ok-true-clause-moved
returns-in-Ok-true-clause-moved g c =
    let seen = c.has_wal.ensures in
    IfOk-weaker c.copy_long.result _ _ (λ after it. looked_moved g.D.Disk c.args.pair c.has_wal.new.pair seen.log seen.db after it) c.copy_long.ensures.moved

pub returns-in-Ok-true-clause-kept : goal.returns-in-Ok-true-clause-kept
returns-in-Ok-true-clause-kept g c =
    let seen = c.has_wal.ensures in
    IfErr-weaker c.copy_long.result _ _ (λ e it. looked_first g.D.Disk c.args.pair c.has_wal.new.pair seen.log seen.db e.1 it) c.copy_long.ensures.kept
