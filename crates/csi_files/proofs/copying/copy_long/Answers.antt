use Rattle.std.proofs.Common.{IsTrue}
use Rattle.sqlite_wal.specs.Recovery.{IsIgnored}
use Rattle.csi_files.proofs.CopyLemmas.{log_keeps}
use Rattle.csi_files.proofs.ResultLemmas.{IfErr-weaker, IfOk-both}
use Rattle.csi_files.proofs.copying.copy_long.Goals as goal

pub returns-in-Ok-new-clause-moved : goal.returns-in-Ok-new-clause-moved
returns-in-Ok-new-clause-moved g c =
    let seen = c.probe_page_size.ensures in
    IfOk-both c.copy_log.result _ _ _
    (λ after leaves rest. record {
      keeps = log_keeps g.D.Disk c.args.pair c.probe_page_size.new.files seen.log seen.db c.in-Ok.found c.in-Ok.ensures.by_log c.in-Ok.ensures.by_file c.in-Some.size c.in-Some.is c.in-Ok-new.log c.in-Ok-new.ensures.files c.in-Ok-new.ensures.size after leaves;
      ignored = λ clean. rest.0;
      usable = rest.1;
    })
    c.copy_log.ensures.moved
    (IfOk-both c.copy_log.result _ _ (λ after. IsIgnored (g.D.Disk.seen after.log) × (IsTrue (g.D.Disk.is_usable after.log) × IsTrue (g.D.Disk.is_usable after.db))) (λ after ignored usable. (ignored, usable)) c.copy_log.ensures.ignored c.copy_log.ensures.usable)

pub returns-in-Ok-new-clause-kept : goal.returns-in-Ok-new-clause-kept
returns-in-Ok-new-clause-kept g c =
    let seen = c.probe_page_size.ensures in
    IfErr-weaker c.copy_log.result _ _
    (λ e leaves. log_keeps g.D.Disk c.args.pair c.probe_page_size.new.files seen.log seen.db c.in-Ok.found c.in-Ok.ensures.by_log c.in-Ok.ensures.by_file c.in-Some.size c.in-Some.is c.in-Ok-new.log c.in-Ok-new.ensures.files c.in-Ok-new.ensures.size e.1 leaves)
    c.copy_log.ensures.kept
