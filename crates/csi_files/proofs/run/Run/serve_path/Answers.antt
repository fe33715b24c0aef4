use Rattle.std.proofs.Common.{ap₂, inl, inr, refl, subst}
use Rattle.std.proofs.lemmas.Result.{IfOk-weaker}
use Rattle.sqlite_wal.specs.Reads.{AreClean}
use Rattle.csi_server.specs.Serving.{Serves}
use Rattle.csi_server.specs.Volumes.{seen, volumes}
use Rattle.csi_files.specs.Files.{files_model}
use Rattle.csi_files.specs.Path.{over_calls}
use Rattle.csi_files.specs.Serving.{LeavesAfter}
use Rattle.csi_files.specs.Starting.{StartsThen, start_model}
use Rattle.csi_files.specs.Streams.{streams}
use Rattle.csi_files.proofs.PathLemmas.{image, none_given, read_of}
use Rattle.csi_files.proofs.ResultLemmas.{IfErr-weaker}
use Rattle.csi_files.proofs.run.Run.serve_path.Goals as goal

pub returns-in-Err-clause-not_served : goal.returns-in-Err-clause-not_served
returns-in-Err-clause-not_served g c = inl ((refl, refl), none_given c.args.at.path.now c.in-Err.error c.in-Err.ensures.failed)

pub returns-in-Ok-opening-clause-served : goal.returns-in-Ok-opening-clause-served
returns-in-Ok-opening-clause-served g c =
    let (log, db) = c.in-Ok.ensures.fresh in
    let same = ap₂ image (ap₂ (read_of g.S.Start.log g.S.Start.db) log.0 log.1) (ap₂ (read_of g.S.Start.log g.S.Start.db) db.0 db.1) in
    IfOk-weaker c.create_and_serve.result _ _
    (λ r it. subst (λ i. Serves (volumes c.args.self.now.config.now) (start_model i r.report.is_new) (seen c.args.self.now.config.now (files_model over_calls r.files r.report.refusals r.report.is_down))
    (g.R.Read.remaining c.args.reader.now) (g.R.Read.remaining c.create_and_serve.new.reader) (g.W.Write.contents c.args.writer.now) (g.W.Write.contents c.create_and_serve.new.writer) r.report.end) same it)
    c.create_and_serve.ensures.served

pub returns-in-Ok-opening-clause-after : goal.returns-in-Ok-opening-clause-after
returns-in-Ok-opening-clause-after g c =
    let (log, db) = c.in-Ok.ensures.fresh in
    let same = ap₂ image (ap₂ (read_of g.S.Start.log g.S.Start.db) log.0 log.1) (ap₂ (read_of g.S.Start.log g.S.Start.db) db.0 db.1) in
    IfOk-weaker c.create_and_serve.result _ _
    (λ r it. subst (λ i. StartsThen c.args.self.now.config.now i
    (streams (g.R.Read.remaining c.args.reader.now) (g.R.Read.remaining c.create_and_serve.new.reader) (g.W.Write.contents c.args.writer.now) (g.W.Write.contents c.create_and_serve.new.writer)) r.report
    (AreClean over_calls r.files.log r.files.db) (LeavesAfter over_calls c.args.self.now.config.now r.files)) same it)
    c.create_and_serve.ensures.after

pub returns-in-Ok-opening-clause-not_served : goal.returns-in-Ok-opening-clause-not_served
returns-in-Ok-opening-clause-not_served g c =
    let (log, db) = c.in-Ok.ensures.fresh in
    IfErr-weaker c.create_and_serve.result _ _ (λ e it. inr (c.in-Ok.files, log, db, it)) c.create_and_serve.ensures.not_served
