use Rattle.std.proofs.Common.{inl, inr, refl}
use Rattle.sqlite.specs.Files.{image_of}
use Rattle.csi_files.specs.Streams.{AreUntouched, streams}
use Rattle.csi_files.specs.Starting.{IsNotMade}
use Rattle.csi_files.proofs.FilesLemmas.{not_opened_too}
use Rattle.csi_files.proofs.ResultLemmas.{IfErr-both, IfOk-both}
use Rattle.csi_files.proofs.StartingLemmas.{shows_laid_out, started, started_then}
use Rattle.csi_files.proofs.run.Run.create_and_serve.Goals as goal

pub returns-in-Err-clause-not_served : goal.returns-in-Err-clause-not_served
returns-in-Err-clause-not_served g c =
    record { was = image_of g.D.Disk c.args.files; shows = λ clean. absurd clean; why = ((refl, refl), inl c.in-Err.ensures.unmade) }

pub returns-in-Ok-open_files-clause-served : goal.returns-in-Ok-open_files-clause-served
returns-in-Ok-open_files-clause-served g c =
    let open_ = c.in-Ok-open_files.ensures in
    IfOk-both c.adopt_and_serve.result _ _ _
    (λ r it clean. started g.D.Disk c.args.files c.in-Ok.laid c.args.self.now.config.now (streams (g.R.Read.remaining c.args.reader.now) (g.R.Read.remaining c.adopt_and_serve.new.reader) (g.W.Write.contents c.args.writer.now) (g.W.Write.contents c.adopt_and_serve.new.writer)) r c.in-Ok.ensures.laid_out (λ now. (open_.found (clean now)).honest)
    (it (image_of g.D.Disk c.in-Ok.laid) (λ sure. let find = open_.found sure in (open_.opened sure, record { holds = find.holds; reads = find.reads }))))
    c.adopt_and_serve.ensures.served c.adopt_and_serve.ensures.clean

pub returns-in-Ok-open_files-clause-after : goal.returns-in-Ok-open_files-clause-after
returns-in-Ok-open_files-clause-after g c =
    let open_ = c.in-Ok-open_files.ensures in
    IfOk-both c.adopt_and_serve.result _ _ _
    (λ r it clean. started_then c.args.self.now.config.now (image_of g.D.Disk c.args.files) (image_of g.D.Disk c.in-Ok.laid) (streams (g.R.Read.remaining c.args.reader.now) (g.R.Read.remaining c.adopt_and_serve.new.reader) (g.W.Write.contents c.args.writer.now) (g.W.Write.contents c.adopt_and_serve.new.writer)) r.report _ _
    (λ now. shows_laid_out g.D.Disk c.args.files c.in-Ok.laid c.in-Ok.ensures.laid_out (open_.found (clean now)).honest)
    (it (image_of g.D.Disk c.in-Ok.laid) (λ sure. let find = open_.found sure in (open_.opened sure, record { holds = find.holds; reads = find.reads }))))
    c.adopt_and_serve.ensures.after c.adopt_and_serve.ensures.clean

pub returns-in-Ok-open_files-clause-not_served : goal.returns-in-Ok-open_files-clause-not_served
returns-in-Ok-open_files-clause-not_served g c =
    let open_ = c.in-Ok-open_files.ensures in
    IfErr-both c.adopt_and_serve.result _ _ _
    (λ e it clean. record {
      was = image_of g.D.Disk c.in-Ok.laid;
      shows = λ ends. shows_laid_out g.D.Disk c.args.files c.in-Ok.laid c.in-Ok.ensures.laid_out (open_.found (clean ends)).honest;
      why = not_opened_too g.D.Disk c.args.self.now.config.now (image_of g.D.Disk c.in-Ok.laid) (streams (g.R.Read.remaining c.args.reader.now) (g.R.Read.remaining c.adopt_and_serve.new.reader) (g.W.Write.contents c.args.writer.now) (g.W.Write.contents c.adopt_and_serve.new.writer)) (λ error rest. AreUntouched (streams (g.R.Read.remaining c.args.reader.now) (g.R.Read.remaining c.adopt_and_serve.new.reader) (g.W.Write.contents c.args.writer.now) (g.W.Write.contents c.adopt_and_serve.new.writer)) × IsNotMade g.D.Disk c.args.files error rest) e
          (it (image_of g.D.Disk c.in-Ok.laid) (λ sure. let find = open_.found sure in (open_.opened sure, record { holds = find.holds; reads = find.reads })));
    })
    c.adopt_and_serve.ensures.not_served c.adopt_and_serve.ensures.not_served_clean

pub returns-in-Err-open_files-clause-not_served : goal.returns-in-Err-open_files-clause-not_served
returns-in-Err-open_files-clause-not_served g c =
    let failed = c.in-Err-open_files.ensures in
    record { was = image_of g.D.Disk c.args.files; shows = λ clean. absurd clean; why = ((refl, refl), inr (c.in-Ok.laid, c.in-Ok.ensures.laid_out, λ clean. (failed.cause clean, failed.unharmed clean))) }
