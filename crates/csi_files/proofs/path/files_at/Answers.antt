use Rattle.std.proofs.Common.{rules, inl, inr}
use Rattle.csi_files.specs.Path.{NamesNoFile}
use Rattle.csi_files.proofs.path.files_at.Goals as goal

pub returns-in-Err-clause-failed : goal.returns-in-Err-clause-failed
returns-in-Err-clause-failed g c =
    let neither : ¬ NamesNoFile c.args.path.now = λ named. elim named [ inl is ↦ search rules | inr begins ↦ search rules ] in
    inr (neither, (c.in-Err.cause, c.open_error.ensures))
