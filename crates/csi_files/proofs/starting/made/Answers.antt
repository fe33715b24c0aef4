use Rattle.std.proofs.Common.{◌∙◌, ap, ap₂}
use Rattle.sqlite.specs.declared.error.Error.TheVariants.{SqliteFailure}
use Rattle.sqlite_store.specs.Report.{named}
use Rattle.csi_files.specs.Starting.{code_of}
use Rattle.csi_files.proofs.starting.made.Goals as goal

pub returns-in-Err-clause-unmade : goal.returns-in-Err-clause-unmade
returns-in-Err-clause-unmade g c =
    let it = c.in-Err.ensures in
    let fault = c.name_fault.ensures.value ∙ ap₂ named c.tally-before.ensures c.tally.ensures in
    (it.not_laid_out, it.kept, (c.in-Err.why, ap SqliteFailure (c.code_of-code.ensures ∙ ap (code_of c.in-Err.why) fault), it.not_corrupt, it.emptied))
