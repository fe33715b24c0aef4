-- A statement without its count of rows.
use Rattle.std.proofs.Common.{ℕ, Ok, Err, Result}
use Rattle.std.specs.Result.{result_and}
use Rattle.sqlite.specs.Effect.{Database}
use Rattle.sqlite.specs.Held.{Held}
use Rattle.sqlite.specs.Schema.{Schema}
use Rattle.sqlite.specs.State.{State}
use Rattle.sqlite.specs.Store.{Ghosts}
use Rattle.sqlite.specs.declared.error.Error.{Error}
use Rattle.csi_sql.specs.Transactions.{RunsOver}

pub runs_done : {S : Type 0} {g : Ghosts S} {old new : Held S} {before : Schema} {Effect : Database → Database → Type 0} {Refuses : State → Error → Type 0} (r : Result ℕ Error)
    → RunsOver g old new before Effect Refuses r → RunsOver g old new before Effect Refuses (result_and {U = Unit {0}} r (Ok tt))
runs_done (Ok count) ran = record { ok = ran.ok; failed = ran.failed; kept = ran.kept; survives = ran.survives }
runs_done (Err e) ran = record { ok = ran.ok; failed = ran.failed; kept = ran.kept; survives = ran.survives }
