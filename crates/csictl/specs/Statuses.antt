-- The exit statuses.
use Rattle.std.specs.Prelude.{ℕ}
use Rattle.command_line.specs.Statuses.{arguments_status}
use Rattle.csictl.specs.declared.failure.Ended.{Ended}
use Rattle.csictl.specs.declared.failure.Ended.TheVariants.{Done, Refused}
use Rattle.csictl.specs.declared.failure.Failure.{Failure}
use Rattle.csictl.specs.declared.failure.Failure.TheVariants as failure

-- the exit status if nothing fails
abbrev pub ended_status : Ended → ℕ
ended_status Done = 0
ended_status Refused = 1

-- the exit status of a failure
abbrev pub failure_status : Failure → ℕ
failure_status (failure.Arguments fault) = arguments_status fault
failure_status (failure.NoMethod name) = 2
failure_status (failure.NoField method option) = 2
failure_status (failure.WithMessage option) = 2
failure_status failure.NotPaged = 2
failure_status failure.NotHex = 2
failure_status (failure.NotDecimal option) = 2
failure_status failure.NoSocket = 2
failure_status failure.NoSocketPath = 2
failure_status (failure.NotText name) = 2
failure_status (failure.NotSize option) = 2
failure_status (failure.NotMode option) = 2
failure_status failure.NotPair = 2
failure_status failure.TooLong = 2
failure_status (failure.NotVector path line) = 2
failure_status (failure.Malformed fault) = 3
failure_status (failure.OtherSocket path) = 3
failure_status failure.BadBody = 3
failure_status failure.NoEnd = 3
failure_status failure.ReaderGone = 0
failure_status (failure.NoPool name) = 1
failure_status (failure.NoNode id) = 1
failure_status (failure.NoVolume id) = 1
failure_status (failure.NotAnId text) = 1
failure_status (failure.NotAtNode volume node) = 1
failure_status (failure.NotPublished volume) = 1
failure_status (failure.System cause) = 5
failure_status failure.ReadFailed = 5
failure_status failure.WriteFailed = 5
failure_status failure.NoMemory = 6
