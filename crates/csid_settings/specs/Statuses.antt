-- The exit statuses.
use Rattle.std.specs.Prelude.{◌≡◌, ◌⊎◌, ℕ, Option, Some, None}
use Rattle.csi_server.specs.declared.end.RunEnd.{RunEnd}
use Rattle.csi_server.specs.declared.end.RunEnd.TheVariants as end
use Rattle.command_line.specs.Statuses.{arguments_status}
use Rattle.csid_settings.specs.declared.failure.Resource.{Resource}
use Rattle.csid_settings.specs.declared.failure.Resource.TheVariants.{Configuration, Tables, Socket}
use Rattle.csid_settings.specs.declared.failure.Failure.{Failure}
use Rattle.csid_settings.specs.declared.failure.Failure.TheVariants as failure

-- the exit status if this resource is unusable
abbrev pub resource_status : Resource → ℕ
resource_status Configuration = 3
resource_status Tables = 4
resource_status Socket = 7

-- the exit status of a failure
abbrev pub failure_status : Failure → ℕ
failure_status (failure.Malformed fault) = 1
failure_status (failure.Arguments fault) = arguments_status fault
failure_status (failure.Unusable thing cause) = resource_status thing
failure_status failure.NoTablesPath = 4
failure_status (failure.ReadFailed source) = 5
failure_status (failure.WriteFailed sink) = 5
failure_status failure.TurnsSpent = 5
failure_status failure.NoMemory = 6
failure_status failure.NoSocketPath = 7

-- a failure of this status, or lack of memory
abbrev pub IsOrNoMemory : ℕ → Failure → Type 0
IsOrNoMemory wanted failure = (failure_status failure ≡ wanted) ⊎ (failure_status failure ≡ 6)

-- the exit status for the end of a run
abbrev pub status_of : RunEnd → ℕ
status_of end.Done = 0
status_of (end.Malformed fault) = 1
status_of end.ReadFailed = 5
status_of end.TurnsSpent = 5
status_of end.WriteFailed = 5
status_of end.NoMemory = 6

-- the end of a run that a failure names
abbrev pub end_of : Failure → Option RunEnd
end_of (failure.Malformed fault) = Some (end.Malformed fault)
end_of (failure.Arguments fault) = None
end_of (failure.Unusable thing cause) = None
end_of failure.NoTablesPath = None
end_of (failure.ReadFailed source) = Some end.ReadFailed
end_of (failure.WriteFailed sink) = Some end.WriteFailed
end_of failure.TurnsSpent = Some end.TurnsSpent
end_of failure.NoMemory = Some end.NoMemory
end_of failure.NoSocketPath = None
