-- The exit statuses for the faults of a program's arguments.
use Rattle.std.specs.Prelude.{ℕ}
use Rattle.command_line.specs.declared.command.ArgumentsFault.{ArgumentsFault}
use Rattle.command_line.specs.declared.command.ArgumentsFault.TheVariants.{NotText, Refused, WriteFailed, NoMemory}

abbrev pub arguments_status : ArgumentsFault → ℕ
arguments_status NotText = 2
arguments_status (Refused line) = 2
arguments_status WriteFailed = 5
arguments_status NoMemory = 6
