-- The bytes that a new server writes for a stream of calls.
use Rattle.std.specs.Prelude.{ℕ, ◌≡◌, ◌≢◌, ◌⊎◌, Bool, true, false, List, [], ◌++◌}
use Rattle.std.specs.List.{AllByRecursion, flat_map}
use Rattle.csi_config.specs.declared.config.Config.{Config}
use Rattle.csi_keeper.specs.State.{first_state}
use Rattle.csi_types.specs.declared.reason.Reason.TheVariants as reason
use Rattle.envelope.specs.declared.fault.FrameFault.{FrameFault}
use Rattle.envelope.specs.declared.fault.FrameWhy.TheVariants.{EndOfInput}
use Rattle.envelope.specs.Envelope.{CallBytes, ReplyBytes, IsReply, reply}
use Rattle.envelope.specs.Stream.{Stream, Clean}
use Rattle.csi_server.specs.declared.end.RunEnd.{RunEnd}
use Rattle.csi_server.specs.declared.end.RunEnd.TheVariants.{Done, Malformed, ReadFailed, TurnsSpent, WriteFailed, NoMemory}
use Rattle.csi_server.specs.Machine.{AreReplies, Event, Unmarked, OutOfMemory, calls_of, refused, replies}
use Rattle.csi_server.specs.Serving.{HasFault, fault_frame}
use Rattle.csi_server.specs.Volumes.{volumes}

-- all calls were read and answered, or all up to a malformed frame, which was refused
abbrev pub IsWhole : RunEnd → Type 0
IsWhole Done = Unit {0}
IsWhole (Malformed f) = Unit {0}
IsWhole ReadFailed = ⊥
IsWhole TurnsSpent = ⊥
IsWhole WriteFailed = ⊥
IsWhole NoMemory = ⊥

-- all of the input was read as these calls, or all up to a malformed frame, whose refusal is then the last
-- reply; an early end of the input is a fault only if no bytes are left
abbrev pub IsEnd : List ℕ → List ℕ → List CallBytes → List ℕ → Type 0
IsEnd read left calls last =
    ((left ≡ []) × Stream read calls Clean × (last ≡ []))
    ⊎ ((f : FrameFault) × HasFault read calls f.why f.at × (f.why ≡ EndOfInput → left ≡ []) × (last ≡ fault_frame f))

-- a call was answered, or refused for lack of memory, if it may be refused so
abbrev pub IsAnswered : Config → Event → Type 0
IsAnswered config e = (e.mark ≡ Unmarked) ⊎ ((e.mark ≡ OutOfMemory) × (volumes config).may_fail e.call OutOfMemory)

-- the outcome of a call of a vector; if the vector failed, each call was answered
abbrev pub MayCome : Config → Bool → Event → Type 0
MayCome config false e = IsAnswered config e
MayCome config true e = e.mark ≡ Unmarked

-- The replies of the volume machine, which starts without volumes, to the calls of the input were written.
-- Calls may have been refused for lack of memory, unless the vector failed.
pub record IsWritten (config : Config) (failed : Bool) (input written : List ℕ) : Type 0 where
  pub events : List Event
  pub answered : AllByRecursion (MayCome config failed) events
  pub formed : AreReplies (volumes config) (first_state 1) events
  pub read : List ℕ
  pub left : List ℕ
  pub whole : input ≡ read ++ left
  pub last : List ℕ
  pub ended : IsEnd read left (calls_of events) last
  pub all : written ≡ replies (volumes config) (first_state 1) events ++ last

-- none of the replies at the beginning of these bytes refuses its call for lack of memory
abbrev pub IsUnrefused : List ℕ → Type 0
IsUnrefused bytes = (rs : List ReplyBytes) (last : List ℕ) → AllByRecursion IsReply rs → bytes ≡ flat_map reply rs ++ last
    → AllByRecursion (λ r. r ≢ refused reason.OutOfMemory) rs
