-- The time that the peer of a connection takes for a call, and for its reply.
use Rattle.std.specs.Prelude.{◌≡◌, ◌-◌, ◌*◌, ◌≤◌, ◌⊎◌, ℕ, Bool, true, false, Option, None, Some, Result, Ok, Err, IfSome}
use Rattle.std.specs.Duration.{as_nanos}
use Rattle.std.specs.declared.time.Duration.{Duration}
use Rattle.std.specs.declared.time.Instant.{Instant}
use Rattle.csid_console.specs.declared.console.Ending.{Ending}
use Rattle.csid_console.specs.declared.console.Ending.TheVariants.{Idle, Slow, Preempted}
use Rattle.csid_connections.specs.Timing.{LeftOf, seconds}
use Rattle.csid_connections.specs.declared.clock.Since.{Since}
use Rattle.csid_connections.specs.declared.clock.Since.TheVariants.{Never, Now, Then}
use Rattle.csid_connections.specs.declared.clock.CallClock.{CallClock}
use Rattle.csid_connections.specs.declared.limits.TheConstants.{CALL_SECONDS, SHORTEST_MILLIS, WANTED_SECONDS}

-- true if nothing has begun
abbrev pub is_never : Since → Bool
is_never Never = true
is_never Now = false
is_never (Then begun) = false

-- a wait at a time: the first wait begins the time
abbrev pub waited : Instant → Since → Since
waited now Never = Never
waited now Now = Then now
waited now (Then begun) = Then begun

-- the time at which the wait began, if it has begun
abbrev pub begin_of : Instant → Since → Option Instant
begin_of now Never = None
begin_of now Now = Some now
begin_of now (Then begun) = Some begun

-- the first bytes of a call begin it; further bytes begin nothing
abbrev pub after_bytes : Since → Since
after_bytes Never = Now
after_bytes Now = Now
after_bytes (Then begun) = Then begun

-- the begin of a wait is asked for at the time `now`, which may begin the wait
abbrev pub SharesTime : Instant → Since → Since → Option Instant → Type 0
SharesTime now old new result = (new ≡ waited now old) × (result ≡ begin_of now old)

-- bytes of a call came: the time of the call goes on if it has begun, and otherwise begins
abbrev pub NotesBytes : CallClock → CallClock → Type 0
NotesBytes old new = new ≡ record old { active = Now; begun = after_bytes old.begun }

-- a call or a reply has begun, or neither has, with its whole time
pub record IsBegun (begun : Since) (clock : CallClock) : Type 0 where
  pub begins : clock.begun ≡ begun
  pub active : clock.active ≡ Now
  pub allowed : as_nanos clock.allowed ≡ seconds CALL_SECONDS
  pub delayed : clock.delayed ≡ None

-- a reply was written whole: no call has begun
abbrev pub IsBetweenCalls : CallClock → Type 0
IsBetweenCalls clock = IsBegun Never clock × (clock.is_reply ≡ false)

-- A write of a reply waits. The reply's time begins with the first wait, and does not depend on the call's
-- time.
abbrev pub BeginsReply : CallClock → CallClock → Bool → Type 0
BeginsReply old new true = (old.is_reply ≡ false) × IsBegun Now new × (new.is_reply ≡ true)
BeginsReply old new false = (old.is_reply ≡ true) × (new ≡ old)

-- the time that a call or a reply has left; between two calls no time is over
abbrev pub Leaves : ℕ → Option Instant → Instant → Result (Option Duration) Ending → Ending → Type 0
Leaves allowed None now (Ok left) ending = left ≡ None
Leaves allowed None now (Err e) ending = ⊥
Leaves allowed (Some begun) now (Ok None) ending = ⊥
Leaves allowed (Some begun) now (Ok (Some left)) ending = LeftOf allowed begun now (Some left)
Leaves allowed (Some begun) now (Err e) ending = (e ≡ ending) × LeftOf allowed begun now None

-- the time that the call or the reply under way may still take: it counts from the first wait, and does not
-- begin again
abbrev pub IsTimed : Instant → CallClock → CallClock → Result (Option Duration) Ending → Type 0
IsTimed now old new result = (new ≡ record old { begun = waited now old.begun })
    × Leaves (as_nanos old.allowed) (begin_of now old.begun) now result Slow

-- the time for which the peer may still do nothing, if it is limited
abbrev pub IdleLeft : Option Duration → Duration → Instant → Instant → Result (Option Duration) Ending → Type 0
IdleLeft None blocked active now result = result ≡ Ok None
IdleLeft (Some idle) blocked active now result = Leaves (as_nanos idle - as_nanos blocked) (Some active) now result Idle

-- the time since which the peer has done nothing
abbrev pub idle_since : Instant → Since → Instant
idle_since now Never = now
idle_since now Now = now
idle_since now (Then active) = active

-- the time for which the peer may still do nothing; the call or the reply under way is unchanged
abbrev pub LeavesCall : Option Duration → Duration → Instant → CallClock → CallClock → Result (Option Duration) Ending → Type 0
LeavesCall idle blocked now old new result = (new ≡ record old { active = waited now old.active })
    × IdleLeft idle blocked (idle_since now old.active) now result

-- the longer of the times that are given
abbrev pub IsLonger : Option Duration → Option Duration → Option Duration → Type 0
IsLonger one other None = (one ≡ None) × (other ≡ None)
IsLonger one other (Some longer) = ((one ≡ Some longer) ⊎ (other ≡ Some longer))
    × IfSome one (λ it. as_nanos it ≤ as_nanos longer) × IfSome other (λ it. as_nanos it ≤ as_nanos longer)

-- the time at which the peer first delayed another connection, in this call or reply
abbrev pub delayed_at : Instant → Option Instant → Instant
delayed_at now None = now
delayed_at now (Some delayed) = delayed

-- The time for which the peer may still delay other connections: the longer of the rest of their second, and
-- the rest of a tenth of a second of its own.
abbrev pub DelayLeft : Instant → Instant → Instant → Result Duration Ending → Type 0
DelayLeft since delayed now (Ok left) = (shared : Option Duration) × (own : Option Duration) × LeftOf (seconds WANTED_SECONDS) since now shared
    × LeftOf (SHORTEST_MILLIS * 1_000_000) delayed now own × IsLonger shared own (Some left)
DelayLeft since delayed now (Err ending) = (ending ≡ Preempted) × LeftOf (seconds WANTED_SECONDS) since now None
    × LeftOf (SHORTEST_MILLIS * 1_000_000) delayed now None

-- between two calls the peer may not delay another connection that is ready; in a call or a reply it may for
-- some time
abbrev pub MayDelay : Instant → Instant → CallClock → CallClock → Result Duration Ending → Type 0
MayDelay since now old new result = ((is_never old.begun ≡ true) × (result ≡ Err Idle) × (new ≡ old))
    ⊎ ((is_never old.begun ≡ false) × (new ≡ record old { delayed = Some (delayed_at now old.delayed) })
    × DelayLeft since (delayed_at now old.delayed) now result)

-- a call or a reply goes on: it has begun at the same time
abbrev pub GoesOnSince : Since → Since → Type 0
GoesOnSince Never new = new ≡ Never
GoesOnSince Now new = is_never new ≡ false
GoesOnSince (Then begun) new = new ≡ Then begun

-- the same call or reply is under way, or none, and its whole time is the same
pub record GoesOnCall (old new : CallClock) : Type 0 where
  pub begun : GoesOnSince old.begun new.begun
  pub allowed : new.allowed ≡ old.allowed
  pub reply : new.is_reply ≡ old.is_reply
