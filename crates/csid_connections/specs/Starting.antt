-- The first bytes of a connection, and whether they begin a call.
use Rattle.std.specs.Prelude.{◌≡◌, ◌≢◌, ◌⊎◌, ◌≤◌, ◌<◌, ◌==◌, ◌++◌, ◌+◌, Bool, true, false, ℕ, ⊤, List, [], length, take}
use Rattle.std.specs.Prelude.{Option, None, Some, IfSome, IsSomeAnd, Result, Ok, Err}
use Rattle.std.specs.Duration.{as_nanos}
use Rattle.std.specs.declared.time.Duration.{Duration}
use Rattle.std.specs.Io.KnownBytes.{Consumes, IsAtEnd, Keeps}
use Rattle.std.specs.declared.time.Instant.{Instant}
use Rattle.envelope.specs.declared.fault.FrameWhy.{FrameWhy}
use Rattle.envelope.specs.declared.fault.FrameWhy.TheVariants.{EndOfInput}
use Rattle.envelope.specs.Envelope.{CallBytes, IsCall, frame}
use Rattle.envelope.specs.Stream.{FaultAt}
use Rattle.csid_console.specs.declared.console.Ending.{Ending}
use Rattle.csid_console.specs.declared.console.Ending.TheVariants.{Idle, Slow}
use Rattle.csid_connections.specs.Timing.{passed, seconds}
use Rattle.csid_connections.specs.declared.limits.TheConstants.{CALL_SECONDS}
use Rattle.csid_connections.specs.declared.pending.FirstBytes.{FirstBytes}
use Rattle.csid_connections.specs.declared.pending.PeerInput.{PeerInput}
use Rattle.csid_connections.specs.declared.pending.PeerInput.TheVariants.{Nothing, Something, Lost}
use Rattle.csid_connections.specs.declared.pending.Start.{Start}
use Rattle.csid_connections.specs.declared.pending.Start.TheVariants.{Call, NoCall, Open}
use Rattle.csid_connections.specs.declared.pending.TheConstants.{ENOUGH}

-- the bytes begin with a whole frame
abbrev pub BeginsCall : List ℕ → Type 0
BeginsCall bytes = (call : CallBytes) × (size : ℕ) × IsCall call × (size ≤ length bytes) × (take size bytes ≡ frame call)

-- as the whole of a stream, the bytes are refused at their first frame, or are empty
abbrev pub BeginsNoCall : List ℕ → Type 0
BeginsNoCall bytes = (bytes ≡ []) ⊎ ((why : FrameWhy) × (at : ℕ) × FaultAt bytes why at)

-- the first frame of the bytes is malformed, and no further bytes can change that
abbrev pub BeginsFault : List ℕ → Type 0
BeginsFault bytes = (why : FrameWhy) × (at : ℕ) × FaultAt bytes why at × (why ≢ EndOfInput)

-- the only fault of the bytes is that they end
abbrev pub MayBeginCall : List ℕ → Type 0
MayBeginCall bytes = (bytes ≡ []) ⊎ ((at : ℕ) × FaultAt bytes EndOfInput at)

-- the start of the bytes that a connection has sent, up to its end or so far
abbrev pub Begins : List ℕ → Bool → Start → Type 0
Begins sent has_ended Call = BeginsCall sent ⊎ ((has_ended ≡ false) × (ENOUGH ≤ length sent) × MayBeginCall sent)
Begins sent has_ended NoCall = BeginsFault sent ⊎ ((has_ended ≡ true) × BeginsNoCall sent)
Begins sent has_ended Open = (has_ended ≡ false) × (length sent < ENOUGH) × MayBeginCall sent

-- true if it is known whether a connection begins a call
abbrev pub is_known : Option Start → Bool
is_known None = false
is_known (Some Call) = true
is_known (Some NoCall) = true
is_known (Some Open) = false

-- the time of the first byte: a known time, or the time of this piece
abbrev pub begun_by : Option Instant → Instant → Option Instant
begun_by None now = Some now
begun_by (Some begun) now = Some begun

-- A piece came at a time; the empty piece is the end. The piece is kept, and the start of all bytes is noted,
-- with the time of the first byte and of the last piece.
pub record Notes (piece : List ℕ) (now : Instant) (old new : FirstBytes) : Type 0 where
  pub sent : new.sent.items ≡ old.sent.items ++ piece
  pub start : IsSomeAnd new.start (Begins new.sent.items (length piece == 0))
  pub since : new.since ≡ now
  pub begun : new.begun ≡ begun_by old.begun now

-- a piece is noted, or the connection is lost
abbrev pub Accepts : List ℕ → Instant → FirstBytes → FirstBytes → PeerInput → Type 0
Accepts piece now old new Nothing = ⊥
Accepts piece now old new Something = Notes piece now old new
Accepts piece now old new Lost = ⊤

-- A read, by the unread bytes before and after it: no bytes came, and the times stay, or bytes came and are
-- noted. Nothing is stated for a connection that is lost.
abbrev pub Finds : (unread left : Option (List ℕ)) → Instant → FirstBytes → FirstBytes → PeerInput → Type 0
Finds unread left now old new Nothing = Keeps unread left × (new.sent.items ≡ old.sent.items) × (new.start ≡ Some Open)
    × (new.since ≡ old.since) × (new.begun ≡ old.begun)
Finds unread left now old new Something = (piece : List ℕ) × Consumes unread left piece × (piece ≡ [] → IsAtEnd left) × Notes piece now old new
Finds unread left now old new Lost = ⊤

-- the nanoseconds from the first byte to a later time; 0 before the first byte
abbrev pub passed_from : Option Instant → Instant → ℕ
passed_from None now = 0
passed_from (Some begun) now = passed begun now

-- the nanoseconds that the peer has taken so far for its first call: from its first byte to the last one
abbrev pub spent_nanos : FirstBytes → ℕ
spent_nanos first = passed_from first.begun first.since

-- the peer was silent for the whole time that it may be
abbrev pub IsIdle : Option Duration → Instant → FirstBytes → Type 0
IsIdle idle now first = IsSomeAnd idle (λ longest. as_nanos longest ≤ passed first.since now)

-- the peer began a call, and the whole time of a call has passed
abbrev pub IsSlow : Instant → FirstBytes → Type 0
IsSlow now first = IsSomeAnd first.begun (λ begun. seconds CALL_SECONDS ≤ passed begun now)

-- this time ends before the peer is idle or slow, or at that moment
pub record IsInTime (idle : Option Duration) (now : Instant) (first : FirstBytes) (left : Duration) : Type 0 where
  pub sending : IfSome idle (λ longest. as_nanos left + passed first.since now ≤ as_nanos longest)
  pub call : IfSome first.begun (λ begun. as_nanos left + passed begun now ≤ seconds CALL_SECONDS)
  pub some : 0 < as_nanos left

-- The time for which a connection may go on without a complete call: its peer is neither idle nor slow before
-- this time is over. `None` means for ever: no time is given and no call has begun. Or the reason why the
-- connection ends.
abbrev pub WaitsFor : Option Duration → Instant → FirstBytes → Result (Option Duration) Ending → Type 0
WaitsFor idle now first (Ok None) = (idle ≡ None) × (first.begun ≡ None)
WaitsFor idle now first (Ok (Some left)) = IsInTime idle now first left
WaitsFor idle now first (Err ending) = ((ending ≡ Idle) × IsIdle idle now first) ⊎ ((ending ≡ Slow) × IsSlow now first)
