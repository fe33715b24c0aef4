-- The queue of connections that wait, and the connection that is served next.
use Rattle.std.specs.Prelude.{◌≡◌, ◌≤◌, ◌⊎◌, ◌&&◌, ◌+◌, ◌*◌, ◌++◌, Bool, true, false, ℕ, zero, suc, ⊤, nat_le, if◌then◌else◌}
use Rattle.std.specs.Prelude.{List, [], ◌∷◌, length, remove, slice_index_or, Option, None, Some, IfSome, is_none}
use Rattle.std.specs.Duration.{as_nanos}
use Rattle.std.specs.declared.time.Duration.{Duration}
use Rattle.std.specs.declared.time.Instant.{Instant}
use Rattle.csid_console.specs.declared.console.Ending.{Ending}
use Rattle.csid_console.specs.declared.console.Ending.TheVariants.{Idle, Slow, Gone, Crowded, Malformed, Preempted, Failed}
use Rattle.csid_connections.specs.Timing.{passed, seconds}
use Rattle.csid_connections.specs.declared.limits.TheConstants.{CALL_SECONDS}
use Rattle.csid_connections.specs.declared.pending.FirstBytes.{FirstBytes}
use Rattle.csid_connections.specs.declared.pending.PeerInput.TheVariants.{Nothing, Something}
use Rattle.std.specs.List.{position}
use Rattle.csid_connections.specs.Starting.{Finds, IsIdle, IsSlow, is_known}
use Rattle.csid_connections.specs.declared.pending.Pending.{Pending}
use Rattle.csid_connections.specs.declared.pending.Start.{Start}
use Rattle.csid_connections.specs.declared.pending.Start.TheVariants.{Call, NoCall, Open}
use Rattle.csid_connections.specs.declared.waiting.TheConstants.{MOST}

-- it is known whether the connection begins a call
abbrev pub is_ready : Pending → Bool
is_ready one = is_known one.first.start

abbrev pub is_open : Option Start → Bool
is_open None = false
is_open (Some Call) = false
is_open (Some NoCall) = false
is_open (Some Open) = true

-- the connection was looked at, and has sent no call so far
abbrev pub has_no_call : Pending → Bool
has_no_call one = is_open one.first.start

-- the queue without the connection at a place
abbrev pub without : Option ℕ → List Pending → List Pending
without None pending = pending
without (Some place) pending = remove pending place

-- no further connection can wait, not even instead of another
abbrev pub is_full : List Pending → Bool
is_full pending = nat_le MOST (length pending) && is_none (position has_no_call pending)

-- the connection at a place is taken out of the queue
abbrev pub TakesOut : Option ℕ → List Pending → List Pending → Option Pending → Type 0
TakesOut None old new one = (one ≡ None) × (new ≡ old)
TakesOut (Some place) old new one = ((d : Pending) → one ≡ Some (slice_index_or old place d)) × (new ≡ remove old place)

-- a queue with at most `MOST` connections still has at most `MOST`
abbrev pub StayFew : List Pending → List Pending → Type 0
StayFew old new = length old ≤ MOST → length new ≤ MOST

-- The time for which a connection in the queue may send nothing: the given time, but at most ten seconds
-- after no further connection is accepted.
abbrev pub IsSilence : Option Duration → ℕ → Option Duration → Type 0
IsSilence idle left None = (idle ≡ None) × (left ≡ 0 → ⊥)
IsSilence idle left (Some longest) = ((idle ≡ Some longest) ⊎ ((left ≡ 0) × (as_nanos longest ≡ seconds CALL_SECONDS)))
    × IfSome idle (λ given. as_nanos longest ≤ as_nanos given) × (left ≡ 0 → as_nanos longest ≤ seconds CALL_SECONDS)

-- a connection that has just come, and has sent nothing
pub record IsNew (now : Instant) (one : Pending) : Type 0 where
  pub sent : one.first.sent.items ≡ []
  pub start : one.first.start ≡ None
  pub since : one.first.since ≡ now
  pub begun : one.first.begun ≡ None

module _ (idle : Option Duration) (left : ℕ) (now : Instant) where
  -- the peer was silent for the whole time that it may be
  abbrev pub IsSilent : FirstBytes → Type 0
  IsSilent first = IsIdle idle now first ⊎ ((left ≡ 0) × (seconds CALL_SECONDS ≤ passed first.since now))

  -- The reason why a connection without a call ends at a look: its peer was silent or slow for too long, or
  -- the connection failed.
  abbrev pub Ends : FirstBytes → Ending → Type 0
  Ends first Idle = IsSilent first
  Ends first Slow = IsSlow now first
  Ends first Gone = ⊥
  Ends first Crowded = ⊥
  Ends first Malformed = ⊥
  Ends first Preempted = ⊥
  Ends first Failed = ⊤

  -- A connection goes on after a look. If it was ready, it is unchanged. Otherwise bytes came, or no bytes
  -- came and its time is not over.
  pub record GoesOn (one later : Pending) : Type 0 where
    pub stream : later.stream ≡ one.stream
    pub known : is_ready one ≡ true → later.first ≡ one.first
    pub unknown : is_ready one ≡ false → Finds None None now one.first later.first Something
        ⊎ (Finds None None now one.first later.first Nothing × ((IsSilent later.first ⊎ IsSlow now later.first) → ⊥))

  -- After a read from each connection, in order: each connection stays and keeps its order, or it had sent no
  -- call and has ended.
  abbrev pub LooksAt : List Pending → List Pending → Type 0
  LooksAt [] new = new ≡ []
  LooksAt (one ∷ rest) new = ((later : Pending) × (more : List Pending) × (new ≡ later ∷ more) × GoesOn one later × LooksAt rest more)
      ⊎ ((is_ready one ≡ false) × LooksAt rest new)

  -- a look at the first connection: it goes on and is then the last one, or it had sent no call and has ended
  abbrev pub TurnsOver : List Pending → List Pending → Type 0
  TurnsOver [] new = new ≡ []
  TurnsOver (one ∷ rest) new = ((later : Pending) × GoesOn one later × (new ≡ rest ++ later ∷ [])) ⊎ ((is_ready one ≡ false) × (new ≡ rest))

-- a full queue without its oldest connection that has sent no call
abbrev pub with_room : List Pending → List Pending
with_room pending = if nat_le MOST (length pending) then without (position has_no_call pending) pending else pending

-- the queue after the oldest connection without a call was closed `n` times
abbrev pub closed : ℕ → List Pending → List Pending
closed zero pending = pending
closed (suc n) pending = without (position has_no_call (closed n pending)) (closed n pending)

module _ (now : Instant) where
  -- A connection comes in and is the last in the queue, or it cannot be kept. If no further connection can
  -- wait, the oldest one that has sent no call makes room.
  abbrev pub ComesIn : List Pending → List Pending → Type 0
  ComesIn old new = (new ≡ with_room old) ⊎ ((one : Pending) × IsNew now one × (new ≡ with_room old ++ one ∷ []))

  -- `n` connections come in, in order, while there is room
  abbrev pub ComeIn : ℕ → List Pending → List Pending → Type 0
  ComeIn zero old new = new ≡ old
  ComeIn (suc n) old new = (mid : List Pending) × ComeIn n old mid × (is_full mid ≡ false) × ComesIn mid new

  -- Connections come in, and each is counted. If the system gives no connection, the oldest connections that
  -- have sent no call make room, at most half of all.
  pub record TakesIn (old new : List Pending) (left still : ℕ) : Type 0 where
    pub taken : ℕ
    pub came : List Pending
    pub come : ComeIn taken old came
    pub counted : still + taken ≡ left
    pub room : (new ≡ came) ⊎ ((n : ℕ) × (n * 2 ≤ length came + 1) × (new ≡ closed n came))

module _ (idle : Option Duration) where
  -- a look: connections come in, and then each connection in the queue is looked at
  pub record Looks (now : Instant) (old new : List Pending) (left still : ℕ) : Type 0 where
    pub among : List Pending
    pub takes : TakesIn now old among left still
    pub looks : LooksAt idle still now among new

  -- `n` looks, in order
  abbrev pub Waits : ℕ → (old new : List Pending) (left still : ℕ) → Type 0
  Waits zero old new left still = (new ≡ old) × (still ≡ left)
  Waits (suc n) old new left still = (mid : List Pending) × (between : ℕ) × (now : Instant) × Waits n old mid left between × Looks now mid new between still

  -- After some looks the oldest connection that is ready is taken out of the queue. `None` means that no
  -- further connection is accepted, and that the queue is empty.
  pub record GivesNext (old new : List Pending) (left still : ℕ) (next : Option Pending) : Type 0 where
    pub looks : ℕ
    pub last : List Pending
    pub waits : Waits looks old last left still
    pub takes : TakesOut (position is_ready last) last new next
    pub end : next ≡ None → (still ≡ 0) × (new ≡ [])
