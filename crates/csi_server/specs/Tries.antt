-- Calls as tries of requests: what a client of the volume machine asks for, call by call, what it hears, and
-- what its sessions leave (CSI specification, 'Timeouts').
use Rattle.std.specs.Prelude.{◌≡◌, ◌⊎◌, ℕ, Bool, true, false, List, [], ◌∷◌, ◌++◌, map, Option, Some, None, Result, Ok, Err}
use Rattle.std.specs.List.{flat_map}
use Rattle.envelope.specs.Envelope.{CallBytes, ReplyBytes}
use Rattle.csi_types.specs.declared.method.Method.{Method}
use Rattle.csi_types.specs.declared.reason.Reason.{Reason}
use Rattle.csi_types.specs.declared.requests.Request.{Request}
use Rattle.csi_types.specs.Checks.{checked}
use Rattle.csi_types.specs.Methods.{method_at, path_of}
use Rattle.csi_codec.specs.Methods.{request_bytes, request_method}
use Rattle.csi_codec.specs.Reading.{read_request}
use Rattle.csi_config.specs.declared.config.Config.{Config}
use Rattle.csi_keeper.specs.State.{State}
use Rattle.csi_machine.specs.Retry.{Try, Ending, Marked, Down, Unanswered, Answered, AreTriesOf, all_tries}
use Rattle.csi_server.specs.Machine.{Event, Mark, Unmarked, OutOfMemory, StoreRefused, StoreDown, done, state_after}
use Rattle.csi_server.specs.Machine.{step as call_step}
use Rattle.csi_server.specs.Volumes.{volumes, IsPending}

-- ---- the request that a call asks for

abbrev pub unless_refused : Request → Option Reason → Option Request
unless_refused r None = Some r
unless_refused r (Some why) = None

abbrev pub asked_in : Result Request ℕ → Option Request
asked_in (Ok r) = unless_refused r (checked r)
asked_in (Err at) = None

abbrev pub asked_of : Option Method → List ℕ → Option Request
asked_of None message = None
asked_of (Some m) message = asked_in (read_request m message)

-- The request that a call asks for: its path names a method, its message is read, and its arguments pass the
-- checks. Any other call asks for none.
abbrev pub asked : CallBytes → Option Request
asked call = asked_of (method_at call.path) call.message

-- the same as a relation: the call asks for the request
pub record Asks (call : CallBytes) (r : Request) : Type 0 where
  pub method : Method
  pub called : method_at call.path ≡ Some method
  pub read : read_request method call.message ≡ Ok r
  pub passed : checked r ≡ None

-- the call with the path of a request's method, and its encoding as the message
abbrev pub spelled_call : Request → CallBytes
spelled_call r = record { path = path_of (request_method r); message = request_bytes r }

-- ---- the calls of a session

-- A call with its mark, and whether the client heard the reply. The client hears no reply to a call of
-- another client.
pub record Exchange : Type 0 where
  pub event : Event
  pub is_heard : Bool

abbrev pub events_of : List Exchange → List Event
events_of session = map (λ x. x.event) session

-- the ending of a try: a call that was refused inside is `Marked` or `Down`, even if its client heard the
-- refusal
abbrev pub ending : Mark → Bool → Ending
ending Unmarked true = Answered
ending Unmarked false = Unanswered
ending OutOfMemory is_heard = Marked
ending StoreRefused is_heard = Marked
ending StoreDown is_heard = Down

abbrev pub tries_for : Option Request → Ending → List Try
tries_for None end = []
tries_for (Some r) end = record { request = r; end = end } ∷ []

-- the try of the request that a call asks for; no try if the call asks for none
abbrev pub tries_in : Exchange → List Try
tries_in x = tries_for (asked x.event.call) (ending x.event.mark x.is_heard)

-- the tries of a session, in order
abbrev pub tries_of : List Exchange → List Try
tries_of session = flat_map tries_in session

abbrev pub heard_if : Bool → ReplyBytes → List ReplyBytes
heard_if true reply = reply ∷ []
heard_if false reply = []

abbrev pub heard_by : Option Request → Mark → Bool → ReplyBytes → List ReplyBytes
heard_by None mark is_heard reply = []
heard_by (Some r) Unmarked is_heard reply = heard_if is_heard reply
heard_by (Some r) OutOfMemory is_heard reply = []
heard_by (Some r) StoreRefused is_heard reply = []
heard_by (Some r) StoreDown is_heard reply = []

-- The replies that the client heard to its requests: the machine's replies to the calls that ask for a
-- request and were not refused inside, if the client heard them.
abbrev pub heard_of : Config → State → List Exchange → List ReplyBytes
heard_of config s [] = []
heard_of config s (x ∷ xs) =
    heard_by (asked x.event.call) x.event.mark x.is_heard (call_step (volumes config) s x.event).0
    ++ heard_of config (call_step (volumes config) s x.event).1 xs

-- ---- over stops

-- a session may leave this State by the law `pending`: the State after its calls, or the State that a call
-- would have made that was refused for lack of memory or by the store
abbrev pub IsLeft : Config → State → List Event → State → Type 0
IsLeft config s events t = (t ≡ state_after (volumes config) s events) ⊎ IsPending config s events t

-- A life in calls: sessions, each begun from the State that the session before it left. `heard` are the
-- replies that the client heard in all sessions, and `t` is the State that the last session left.
abbrev pub IsLifeOfCalls : Config → State → List (List Exchange) → List ReplyBytes → State → Type 0
IsLifeOfCalls config s [] heard t = (heard ≡ []) × (t ≡ s)
IsLifeOfCalls config s (session ∷ sessions) heard t =
    (u : State)
    × (rest : List ReplyBytes)
    × IsLeft config s (events_of session) u
    × (heard ≡ heard_of config s session ++ rest)
    × IsLifeOfCalls config u sessions rest t

-- ---- a life of one call

-- two sessions: a call is made and its reply is not heard, and the call is made again and its reply is heard
abbrev pub twice : CallBytes → Mark → List (List Exchange)
twice call mark =
    (record { event = record { call = call; mark = mark }; is_heard = false } ∷ [])
    ∷ (record { event = record { call = call; mark = Unmarked }; is_heard = true } ∷ []) ∷ []

-- These two sessions are tries of the request, and a life from the State: the first session leaves the State
-- after the call, and the second session replies to the call in this State.
abbrev pub IsLifeOfTwo : Config → State → CallBytes → Request → Mark → Type 0
IsLifeOfTwo config s call r mark =
    AreTriesOf (r ∷ []) (all_tries (map tries_of (twice call mark)))
    × IsLifeOfCalls config s (twice call mark) (((volumes config).respond (done (volumes config) s call) call).0 ∷ [])
    (done (volumes config) (done (volumes config) s call) call)

-- as `twice`, but another client makes a call before the call is made again
abbrev pub between : CallBytes → CallBytes → List (List Exchange)
between call other =
    (record { event = record { call = call; mark = Unmarked }; is_heard = false }
    ∷ record { event = record { call = other; mark = Unmarked }; is_heard = false } ∷ [])
    ∷ (record { event = record { call = call; mark = Unmarked }; is_heard = true } ∷ []) ∷ []

abbrev pub IsLifeWithAnother : Config → State → CallBytes → CallBytes → Request → Type 0
IsLifeWithAnother config s call other r =
    AreTriesOf (r ∷ []) (all_tries (map tries_of (between call other)))
    × IsLifeOfCalls config s (between call other)
    (((volumes config).respond (done (volumes config) (done (volumes config) s call) other) call).0 ∷ [])
    (done (volumes config) (done (volumes config) (done (volumes config) s call) other) call)
