-- Several clients. Each tries its own requests in order, each request until it is answered. Their tries are
-- separate if no two clients work on one object at once.
use Rattle.std.specs.Prelude.{◌≡◌, ◌≢◌, ◌⊎◌, ℕ, ◌==◌, Bool, true, false, List, [], ◌∷◌, map, Option, Some, None, if◌then◌else◌}
use Rattle.csi_types.specs.declared.requests.Request.{Request}
use Rattle.csi_config.specs.declared.config.Config.{Config}
use Rattle.csi_keeper.specs.State.{State}
use Rattle.csi_machine.specs.Retry.{Ending, Marked, Down, Unanswered, Answered, Try, after_try, IsOfFirst, IsOfAnother, without_first}
use Rattle.csi_machine.specs.Step.{is_read}
use Rattle.csi_clients.specs.Objects.{LeavesAlone}

-- A client: the requests that it still asks for, in order; whether the first of them is open, that is invoked
-- and not answered yet; and whether the client is gone, that is tries nothing more.
pub record Client : Type 0 where
  pub rest : List Request
  pub is_open : Bool
  pub is_gone : Bool

-- the clients, each under its number
abbrev pub Clients : Type 0
Clients = ℕ → Client

-- clients that have tried nothing yet
abbrev pub start : (ℕ → List Request) → Clients
start todo c = record { rest = todo c; is_open = false; is_gone = false }

-- A try of a client, and whether it is the client's last try: the client may be gone after any try, answered
-- or not. Or, without a client, a try that changes nothing.
pub record ClientTry : Type 0 where
  pub client : Option ℕ
  pub made : Try
  pub is_last : Bool

abbrev pub tries_made : List ClientTry → List Try
tries_made ts = map (λ t. t.made) ts

-- ---- the clients after tries

-- A client after a try of its first request. A store that is down does nothing, so this try invokes nothing.
abbrev pub client_after : Client → Ending → Client
client_after k Marked = record { rest = k.rest; is_open = true; is_gone = k.is_gone }
client_after k Down = k
client_after k Unanswered = record { rest = k.rest; is_open = true; is_gone = k.is_gone }
client_after k Answered = record { rest = without_first k.rest; is_open = false; is_gone = k.is_gone }

-- a client that is gone after its last try: no request of it is open
abbrev pub gone_if : Bool → Client → Client
gone_if is_last k = record { rest = k.rest; is_open = if is_last then false else k.is_open; is_gone = if is_last then true else k.is_gone }

abbrev pub with_client : Clients → ℕ → Client → Clients
with_client cs c k d = if d == c then k else cs d

abbrev pub clients_after_try : Clients → Option ℕ → Ending → Bool → Clients
clients_after_try cs None end is_last = cs
clients_after_try cs (Some c) end is_last = with_client cs c (gone_if is_last (client_after (cs c) end))

abbrev pub clients_after : Clients → List ClientTry → Clients
clients_after cs [] = cs
clients_after cs (t ∷ ts) = clients_after (clients_after_try cs t.client t.made.end t.is_last) ts

-- ---- requests that were refused inside

-- Whether the first request of each client is refused: its last try that reached the store in this session
-- was refused inside, so a stop may still leave the change.
abbrev pub Refusals : Type 0
Refusals = ℕ → Bool

abbrev pub is_refused : Bool → Ending → Bool
is_refused was Marked = true
is_refused was Down = was
is_refused was Unanswered = false
is_refused was Answered = false

abbrev pub refusals_after : Refusals → Option ℕ → Ending → Refusals
refusals_after refusals None end = refusals
refusals_after refusals (Some c) end = λ d. if d == c then is_refused (refusals c) end else refusals d

-- ---- separate tries

-- Each of two requests leaves the object of the other alone. A request that changes nothing is asked again by
-- each try, so its object need not be left alone.
abbrev pub LeaveEachOtherAlone : State → Request → Request → Type 0
LeaveEachOtherAlone s q r = (is_read r ≡ false → LeavesAlone s q r) × (is_read q ≡ false → LeavesAlone s r q)

-- a request and the first of these requests leave each other's objects alone
abbrev pub LeavesFirstAlone : State → Request → List Request → Type 0
LeavesFirstAlone s q [] = Unit {0}
LeavesFirstAlone s q (r ∷ rs) = LeaveEachOtherAlone s q r

-- the first request of a client is unsettled: it is open, or refused
abbrev pub IsUnsettled : Client → Bool → Type 0
IsUnsettled k refused = (k.is_open ≡ true) ⊎ (refused ≡ true)

-- A try is separate: it is of the first request of a client that is not gone, and this request and the
-- unsettled one of each other client leave each other's objects alone. Or the try is without a client, and
-- changes nothing.
abbrev pub IsSeparate : State → Clients → Refusals → Option ℕ → Try → Type 0
IsSeparate s cs refusals None t = IsOfAnother t
IsSeparate s cs refusals (Some c) t =
    ((cs c).is_gone ≡ false)
    × IsOfFirst (cs c).rest t
    × ((d : ℕ) → d ≢ c → IsUnsettled (cs d) (refusals d) → LeavesFirstAlone s t.request (cs d).rest)

abbrev pub AreSeparateFrom : Config → State → Clients → Refusals → List ClientTry → Type 0
AreSeparateFrom config s cs refusals [] = Unit {0}
AreSeparateFrom config s cs refusals (t ∷ ts) =
    IsSeparate s cs refusals t.client t.made
    × AreSeparateFrom config (after_try config s t.made) (clients_after_try cs t.client t.made.end t.is_last) (refusals_after refusals t.client t.made.end) ts

-- The tries of a session are separate. At its start no request is refused.
abbrev pub AreSeparate : Config → State → Clients → List ClientTry → Type 0
AreSeparate config s cs ts = AreSeparateFrom config s cs (λ c. false) ts
