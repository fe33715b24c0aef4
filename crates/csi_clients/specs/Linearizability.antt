-- Linearizable histories (M. P. Herlihy and J. M. Wing, "Linearizability: a correctness condition for
-- concurrent objects", ACM TOPLAS 12(3), 1990). An operation is a request of a client, its invocation is the
-- first try, and its response is the answer that the client hears. The sequential specification is the step
-- of the machine.
use Rattle.std.specs.Prelude.{◌≡◌, ◌⊎◌, ℕ, ◌==◌, true, false, List, [], ◌∷◌, ◌++◌, if◌then◌else◌}
use Rattle.csi_types.specs.declared.requests.Request.{Request}
use Rattle.csi_config.specs.declared.config.Config.{Config}
use Rattle.csi_keeper.specs.State.{State}
use Rattle.csi_machine.specs.Step.{step}
use Rattle.csi_machine.specs.Verdicts.{Report}
use Rattle.csi_clients.specs.Clients.{Client, Clients, ClientTry, Refusals, start, clients_after, clients_after_try, refusals_after}
use Rattle.csi_clients.specs.Histories.{Sessions, heard_if, all_client_tries}

-- ---- operations, each taken once

-- a request of a client
pub record Operation : Type 0 where
  pub client : ℕ
  pub request : Request

-- the requests of one client among operations, in their order
abbrev pub requests_of : ℕ → List Operation → List Request
requests_of c [] = []
requests_of c (o ∷ os) = if c == o.client then o.request ∷ requests_of c os else requests_of c os

-- the answers to a client if each operation is taken once, in order
abbrev pub answers_in : Config → State → ℕ → List Operation → List Report
answers_in config s c [] = []
answers_in config s c (o ∷ os) =
    heard_if (c == o.client) ((step config s o.request).0 ∷ []) ++ answers_in config (step config s o.request).1 c os

-- the State after the operations are taken once each, in order
abbrev pub after_operations : Config → State → List Operation → State
after_operations config s [] = s
after_operations config s (o ∷ os) = after_operations config (step config s o.request).1 os

-- ---- the real-time order

-- The first request of a client may be taken although its client has heard no answer.
abbrev pub IsInvoked : Client → Type 0
IsInvoked k = (k.is_open ≡ true) ⊎ (k.is_gone ≡ true)

-- The requests of a client that are not taken yet: all that it still asks for, or, if the first is invoked
-- and not answered, maybe all but the first.
abbrev pub IsToCome : Client → List Request → Type 0
IsToCome k requests = (requests ≡ k.rest) ⊎ (IsInvoked k × (first : Request) × (k.rest ≡ first ∷ requests))

-- The operations are the remainder of an order at some moment, and these requests are left after them. Of
-- each client the remainder and the requests left are the requests that are not taken yet. The remainder has
-- no request of a client that is gone, unless this request is refused.
pub record IsRemainder (left : ℕ → List Request) (cs : Clients) (refusals : Refusals) (order : List Operation) : Type 0 where
  pub to_come : (c : ℕ) → IsToCome (cs c) (requests_of c order ++ left c)
  pub gone : (c : ℕ) → (cs c).is_gone ≡ true → refusals c ≡ false → requests_of c order ≡ []

-- At each moment of a session, before each try and after the last one, the order divides into the operations
-- that are taken before this moment and a remainder. The remainder after the session is `later`.
abbrev pub KeepsRealTimeIn : (ℕ → List Request) → Clients → Refusals → List ClientTry → List Operation → List Operation → Type 0
KeepsRealTimeIn left cs refusals [] order later = IsRemainder left cs refusals order × (before : List Operation) × (order ≡ before ++ later)
KeepsRealTimeIn left cs refusals (t ∷ ts) order later =
    IsRemainder left cs refusals order
    × (before : List Operation)
    × (next : List Operation)
    × (order ≡ before ++ next)
    × KeepsRealTimeIn left (clients_after_try cs t.client t.made.end t.is_last) (refusals_after refusals t.client t.made.end) ts next later

-- The order keeps the real-time order of the history: an operation that was answered, or whose client is
-- gone, is before each operation that was invoked later.
abbrev pub KeepsRealTime : (ℕ → List Request) → Clients → Sessions → List Operation → Type 0
KeepsRealTime left cs [] order = IsRemainder left cs (λ c. false) order
KeepsRealTime left cs (tries ∷ sessions) order =
    (later : List Operation) × KeepsRealTimeIn left cs (λ c. false) tries order later × KeepsRealTime left (clients_after cs tries) sessions later

-- ---- linearizable histories

-- A client in the end: either no request that it still asks for is taken, and it heard all answers; or the
-- first is taken, and its answer is not heard.
abbrev pub IsLeftOver : Client → List Request → List Report → Type 0
IsLeftOver k left unheard =
    ((left ≡ k.rest) × (unheard ≡ []))
    ⊎ (IsInvoked k × (first : Request) × (k.rest ≡ first ∷ left) × (answer : Report) × (unheard ≡ answer ∷ []))

-- A history is linearizable: there is an order of operations, Herlihy and Wing's sequential history. In it
-- the requests of each client have the order of the client, and it keeps the real-time order. If each
-- operation is taken once in this order, each client hears the answers to its operations, and the State in
-- the end is the State after them. The order has all operations that were answered and, of each client, at
-- most one more, which was invoked and not answered.
pub record IsLinearizable (config : Config) (s : State) (todo : ℕ → List Request) (sessions : Sessions) (heard : ℕ → List Report) (t : State) : Type 0 where
  pub order : List Operation
  -- the requests that are not taken
  pub left : ℕ → List Request
  pub each : (c : ℕ) → requests_of c order ++ left c ≡ todo c
  pub real_time : KeepsRealTime left (start todo) sessions order
  -- the answers to operations that are taken and were not answered
  pub unheard : ℕ → List Report
  pub answers : (c : ℕ) → heard c ++ unheard c ≡ answers_in config s c order
  pub ends : (c : ℕ) → IsLeftOver (clients_after (start todo) (all_client_tries sessions) c) (left c) (unheard c)
  pub last : t ≡ after_operations config s order

-- A complete history is linearizable: the order has each request of each client, and each client hears each
-- answer.
pub record IsLinearizableInFull (config : Config) (s : State) (todo : ℕ → List Request) (sessions : Sessions) (heard : ℕ
    → List Report) (t : State) : Type 0 where
  pub order : List Operation
  pub each : (c : ℕ) → requests_of c order ≡ todo c
  pub real_time : KeepsRealTime (λ c. []) (start todo) sessions order
  pub answers : (c : ℕ) → heard c ≡ answers_in config s c order
  pub last : t ≡ after_operations config s order
