-- Calls of several clients as tries of their requests: what each client asks for, call by call, and what it
-- hears.
use Rattle.std.specs.Prelude.{◌≡◌, ℕ, ◌==◌, Bool, List, [], ◌∷◌, ◌++◌, map, Option, Some, None, if◌then◌else◌}
use Rattle.std.specs.List.{flat_map}
use Rattle.envelope.specs.Envelope.{ReplyBytes}
use Rattle.csi_config.specs.declared.config.Config.{Config}
use Rattle.csi_keeper.specs.State.{State}
use Rattle.csi_machine.specs.Retry.{Try}
use Rattle.csi_machine.specs.Verdicts.{Report}
use Rattle.csi_server.specs.Machine.{step as call_step}
use Rattle.csi_server.specs.Requests.{reported}
use Rattle.csi_server.specs.Tries.{Exchange, asked, events_of, heard_by, tries_in, IsLeft}
use Rattle.csi_server.specs.Volumes.{volumes}
use Rattle.csi_clients.specs.Clients.{Clients, ClientTry, clients_after, AreSeparate}
use Rattle.csi_clients.specs.Histories.{Sessions}

-- A call of a client, and whether it is the client's last call. Or, without a client, a call that changes
-- nothing.
pub record ClientExchange : Type 0 where
  pub client : Option ℕ
  pub exchange : Exchange
  pub is_last : Bool

abbrev pub exchanges : List ClientExchange → List Exchange
exchanges xs = map (λ x. x.exchange) xs

abbrev pub try_of : Option ℕ → Bool → Try → ClientTry
try_of o is_last t = record { client = o; made = t; is_last = is_last }

-- A call is one try of the request that it asks for, and no try if it asks for none.
abbrev pub client_tries_of : List ClientExchange → List ClientTry
client_tries_of xs = flat_map (λ x. map (try_of x.client x.is_last) (tries_in x.exchange)) xs

abbrev pub heard_from : ℕ → Option ℕ → List ReplyBytes → List ReplyBytes
heard_from c None replies = []
heard_from c (Some d) replies = if c == d then replies else []

-- the replies to its requests that a client hears in a session, in order
abbrev pub heard_in_calls : Config → State → ℕ → List ClientExchange → List ReplyBytes
heard_in_calls config s c [] = []
heard_in_calls config s c (x ∷ xs) =
    heard_from c x.client
    (heard_by (asked x.exchange.event.call) x.exchange.event.mark x.exchange.is_heard (call_step (volumes config) s x.exchange.event).0)
    ++ heard_in_calls config (call_step (volumes config) s x.exchange.event).1 c xs

-- A history in calls: sessions of separate tries, each begun from a State that a stop of the session before
-- it left.
abbrev pub IsHistoryOfCalls : Config → State → Clients → List (List ClientExchange) → (ℕ → List ReplyBytes) → State → Type 0
IsHistoryOfCalls config s cs [] heard t = ((c : ℕ) → heard c ≡ []) × (t ≡ s)
IsHistoryOfCalls config s cs (session ∷ sessions) heard t =
    (u : State)
    × (later : ℕ → List ReplyBytes)
    × AreSeparate config s cs (client_tries_of session)
    × IsLeft config s (events_of (exchanges session)) u
    × ((c : ℕ) → heard c ≡ heard_in_calls config s c session ++ later c)
    × IsHistoryOfCalls config u (clients_after cs (client_tries_of session)) sessions later t

-- the tries of each session of calls
abbrev pub tries_of_sessions : List (List ClientExchange) → Sessions
tries_of_sessions sessions = map client_tries_of sessions

-- each client hears the replies that say these answers
abbrev pub AreReplies : (ℕ → List ReplyBytes) → (ℕ → List Report) → Type 0
AreReplies heard answers = (c : ℕ) → heard c ≡ map reported (answers c)
