-- Histories of several clients: the tries of session after session, with stops between the sessions, and what
-- each client hears.
use Rattle.std.specs.Prelude.{◌≡◌, ℕ, ◌==◌, Bool, List, [], ◌∷◌, ◌++◌, Option, Some, None, if◌then◌else◌}
use Rattle.std.specs.List.{flat_map}
use Rattle.csi_config.specs.declared.config.Config.{Config}
use Rattle.csi_keeper.specs.State.{State}
use Rattle.csi_machine.specs.Retry.{Try, after_try, reported_by, Leaves}
use Rattle.csi_machine.specs.Verdicts.{Report}
use Rattle.csi_clients.specs.Clients.{Clients, ClientTry, tries_made, clients_after, AreSeparate}

-- the tries of each session
abbrev pub Sessions : Type 0
Sessions = List (List ClientTry)

abbrev pub heard_if : Bool → List Report → List Report
heard_if b reported = if b then reported else []

abbrev pub heard_by : Config → State → ℕ → Option ℕ → Try → List Report
heard_by config s c None t = []
heard_by config s c (Some d) t = heard_if (c == d) (reported_by config s t.request t.end)

-- the answers that a client hears in a session, in order
abbrev pub heard_of : Config → State → ℕ → List ClientTry → List Report
heard_of config s c [] = []
heard_of config s c (t ∷ ts) = heard_by config s c t.client t.made ++ heard_of config (after_try config s t.made) c ts

-- A history of several clients: sessions of separate tries, each begun from a State that the session before
-- it left; what each client heard in all of them; and the State that the last one left.
abbrev pub IsHistory : Config → State → Clients → Sessions → (ℕ → List Report) → State → Type 0
IsHistory config s cs [] heard t = ((c : ℕ) → heard c ≡ []) × (t ≡ s)
IsHistory config s cs (tries ∷ sessions) heard t =
    (u : State)
    × (later : ℕ → List Report)
    × AreSeparate config s cs tries
    × Leaves config s (tries_made tries) u
    × ((c : ℕ) → heard c ≡ heard_of config s c tries ++ later c)
    × IsHistory config u (clients_after cs tries) sessions later t

-- the tries of all sessions, in order
abbrev pub all_client_tries : Sessions → List ClientTry
all_client_tries sessions = flat_map (λ ts. ts) sessions

-- The history is complete: each client is answered all that it asks for.
abbrev pub AreAnswered : Clients → Sessions → Type 0
AreAnswered cs sessions = (c : ℕ) → (clients_after cs (all_client_tries sessions) c).rest ≡ []
