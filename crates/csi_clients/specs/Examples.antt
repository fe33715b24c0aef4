-- Two worked examples of histories: two clients, with a stop between the tries of one of them, and a client
-- that gives up.
use Rattle.std.specs.Prelude.{ℕ, ◌==◌, true, false, List, [], ◌∷◌, Some, if◌then◌else◌}
use Rattle.csi_types.specs.declared.requests.Request.{Request}
use Rattle.csi_config.specs.declared.config.Config.{Config}
use Rattle.csi_keeper.specs.State.{State}
use Rattle.csi_machine.specs.Retry.{Ending, Marked, Unanswered, Answered}
use Rattle.csi_machine.specs.Step.{step}
use Rattle.csi_machine.specs.Verdicts.{Report}
use Rattle.csi_clients.specs.Clients.{ClientTry, start}
use Rattle.csi_clients.specs.Histories.{Sessions, IsHistory, AreAnswered}

-- the first client asks for one request, the second for another one, and no other client for any
abbrev pub two : Request → Request → ℕ → List Request
two r q c = if c == 0 then r ∷ [] else (if c == 1 then q ∷ [] else [])

abbrev pub try_by : ℕ → Request → Ending → ClientTry
try_by c r end = record { client = Some c; made = record { request = r; end = end }; is_last = false }

abbrev pub last_try_by : ℕ → Request → Ending → ClientTry
last_try_by c r end = record { client = Some c; made = record { request = r; end = end }; is_last = true }

-- ---- two clients, and a stop

-- The first client's answer is lost, and the second client is answered. After a stop the first client tries
-- again, and is answered.
abbrev pub two_sessions : Request → Request → Sessions
two_sessions r q = (try_by 0 r Unanswered ∷ try_by 1 q Answered ∷ []) ∷ (try_by 0 r Answered ∷ []) ∷ []

-- These sessions are a complete history from the State. It says what each client hears, and the State in the
-- end.
abbrev pub AreTwo : Config → State → Request → Request → Type 0
AreTwo config s r q =
    (heard : ℕ → List Report)
    × (t : State)
    × IsHistory config s (start (two r q)) (two_sessions r q) heard t
    × AreAnswered (start (two r q)) (two_sessions r q)

-- ---- a client that gives up

-- the second client hears this answer, and no other client hears any
abbrev pub second_hears : Report → ℕ → List Report
second_hears reported c = if c == 1 then reported ∷ [] else []

-- The first client's answer is lost, and the client gives up. Then the second client is answered.
abbrev pub given_up : Request → Request → Sessions
given_up r q = (last_try_by 0 r Unanswered ∷ try_by 1 q Answered ∷ []) ∷ []

-- The first client's try is refused inside, the client gives up, and a stop ends the session. Then the second
-- client is answered.
abbrev pub given_up_refused : Request → Request → Sessions
given_up_refused r q = (last_try_by 0 r Marked ∷ []) ∷ (try_by 1 q Answered ∷ []) ∷ []

-- These sessions are a history. The second client hears the answer to its request in the State `u`, and the
-- State in the end is the State after this request.
abbrev pub IsGivenUp : Config → State → State → Request → Request → Sessions → Type 0
IsGivenUp config s u r q sessions =
    IsHistory config s (start (two r q)) sessions (second_hears (step config u q).0) (step config u q).1
