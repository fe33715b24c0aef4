-- Requests that are tried again until they are answered, over stops between the tries (CSI specification,
-- 'Timeouts').
use Rattle.std.specs.Prelude.{◌≡◌, ◌≢◌, ◌⊎◌, true, List, [], ◌∷◌, ◌++◌}
use Rattle.std.specs.List.{AllByRecursion, flat_map}
use Rattle.csi_types.specs.declared.requests.Request.{Request}
use Rattle.csi_config.specs.declared.config.Config.{Config}
use Rattle.csi_keeper.specs.State.{State}
use Rattle.csi_machine.specs.Step.{is_read, step}
use Rattle.csi_machine.specs.Verdicts.{Report}

-- how a try ends: marked, that is refused inside for lack of memory or by the store; refused because the
-- store is down, which does nothing; or done, and the client hears the answer or does not
pub data Ending : Type 0 where
  Marked : Ending
  Down : Ending
  Unanswered : Ending
  Answered : Ending

-- a try of a request, and how it ends
pub record Try : Type 0 where
  pub request : Request
  pub end : Ending

-- ---- the tries of a session

abbrev pub moved_by : Config → State → Request → Ending → State
moved_by config s r Marked = s
moved_by config s r Down = s
moved_by config s r Unanswered = (step config s r).1
moved_by config s r Answered = (step config s r).1

-- the State after a try: a refused try keeps it
abbrev pub after_try : Config → State → Try → State
after_try config s t = moved_by config s t.request t.end

-- the State after tries
abbrev pub state_after : Config → State → List Try → State
state_after config s [] = s
state_after config s (t ∷ ts) = state_after config (after_try config s t) ts

abbrev pub reported_by : Config → State → Request → Ending → List Report
reported_by config s r Marked = []
reported_by config s r Down = []
reported_by config s r Unanswered = []
reported_by config s r Answered = (step config s r).0 ∷ []

-- the answers that the client hears, in order
abbrev pub reported_of : Config → State → List Try → List Report
reported_of config s [] = []
reported_of config s (t ∷ ts) = reported_by config s t.request t.end ++ reported_of config (after_try config s t) ts

-- A stop may leave the State t after a session: a try was marked, t is the State that this try would have
-- made, and no later try changed the State.
pub record IsDue (config : Config) (s : State) (tries : List Try) (t : State) : Type 0 where
  pub before : List Try
  pub refused : Try
  pub after : List Try
  pub whole : tries ≡ before ++ refused ∷ after
  pub is_marked : refused.end ≡ Marked
  pub still : AllByRecursion (λ u. after_try config (state_after config s before) u ≡ state_after config s before) after
  pub is : t ≡ (step config (state_after config s before) refused.request).1

-- a session leaves the State after its tries, or the State that a marked try would have made
abbrev pub Leaves : Config → State → List Try → State → Type 0
Leaves config s tries t = (t ≡ state_after config s tries) ⊎ IsDue config s tries t

-- A life: sessions, each begun from the State that the session before it left. `reported` are the answers
-- that the client heard in all sessions, and `t` is the State that the last session left.
abbrev pub IsLife : Config → State → List (List Try) → List Report → State → Type 0
IsLife config s [] reported t = (reported ≡ []) × (t ≡ s)
IsLife config s (tries ∷ sessions) reported t =
    (u : State) × (rest : List Report) × Leaves config s tries u × (reported ≡ reported_of config s tries ++ rest) × IsLife config u sessions rest t

-- ---- a client, and others that change nothing

-- the tries of all sessions, in order
abbrev pub all_tries : List (List Try) → List Try
all_tries sessions = flat_map (λ tries. tries) sessions

-- the request of the try is the first of these requests
abbrev pub IsOfFirst : List Request → Try → Type 0
IsOfFirst [] t = ⊥
IsOfFirst (r ∷ rs) t = t.request ≡ r

abbrev pub without_first : List Request → List Request
without_first [] = []
without_first (r ∷ rs) = rs

-- the requests that are still to be answered
abbrev pub still_open : List Request → Ending → List Request
still_open rs Marked = rs
still_open rs Down = rs
still_open rs Unanswered = rs
still_open rs Answered = without_first rs

-- the try is another client's try of a request that changes nothing: this client hears no answer
abbrev pub IsOfAnother : Try → Type 0
IsOfAnother t = (is_read t.request ≡ true) × (t.end ≢ Answered)

-- The client tries each request in turn, again and again until it is answered. Between its tries are tries of
-- other clients.
abbrev pub AreTriesOf : List Request → List Try → Type 0
AreTriesOf rs [] = rs ≡ []
AreTriesOf rs (t ∷ ts) = (IsOfFirst rs t × AreTriesOf (still_open rs t.end) ts) ⊎ (IsOfAnother t × AreTriesOf rs ts)

-- ---- the requests taken once each

-- the answer to each request
abbrev pub reported_once : Config → State → List Request → List Report
reported_once config s [] = []
reported_once config s (r ∷ rs) = (step config s r).0 ∷ reported_once config (step config s r).1 rs

-- the State after all requests
abbrev pub after_once : Config → State → List Request → State
after_once config s [] = s
after_once config s (r ∷ rs) = after_once config (step config s r).1 rs

-- ---- a life of one request

-- two sessions: a request is tried once, and is then tried again and answered
abbrev pub twice : Request → Ending → List (List Try)
twice r end = (record { request = r; end = end } ∷ []) ∷ (record { request = r; end = Answered } ∷ []) ∷ []

-- These two sessions are tries of the request, and a life from the State: the first session leaves the State
-- after the request, and the second session answers the request in this State.
abbrev pub IsLifeOfTwo : Config → State → Request → Ending → Type 0
IsLifeOfTwo config s r end =
    AreTriesOf (r ∷ []) (all_tries (twice r end))
    × IsLife config s (twice r end) ((step config (step config s r).1 r).0 ∷ []) (step config (step config s r).1 r).1

-- as `twice`, but another client makes a request before the request is tried again
abbrev pub between : Request → Request → List (List Try)
between r q =
    (record { request = r; end = Unanswered } ∷ record { request = q; end = Unanswered } ∷ [])
    ∷ (record { request = r; end = Answered } ∷ []) ∷ []

abbrev pub IsLifeWithAnother : Config → State → Request → Request → Type 0
IsLifeWithAnother config s r q =
    AreTriesOf (r ∷ []) (all_tries (between r q))
    × IsLife config s (between r q) ((step config (step config (step config s r).1 q).1 r).0 ∷ [])
    (step config (step config (step config s r).1 q).1 r).1
