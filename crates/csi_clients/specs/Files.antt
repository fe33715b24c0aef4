-- Runs over two files, called by several clients. The runs are in order, with a stop after each.
use Rattle.std.specs.Prelude.{◌≡◌, ℕ, List, [], ◌∷◌, map, None}
use Rattle.std.specs.List.{AllByRecursion}
use Rattle.sqlite_wal.specs.Recovery.{Image}
use Rattle.envelope.specs.Envelope.{ReplyBytes}
use Rattle.csi_types.specs.Checks.{checked}
use Rattle.csi_types.specs.declared.requests.Request.{Request}
use Rattle.csi_config.specs.declared.config.Config.{Config}
use Rattle.csi_keeper.specs.Invariant.{IsInvariant}
use Rattle.csi_keeper.specs.State.{State}
use Rattle.csi_machine.specs.Verdicts.{Report}
use Rattle.csi_server.specs.Tries.{events_of, IsLeft}
use Rattle.csi_files.specs.Lives.{GoesOn, IsLifeOfFiles}
use Rattle.csi_files.specs.Starting.{MayStart}
use Rattle.csi_clients.specs.Clients.{Clients, clients_after, start, AreSeparate}
use Rattle.csi_clients.specs.Linearizability.{IsLinearizable}
use Rattle.csi_clients.specs.Calls.{ClientExchange, exchanges, client_tries_of, tries_of_sessions, IsHistoryOfCalls, AreReplies}

-- The tries of these sessions are separate, whichever State each stop leaves.
abbrev pub AreSeparateOverStops : Config → State → Clients → List (List ClientExchange) → Type 0
AreSeparateOverStops config s cs [] = Unit {0}
AreSeparateOverStops config s cs (session ∷ sessions) =
    AreSeparate config s cs (client_tries_of session)
    × ((u : State) → IsLeft config s (events_of (exchanges session)) u → AreSeparateOverStops config u (clients_after cs (client_tries_of session)) sessions)

-- The runs are a linearizable history: the State that a run over the last files starts from, and the replies
-- that each client heard.
pub record IsLinearizableLife (config : Config) (was last : Image) (s : State) (todo : ℕ → List Request) (sessions : List (List ClientExchange)) : Type 0 where
  pub left : State
  pub heard : ℕ → List ReplyBytes
  pub answers : ℕ → List Report
  pub goes : GoesOn was last s left
  pub history : IsHistoryOfCalls config s (start todo) sessions heard left
  pub replies : AreReplies heard answers
  pub linearizable : IsLinearizable config s todo (tries_of_sessions sessions) answers left

-- Runs over any two files are linearizable, if their tries are separate and the requests pass the checks of
-- their arguments.
abbrev pub LivesAreLinearizable : Config → Type 0
LivesAreLinearizable config =
    (was last : Image) (s : State) (todo : ℕ → List Request) (sessions : List (List ClientExchange)) → MayStart was s → IsInvariant config s
    → ((c : ℕ) → AllByRecursion (λ r. checked r ≡ None) (todo c))
    → AreSeparateOverStops config s (start todo) sessions
    → IsLifeOfFiles config was (map exchanges sessions) last
    → ∥ IsLinearizableLife config was last s todo sessions ∥₁
