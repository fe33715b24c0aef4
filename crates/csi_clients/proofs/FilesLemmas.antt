-- Runs over files that several clients call are a history of their calls.
use Rattle.std.proofs.Common.{◌≡◌, ℕ, List, [], ◌∷◌, ◌++◌, map, None, refl, subst}
use Rattle.std.proofs.Math.Logic.{∥∥₁_elim, ∥∥₁_map, ∥∥₁_prop}
use Rattle.std.specs.List.{AllByRecursion}
use Rattle.sqlite_wal.specs.Recovery.{Image}
use Rattle.envelope.specs.Envelope.{ReplyBytes}
use Rattle.csi_types.specs.Checks.{checked}
use Rattle.csi_types.specs.declared.requests.Request.{Request}
use Rattle.csi_config.specs.declared.config.Config.{Config}
use Rattle.csi_keeper.specs.Invariant.{IsInvariant}
use Rattle.csi_keeper.specs.State.{State}
use Rattle.csi_machine.specs.Verdicts.{Report}
use Rattle.csi_files.specs.Files.{HasState}
use Rattle.csi_files.specs.Lives.{GoesOn, IsLifeOfFiles}
use Rattle.csi_files.specs.Starting.{MayStart}
use Rattle.csi_clients.specs.Clients.{Clients, clients_after, start}
use Rattle.csi_clients.specs.Linearizability.{IsLinearizable}
use Rattle.csi_clients.specs.Calls.{ClientExchange, exchanges, client_tries_of, tries_of_sessions, heard_in_calls, IsHistoryOfCalls, AreReplies}
use Rattle.csi_clients.specs.Files.{AreSeparateOverStops, LivesAreLinearizable}

record Lived (config : Config) (was : Image) (s : State) (cs : Clients) (sessions : List (List ClientExchange)) (last : Image) : Type 0 where
  pub heard : ℕ → List ReplyBytes
  pub left : State
  pub history : IsHistoryOfCalls config s cs sessions heard left
  pub goes : GoesOn was last s left

same_contents : (was last : Image) (s : State) → was ≡ last → MayStart was s → GoesOn was last s s
same_contents was last s same may = record { may = subst (λ image. MayStart image s) same may; has = subst (λ image. HasState image s) same }

lived : (config : Config) (sessions : List (List ClientExchange)) (was last : Image) (s : State) (cs : Clients) → MayStart was s → IsInvariant config s → AreSeparateOverStops config s cs sessions
    → IsLifeOfFiles config was (map exchanges sessions) last → ∥ Lived config was s cs sessions last ∥₁
lived config [] was last s cs may invariant all_separate same = ∣ record { heard = λ c. []; left = s; history = (λ c. refl, refl); goes = same_contents was last s same may } ∣₁
lived config (session ∷ sessions) was last s cs may invariant all_separate (next, run, more) =
    ∥∥₁_elim (run s may invariant) ∥∥₁_prop (λ found.
    ∥∥₁_map (lived config sessions next last found.0 (clients_after cs (client_tries_of session)) found.1.may found.2.invariant (all_separate.1 found.0 found.2.is) more) (λ rest. record {
      heard = λ c. heard_in_calls config s c session ++ rest.heard c;
      left = rest.left;
      history = (found.0, rest.heard, all_separate.0, found.2.is, λ c. refl, rest.history);
      goes = record { may = rest.goes.may; has = λ has. rest.goes.has (found.1.has has) };
    }))

pub lives_are_linearizable : (config : Config)
    → ((s t : State) (todo : ℕ → List Request) (sessions : List (List ClientExchange)) (heard : ℕ → List ReplyBytes) → IsInvariant config s → ((c : ℕ) → AllByRecursion (λ r. checked r ≡ None) (todo c))
    → IsHistoryOfCalls config s (start todo) sessions heard t → (hears : ℕ → List Report) × AreReplies heard hears × IsLinearizable config s todo (tries_of_sessions sessions) hears t)
    → LivesAreLinearizable config
lives_are_linearizable config law was last s todo sessions may invariant passed all_separate life =
    ∥∥₁_map (lived config sessions was last s (start todo) may invariant all_separate life) (λ it.
    let once = law s it.left todo sessions it.heard invariant passed it.history in
    record { left = it.left; heard = it.heard; answers = once.0; goes = it.goes; history = it.history; replies = once.1; linearizable = once.2 })
