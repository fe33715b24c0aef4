-- A run of the volume machine gives no number twice.
use Rattle.std.proofs.Common.{◌≡◌, ℕ, List, [], ◌∷◌, Option, Some, None, Result, Ok, Err, refl, sym, subst}
use Rattle.csi_types.specs.declared.method.Method.{Method}
use Rattle.csi_types.specs.declared.reason.Reason.{Reason}
use Rattle.csi_types.specs.declared.requests.Request.{Request}
use Rattle.csi_types.specs.Checks.{checked}
use Rattle.csi_types.specs.Methods.{method_at}
use Rattle.csi_codec.specs.Reading.{read_request}
use Rattle.csi_config.specs.declared.config.Config.{Config}
use Rattle.csi_keeper.specs.Invariant.{IsInvariant}
use Rattle.csi_keeper.specs.State.{State}
use Rattle.csi_machine.specs.Numbers.{NumbersRise}
use Rattle.csi_machine.specs.Step.{step}
use Rattle.csi_machine.specs.facts.Numbers.{numbers_go_on, numbers_stay}
use Rattle.csi_server.specs.Machine.{Event, Mark, Unmarked, OutOfMemory, StoreRefused, StoreDown, marked, state_after}
use Rattle.csi_server.specs.Machine.{step as call_step}
use Rattle.csi_server.specs.Requests.{after_check, after_path, after_read}
use Rattle.csi_server.specs.Volumes.{volumes, IsPending}
use Rattle.csi_server.proofs.KeptLemmas.{Keep, mark_keeps, run_keeps}

module _ (config : Config) where
  -- requests that pass the checks of their arguments give no number twice
  abbrev Rise : Type 0
  Rise = (s : State) (r : Request) → IsInvariant config s → checked r ≡ None → NumbersRise s (step config s r).1

  check_rises : Rise → (s : State) (r : Request) → IsInvariant config s → (o : Option Reason) → checked r ≡ o → NumbersRise s (after_check (step config) s r o).1
  check_rises rise s r inv None passed = rise s r inv passed
  check_rises rise s r inv (Some why) passed = numbers_stay s

  read_rises : Rise → (s : State) → IsInvariant config s → (x : Result Request ℕ) → NumbersRise s (after_read (step config) s x).1
  read_rises rise s inv (Ok r) = check_rises rise s r inv (checked r) refl
  read_rises rise s inv (Err at) = numbers_stay s

  path_rises : Rise → (s : State) → IsInvariant config s → (p : Option Method) (message : List ℕ) → NumbersRise s (after_path (step config) s p message).1
  path_rises rise s inv None message = numbers_stay s
  path_rises rise s inv (Some m) message = read_rises rise s inv (read_request m message)

  mark_rises : Rise → (s : State) → IsInvariant config s → (p : Option Method) (message : List ℕ) (mark : Mark) → NumbersRise s (marked s (after_path (step config) s p message) mark).1
  mark_rises rise s inv p message Unmarked = path_rises rise s inv p message
  mark_rises rise s inv p message OutOfMemory = numbers_stay s
  mark_rises rise s inv p message StoreRefused = numbers_stay s
  mark_rises rise s inv p message StoreDown = numbers_stay s

  pub run_rises : Keep config → Rise → (s : State) (events : List Event) → IsInvariant config s → NumbersRise s (state_after (volumes config) s events)
  unfolding state_after
  run_rises keep rise s [] inv = numbers_stay s
  run_rises keep rise s (e ∷ es) inv =
      let mid = (call_step (volumes config) s e).1 in
      numbers_go_on config s mid (state_after (volumes config) mid es) inv (mark_rises rise s inv (method_at e.call.path) e.call.message e.mark)
      (run_rises keep rise mid es (mark_keeps config keep s inv (method_at e.call.path) e.call.message e.mark))

  pub pending_rises : Keep config → Rise → (s : State) (events : List Event) (t : State) → IsInvariant config s → IsPending config s events t → NumbersRise s t
  pending_rises keep rise s events t inv p =
      let mid = state_after (volumes config) s p.before in
      subst (NumbersRise s) (sym p.is) (numbers_go_on config s mid (step config mid p.request).1 inv (run_rises keep rise s p.before inv) (rise mid p.request (run_keeps config keep s p.before inv) p.passed))
