-- A run of the volume machine keeps the invariant.
use Rattle.std.proofs.Common.{◌≡◌, ℕ, List, [], ◌∷◌, Option, Some, None, Result, Ok, Err, refl, sym, subst}
use Rattle.csi_types.specs.declared.method.Method.{Method}
use Rattle.csi_types.specs.declared.reason.Reason.{Reason}
use Rattle.csi_types.specs.declared.requests.Request.{Request}
use Rattle.csi_types.specs.Checks.{checked}
use Rattle.csi_types.specs.Methods.{method_at}
use Rattle.csi_codec.specs.Reading.{read_request}
use Rattle.csi_config.specs.declared.config.Config.{Config}
use Rattle.csi_keeper.specs.Invariant.{IsInvariant}
use Rattle.csi_keeper.specs.State.{State}
use Rattle.csi_machine.specs.Step.{step}
use Rattle.csi_server.specs.Machine.{Event, Mark, Unmarked, OutOfMemory, StoreRefused, StoreDown, marked, state_after}
use Rattle.csi_server.specs.Machine.{step as call_step}
use Rattle.csi_server.specs.Requests.{after_check, after_path, after_read}
use Rattle.csi_server.specs.Volumes.{volumes, IsPending}

module _ (config : Config) where
  -- requests that pass the checks of their arguments keep the invariant
  abbrev pub Keep : Type 0
  Keep = (s : State) (r : Request) → IsInvariant config s → checked r ≡ None → IsInvariant config (step config s r).1

  check_keeps : Keep → (s : State) (r : Request) → IsInvariant config s → (o : Option Reason) → checked r ≡ o → IsInvariant config (after_check (step config) s r o).1
  check_keeps keep s r inv None passed = keep s r inv passed
  check_keeps keep s r inv (Some why) passed = inv

  read_keeps : Keep → (s : State) → IsInvariant config s → (x : Result Request ℕ) → IsInvariant config (after_read (step config) s x).1
  read_keeps keep s inv (Ok r) = check_keeps keep s r inv (checked r) refl
  read_keeps keep s inv (Err at) = inv

  path_keeps : Keep → (s : State) → IsInvariant config s → (p : Option Method) (message : List ℕ) → IsInvariant config (after_path (step config) s p message).1
  path_keeps keep s inv None message = inv
  path_keeps keep s inv (Some m) message = read_keeps keep s inv (read_request m message)

  pub mark_keeps : Keep → (s : State) → IsInvariant config s → (p : Option Method) (message : List ℕ) (mark : Mark) → IsInvariant config (marked s (after_path (step config) s p message) mark).1
  mark_keeps keep s inv p message Unmarked = path_keeps keep s inv p message
  mark_keeps keep s inv p message OutOfMemory = inv
  mark_keeps keep s inv p message StoreRefused = inv
  mark_keeps keep s inv p message StoreDown = inv

  pub run_keeps : Keep → (s : State) (events : List Event) → IsInvariant config s → IsInvariant config (state_after (volumes config) s events)
  unfolding state_after
  run_keeps keep s [] inv = inv
  run_keeps keep s (e ∷ es) inv = run_keeps keep (call_step (volumes config) s e).1 es (mark_keeps keep s inv (method_at e.call.path) e.call.message e.mark)

  pub pending_keeps : Keep → (s : State) (events : List Event) (t : State) → IsInvariant config s → IsPending config s events t → IsInvariant config t
  pending_keeps keep s events t inv p = subst (IsInvariant config) (sym p.is) (keep (state_after (volumes config) s p.before) p.request (run_keeps keep s p.before inv) p.passed)
