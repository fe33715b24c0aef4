-- The States that a stop may leave after a run of the volume machine.
use Rattle.std.proofs.Common.{◌≡◌, ◌⊎◌, List, [], ◌∷◌, ◌++◌, Option, Some, None, Result, Ok, ℕ, inl, inr, refl, sym, ap, subst, ◌∙◌}
use Rattle.std.specs.List.{AllByRecursion}
use Rattle.csi_types.specs.declared.method.Method.{Method}
use Rattle.csi_types.specs.declared.reason.Reason.{Reason}
use Rattle.csi_types.specs.declared.requests.Request.{Request}
use Rattle.csi_types.specs.Checks.{checked}
use Rattle.csi_config.specs.declared.config.Config.{Config}
use Rattle.csi_keeper.specs.State.{State}
use Rattle.csi_machine.specs.Step.{step}
use Rattle.csi_codec.specs.Reading.{read_request}
use Rattle.csi_server.specs.Machine.{Event, IsAllowed, IsDue, state_after}
use Rattle.csi_types.specs.Methods.{method_at}
use Rattle.csi_server.specs.Requests.{IsRequest, after_path, after_read, after_check}
use Rattle.csi_server.specs.Volumes.{asks_keeper, volumes, IsPending}
use Rattle.csi_server.proofs.Runs.{due_state, left_marks}

middle : (P : Event → Type 0) (before : List Event) (e : Event) (after : List Event) → AllByRecursion P (before ++ e ∷ after) → P e
middle P [] e after a = a.0
middle P (x ∷ xs) e after a = middle P xs e after a.1

pub pending : (config : Config) (s : State) (events : List Event) → AllByRecursion (IsAllowed (volumes config)) events → (t : State) → IsDue (volumes config) s events t → (t ≡ state_after (volumes config) s events) ⊎ IsPending config s events t
pending config s events allowed t d = by (method_at d.refused.call.path) refl (may (left_marks d.refused.mark d.is_left))
  where
    may : IsAllowed (volumes config) d.refused
    may = middle (IsAllowed (volumes config)) d.before d.refused d.after (subst (λ (es : List Event). AllByRecursion (IsAllowed (volumes config)) es) d.whole allowed)

    last : (m : Method) (r : Request) → method_at d.refused.call.path ≡ Some m → read_request m d.refused.call.message ≡ Ok r → (o : Option Reason) → checked r ≡ o → (t ≡ state_after (volumes config) s events) ⊎ IsPending config s events t
    last m r path read (Some why) passed =
        inl (d.is
        ∙ (ap (λ (p : Option Method). (after_path (step config) (state_after (volumes config) s d.before) p d.refused.call.message).1) path
        ∙ (ap (λ (x : Result Request ℕ). (after_read (step config) (state_after (volumes config) s d.before) x).1) read
        ∙ (ap (λ (p : Option Reason). (after_check (step config) (state_after (volumes config) s d.before) r p).1) passed
        ∙ sym (due_state (volumes config) s events t d)))))
    last m r path read None passed = inr (record {
      before = d.before;
      refused = d.refused;
      after = d.after;
      whole = d.whole;
      is_left = d.is_left;
      still = d.still;
      method = m;
      request = r;
      called = path;
      read = read;
      passed = passed;
      is = d.is
          ∙ (ap (λ (p : Option Method). (after_path (step config) (state_after (volumes config) s d.before) p d.refused.call.message).1) path
          ∙ (ap (λ (x : Result Request ℕ). (after_read (step config) (state_after (volumes config) s d.before) x).1) read
          ∙ ap (λ (p : Option Reason). (after_check (step config) (state_after (volumes config) s d.before) r p).1) passed));
    })

    by : (p : Option Method) → method_at d.refused.call.path ≡ p → IsRequest asks_keeper (method_at d.refused.call.path) d.refused.call.message d.refused.mark → (t ≡ state_after (volumes config) s events) ⊎ IsPending config s events t
    by None path q = absurd (subst (λ (o : Option Method). IsRequest asks_keeper o d.refused.call.message d.refused.mark) path q)
    by (Some m) path q = let r = subst (λ (o : Option Method). IsRequest asks_keeper o d.refused.call.message d.refused.mark) path q in last m r.0 path r.1 (checked r.0) refl

pub either : (config : Config) (s : State) (events : List Event) → AllByRecursion (IsAllowed (volumes config)) events → (t : State) → (t ≡ state_after (volumes config) s events) ⊎ IsDue (volumes config) s events t → (t ≡ state_after (volumes config) s events) ⊎ IsPending config s events t
either config s events allowed t (inl is) = inl is
either config s events allowed t (inr d) = pending config s events allowed t d
