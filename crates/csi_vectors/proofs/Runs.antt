-- The output of a run over memory.
use Rattle.std.proofs.Common.{false, ◌≡◌, ◌≢◌, ◌⊎◌, ℕ, List, [], ◌∷◌, ◌++◌, Option, Some, None, inl, inr, ◌∙◌, refl, subst, arith}
use Rattle.std.specs.List.{AllByRecursion}
use Rattle.envelope.specs.Envelope.{CallBytes}
use Rattle.csi_config.specs.declared.config.Config.{Config}
use Rattle.csi_keeper.specs.Model.{Model}
use Rattle.csi_keeper.specs.State.{State, first_state}
use Rattle.csi_server.specs.declared.end.RunEnd.{RunEnd}
use Rattle.csi_server.specs.declared.end.RunEnd.TheVariants.{Done, Malformed, ReadFailed, TurnsSpent, WriteFailed, NoMemory}
use Rattle.csi_server.specs.Machine.{Event, Mark, Unmarked, OutOfMemory, StoreRefused, StoreDown, IsAllowed, RoseBy, Runs, store_mark, store_marks}
use Rattle.csi_server.specs.Serving.{Ended, Serves}
use Rattle.csi_server.specs.Volumes.{volumes}
use Rattle.csi_vectors.specs.Judging.{IsAnswered, IsWhole, IsWritten}

-- ---- a keeper that counts no refusal refuses nothing

none_refused : (old new n : ℕ) → old ≡ 0 → new ≡ 0 → RoseBy old new n → n ≡ 0
none_refused old new n o e (inl h) = h.0
none_refused old new n o e (inr h) = omega (arith, o, e, h.0, h.1)

for_memory : (config : Config) (call : CallBytes) (mark : Mark) → (mark ≢ Unmarked → (volumes config).may_fail call mark) → store_mark mark ≡ 0
    → (mark ≡ Unmarked) ⊎ ((mark ≡ OutOfMemory) × (volumes config).may_fail call OutOfMemory)
for_memory config call Unmarked h none = inl refl
for_memory config call OutOfMemory h none = inr (refl, h (λ e. absurd cc))
for_memory config call StoreRefused h none = absurd (omega (arith, none))
for_memory config call StoreDown h none = absurd (omega (arith, none))

all_answered : (config : Config) (events : List Event) → AllByRecursion (IsAllowed (volumes config)) events → store_marks events ≡ 0 → AllByRecursion (IsAnswered config) events
unfolding store_marks
all_answered config [] h none = tt
all_answered config (e ∷ es) h none = (for_memory config e.call e.mark h.0 (omega (arith, none)), all_answered config es h.1 (omega (arith, none)))

run_answered : (config : Config) (old new : Model State) (events : List Event) → old.refusals ≡ 0 → new.refusals ≡ 0 → Runs (volumes config) old new (first_state 1) events → AllByRecursion (IsAnswered config) events
run_answered config old new events o n run = all_answered config events run.allowed (none_refused old.refusals new.refusals (store_marks events) o n run.counted)

-- ---- the output

ended : (config : Config) (old new : Model State) (end : RunEnd) (read ys w : List ℕ) → old.refusals ≡ 0 → new.refusals ≡ 0 → IsWhole end → Ended (volumes config) old new (first_state 1) read (ys ≡ []) (Some []) (Some w) end → IsWritten config false (read ++ ys) w
ended config old new Done read ys w o n is h = record {
  events = h.0.events;
  answered = run_answered config old new h.0.events o n h.0.run;
  formed = h.0.run.formed;
  read = read;
  left = ys;
  whole = refl;
  last = [];
  ended = inl (h.1, h.0.ended, refl);
  all = h.0.written;
}
ended config old new (Malformed f) read ys w o n is h = record {
  events = h.0.events;
  answered = run_answered config old new h.0.events o n h.0.run;
  formed = h.0.run.formed;
  read = read;
  left = ys;
  whole = refl;
  last = _;
  ended = inr (f, h.0.ended, h.1, refl);
  all = h.0.written;
}
ended config old new ReadFailed read ys w o n is h = absurd is
ended config old new TurnsSpent read ys w o n is h = absurd is
ended config old new WriteFailed read ys w o n is h = absurd is
ended config old new NoMemory read ys w o n is h = absurd is

read_as : (config : Config) (read ys input w : List ℕ) → input ≡ read ++ ys → IsWritten config false (read ++ ys) w → IsWritten config false input w
read_as config read ys input w e h = record { events = h.events; answered = h.answered; formed = h.formed; read = h.read; left = h.left; whole = e ∙ h.whole; last = h.last; ended = h.ended; all = h.all }

run_left : (config : Config) (old new : Model State) (end : RunEnd) (input w : List ℕ) (left : Option (List ℕ)) → old.refusals ≡ 0 → new.refusals ≡ 0 → IsWhole end → Serves (volumes config) old new (Some input) left (Some []) (Some w) end → new.doubt ≡ 0 → old.holds (first_state 1) → IsWritten config false input w
run_left config old new end input w None o n is h clean holds = absurd h.1
run_left config old new end input w (Some ys) o n is h clean holds = read_as config h.0 ys input w h.1 (ended config old new end h.0 ys w o n is (h.2 clean (first_state 1) holds))

pub run_written : (config : Config) (old new : Model State) (end : RunEnd) (input held w : List ℕ) (left : Option (List ℕ)) → IsWhole end → held ≡ [] → Serves (volumes config) old new (Some input) left (Some held) (Some w) end
    → old.refusals ≡ 0 → new.refusals ≡ 0 → new.doubt ≡ 0 → old.holds (first_state 1) → IsWritten config false input w
run_written config old new end input held w left is e h o n clean holds =
    run_left config old new end input w left o n is (subst (λ (x : List ℕ). Serves (volumes config) old new (Some input) left (Some x) (Some w) end) e h) clean holds
