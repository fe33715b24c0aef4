-- A keeper whose parts are a connection and the totals with it.
use Rattle.std.proofs.Common.{◌≡◌, ◌∙◌, refl, sym, ap, subst, arith, ℕ, zero, suc, ◌≤◌, ◌^◌, ◌==◌, nat_lt, List, [], ◌∷◌, map, filter, take, false, cond, Result, Ok, Err, IfOk, OnOk, OnErr}
use Rattle.std.specs.FinMap.{entries}
use Rattle.std.specs.List.{AllByRecursion}
use Rattle.std.proofs.lemmas.Bool.Decides.{nat_tests}
use Rattle.sqlite.specs.Held.{Held}
use Rattle.sqlite.specs.Store.{Ghosts}
use Rattle.csi_keeper.specs.Health as health
use Rattle.csi_keeper.specs.Health.{Finishes, Starts}
use Rattle.csi_keeper.specs.Keeper.{Changes, Reads, count_after}
use Rattle.csi_keeper.specs.State.{State, AttachmentKey, attached, page, published_of_page, published}
use Rattle.csi_keeper.specs.declared.change.Change.{Change}
use Rattle.csi_keeper.specs.declared.change.StoreFault.{StoreFault}
use Rattle.csi_keeper.specs.declared.change.StoreFault.TheVariants as store
use Rattle.csi_keeper.specs.declared.change.StoreFault.TheVariants.{Down}
use Rattle.csi_keeper.specs.declared.health.Health.{Health}
use Rattle.csi_keeper.specs.declared.totals.Totals.{Totals}
use Rattle.csi_keeper.specs.declared.volume.Attachment.{Attachment}
use Rattle.csi_keeper.specs.declared.volume.Volume.{Volume}
use Rattle.csi_tables.specs.Answers.{answered}
use Rattle.csi_tables.specs.Holding.{IsStorable, IsStored, IsPlaced, Store, StoreMakes, StoreFails, model_with}
use Rattle.csi_tables.specs.Refusing.{ConnReads, StoreRefuses}
use Rattle.csi_tables.specs.declared.fault.TablesFault.{TablesFault}
use Rattle.csi_tables.specs.declared.fault.TablesFault.TheVariants.{NoMemory, Refused}
use Rattle.csi_tables.proofs.KeepLemmas.{is_quiet, stays_quiet}
use Rattle.csi_tables.proofs.RefusalLemmas.{reported_refused}

answered_again : {X : Type 0} (answer : Result X TablesFault) → health.answered (answered answer) ≡ answered answer
answered_again (Ok x) = refl
answered_again (Err NoMemory) = refl
answered_again (Err Refused) = refl

-- the keeper's answer is the answer over the tables
pub is_answer : {X : Type 0} (answer : Result X TablesFault) (stored r : Result X StoreFault) → stored ≡ answered answer → r ≡ health.answered stored → r ≡ answered answer
is_answer answer stored r made is = is ∙ ap health.answered made ∙ answered_again answer

-- the report of an answer
pub reported_if : {X : Type 0} {P Q : X → Type 0} (answer : Result X TablesFault) (r : Result X StoreFault) → r ≡ answered answer → ((x : X) → P x → Q x) → IfOk answer P → IfOk r Q
reported_if {X} {P} {Q} answer r is f h = subst (λ (x : Result X StoreFault). IfOk x Q) (sym is) (go answer h)
  where
    go : (a : Result X TablesFault) → IfOk a P → IfOk (answered a) Q
    go (Ok x) h = f x h
    go (Err fault) h = tt

-- a read of the connection, between the beginning of the call and its end
pub keeps_read : {S X : Type 0} {g : Ghosts S} {a b : Held S} {before between behind : Health} {What : State → X → Type 0} {answer : Result X TablesFault} {stored r : Result X StoreFault}
    (totals : Totals) → Starts before between (Ok tt) → ConnReads g a b What answer → stored ≡ answered answer → Finishes between behind stored r → record {
      reads : Reads (model_with g (a, totals) before) (model_with g (b, totals) behind) r What;
      refused : StoreRefuses g (a, totals) (b, totals) store.Refused ⊥ r;
      limit : b.step_limit ≡ a.step_limit;
    }
keeps_read {g = g} {a = a} {b = b} {answer = answer} {stored = stored} {r = r} totals begun read made end = record {
  reads =
      let q = is_quiet g a b read.undone read.survives in
      record {
        value = reported_if answer r (is_answer answer stored r made end.answers) (λ x reports clean s held. reports clean s held.0) read.value;
        quiet = record { clean = q.clean; state = λ clean s held. (q.state clean s held.0, held.1, held.2); crash = q.crash; ties = q.ties; down = end.stays ∙ begun.stays };
        count = end.count ∙ ap (λ n. count_after n r) begun.count;
        down = (λ is. absurd (end.up is), λ down. absurd (cc (begun.down.1 down)));
      };
  refused = λ clean is s held known. read.refused clean (reported_refused answer r (is_answer answer stored r made end.answers) is) s held.0 known;
  limit = read.survives.limit;
}

-- a read that reads no row, because no row has such a number
pub keeps_none : {S X : Type 0} (g : Ghosts S) (a : Held S) {before between : Health} {What : State → X → Type 0} (totals : Totals) (x : X) → Starts before between (Ok tt) → ((s : State) → IsStorable s → What s x)
    → Reads (model_with g (a, totals) before) (model_with g (a, totals) between) (Ok x) What
keeps_none g a totals x begun so =
    let q = stays_quiet g a in
    record {
      value = λ clean s held. so s held.2;
      quiet = record { clean = q.clean; state = λ clean s held. held; crash = q.crash; ties = q.ties; down = begun.stays };
      count = begun.count;
      down = (λ is. absurd (cc is), λ down. absurd (cc (begun.down.1 down)));
    }

module _ {S : Type 0} (g : Ghosts S) (old new : Store S) (before behind : Health) where
  -- a change that was made, or that failed
  pub keeps_applied : (change : Change) (answer : Result (Unit {0}) TablesFault) (r : Result (Unit {0}) StoreFault) → r ≡ answered answer → OnOk answer (StoreMakes g old new change) → OnErr answer (StoreFails g old new change)
      → OnOk r (behind.is_down ≡ before.is_down) → Changes (model_with g old before) (model_with g new behind) change r
  keeps_applied change answer r is made failed down =
      subst (λ (x : Result (Unit {0}) StoreFault). Changes (model_with g old before) (model_with g new behind) change x) (sym is)
      (go answer made failed (subst (λ (x : Result (Unit {0}) StoreFault). OnOk x (behind.is_down ≡ before.is_down)) is down))
    where
      go : (a : Result (Unit {0}) TablesFault) → OnOk a (StoreMakes g old new change) → OnErr a (StoreFails g old new change) → OnOk (answered a) (behind.is_down ≡ before.is_down)
          → Changes (model_with g old before) (model_with g new behind) change (answered a)
      go (Ok x) made failed down = record { clean = made.clean; state = made.state; settled = made.settled; ties = made.ties; down = down }
      go (Err NoMemory) made failed down = record { clean = failed.clean; state = failed.state; crash = failed.crash; ties = failed.ties }
      go (Err Refused) made failed down = record { clean = failed.clean; state = failed.state; crash = failed.crash; ties = failed.ties }

module _ {S : Type 0} (g : Ghosts S) (t : Store S) (before behind : Health) where
  -- a change that is not begun
  pub stays_down : (change : Change) (r : Result (Unit {0}) StoreFault) → r ≡ Err Down → behind.is_down ≡ before.is_down → Changes (model_with g t before) (model_with g t behind) change r
  stays_down change r is down =
      subst (λ (x : Result (Unit {0}) StoreFault). Changes (model_with g t before) (model_with g t behind) change x) (sym is)
      (record { clean = omega arith; state = λ z s held. held; crash = λ z u it. it; ties = λ z tied. tied; down = down })

-- ---- a number that no row has

none_at : (n : ℕ) (es : List (AttachmentKey × Attachment)) → 2 ^ 63 ≤ n → AllByRecursion IsPlaced es → filter (λ e. e.0.0 == n) es ≡ []
none_at n [] far all = refl
none_at n (e ∷ es) far all = let other : (e.0.0 == n) ≡ false = grind (arith, nat_tests, all.0.small, far) in ap (λ b. cond b (e ∷ filter (λ e. e.0.0 == n) es) (filter (λ e. e.0.0 == n) es)) other ∙ none_at n es far all.1

pub no_attachments : (s : State) (n : ℕ) → 2 ^ 63 ≤ n → IsStorable s → [] ≡ attached s n
no_attachments s n far h = sym (ap (map (λ e. e.1)) (none_at n (entries s.attachments) far h.attachments))

none_after : (n : ℕ) (es : List (ℕ × Volume)) → 2 ^ 63 ≤ n → AllByRecursion IsStored es → filter (λ e. nat_lt n e.0) es ≡ []
none_after n [] far all = refl
none_after n (e ∷ es) far all = let other : nat_lt n e.0 ≡ false = grind (arith, nat_tests, all.0.small, far) in ap (λ b. cond b (e ∷ filter (λ e. nat_lt n e.0) es) (filter (λ e. nat_lt n e.0) es)) other ∙ none_after n es far all.1

take_none : (count : ℕ) (vs : List Volume) → vs ≡ [] → take count vs ≡ []
take_none zero vs e = refl
take_none (suc count) vs e = ap (take (suc count)) e

pub no_page : (s : State) (after count : ℕ) → 2 ^ 63 ≤ after → IsStorable s → [] ≡ page s after count
no_page s after count far h = sym (take_none count _ (ap (map (λ e. e.1)) (none_after after (entries s.volumes) far h.volumes)))

pub no_nodes : (s : State) (after count : ℕ) → 2 ^ 63 ≤ after → IsStorable s → [] ≡ published_of_page s after count
no_nodes s after count far h = ap (map (λ (v : Volume). published s v.number)) (no_page s after count far h)
