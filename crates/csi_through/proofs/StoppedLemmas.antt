-- A change that the change store did not make leaves the States of the keeper.
use Rattle.std.proofs.Common.{◌≡◌, ◌∙◌, inl, sym, subst, arith, Result, Ok, Err}
use Rattle.csi_keeper.specs.Health.{answered}
use Rattle.csi_keeper.specs.Keeper.{Changes, Fails, IsQuiet}
use Rattle.csi_keeper.specs.Model.{Model}
use Rattle.csi_keeper.specs.State.{State}
use Rattle.csi_keeper.specs.declared.change.Change.{Change}
use Rattle.csi_keeper.specs.declared.change.StoreFault.{StoreFault}
use Rattle.csi_keeper.specs.declared.change.StoreFault.TheVariants.{NoMemory, Refused, Down}
use Rattle.csi_keeper.specs.declared.health.Health.{Health}
use Rattle.csi_through.specs.Through.{through_model}
use Rattle.csi_through.specs.declared.through.Through.{Through}

module _ {M D : Type 0} (memory : M → Model State) (change_store : D → Model State) (t : Through M D) (l : D) (h : Health) (change : Change) where
  abbrev old : Model State
  old = through_model memory change_store t

  abbrev new : Model State
  new = through_model memory change_store (record t { change_store = l; health = h })

  failed : Fails (change_store t.change_store) (change_store l) change → Fails old new change
  failed f = record {
    clean = omega (arith, f.clean);
    state = λ d s held allows. (f.state (omega (arith, d)) s held.0 allows, held.1);
    crash = λ d s held allows. f.crash (omega (arith, d)) s held.0 allows;
    ties = λ d s held allows. f.ties (omega (arith, d)) s held.0 allows;
  }

  quiet : IsQuiet (change_store t.change_store) (change_store l) → Fails old new change
  quiet q = record {
    clean = omega (arith, q.clean);
    state = λ d s held allows. (q.state (omega (arith, d)) s held.0, held.1);
    crash = λ d s held allows u left. inl (q.crash (omega (arith, d)) u left);
    ties = λ d s held allows. q.ties (omega (arith, d));
  }

  pub not_made : (made result : Result (Unit {0}) StoreFault) (e : StoreFault) → result ≡ Err e → result ≡ answered made → Changes (change_store t.change_store) (change_store l) change made → Changes old new change result
  not_made (Ok x) result e is is_answer made = absurd (cc (is, is_answer))
  not_made (Err NoMemory) result e is is_answer made = subst (λ (r : Result (Unit {0}) StoreFault). Changes old new change r) (sym is_answer) (failed made)
  not_made (Err Refused) result e is is_answer made = subst (λ (r : Result (Unit {0}) StoreFault). Changes old new change r) (sym is_answer) (failed made)
  not_made (Err Down) result e is is_answer made = subst (λ (r : Result (Unit {0}) StoreFault). Changes old new change r) (sym is_answer) (quiet made)
