-- A read of the memory is a read of the keeper over it.
use Rattle.std.proofs.Common.{◌≡◌, ◌∙◌, ap, sym, subst, refl, arith, true, IsTrue, IfOk, Result, Ok, Err}
use Rattle.csi_keeper.specs.Health.{Finishes, answered}
use Rattle.csi_keeper.specs.Keeper.{Reads, Reports, count_after}
use Rattle.csi_keeper.specs.Model.{Model}
use Rattle.csi_keeper.specs.State.{State}
use Rattle.csi_keeper.specs.declared.change.StoreFault.{StoreFault}
use Rattle.csi_keeper.specs.declared.change.StoreFault.TheVariants.{NoMemory, Refused, Down}
use Rattle.csi_keeper.specs.declared.health.Health.{Health}
use Rattle.csi_through.specs.Through.{ReadsThrough, through_model}
use Rattle.csi_through.specs.declared.through.Through.{Through}

module _ {M D X : Type 0} (memory : M → Model State) (change_store : D → Model State) (t : Through M D) (m : M) (h : Health) (IsSo : State → X → Type 0) where
  abbrev later : Through M D
  later = record t { memory = m; health = h }

  abbrev old : Model State
  old = through_model memory change_store t

  abbrev new : Model State
  new = through_model memory change_store later

  reported : t.is_current ≡ true → (answer : Result X StoreFault) → IfOk answer (λ x. Reports (memory t.memory) (memory m) (λ s. IsSo s x)) → IfOk (answered answer) (λ x. Reports old new (λ s. IsSo s x))
  reported current (Ok x) is = λ d s held. is (omega (arith, d)) s (held.1 current)
  reported current (Err NoMemory) is = is
  reported current (Err Refused) is = is
  reported current (Err Down) is = is

  pub read_through : (started : Health) (answer result : Result X StoreFault) → t.is_current ≡ true → (IsTrue t.health.is_down → ⊥) → started.refusals ≡ t.health.refusals → started.is_down ≡ t.health.is_down
      → Reads (memory t.memory) (memory m) answer IsSo → Finishes started h answer result → ReadsThrough memory change_store t later result IsSo
  read_through started answer result current up count stays read finish = record {
    reads = record {
      value = subst (λ (r : Result X StoreFault). IfOk r (λ x. Reports old new (λ s. IsSo s x))) (sym finish.answers) (reported current answer read.value);
      quiet = record {
        clean = let more = read.quiet.clean in omega (arith, more);
        state = λ d s held. (held.0, λ same. read.quiet.state (omega (arith, d)) s (held.1 current));
        crash = λ d u left. left;
        ties = λ d tied. tied;
        down = finish.stays ∙ stays;
      };
      count = finish.count ∙ ap (λ n. count_after n result) count;
      down = (λ e. absurd (finish.up e), λ yes. absurd (up yes));
    };
    current = refl;
  }
