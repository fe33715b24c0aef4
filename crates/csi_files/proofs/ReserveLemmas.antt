-- A change that is refused for lack of memory, and not made; and blocks that are kept.
use Rattle.std.proofs.Common.{◌≡◌, ◌≤◌, ◌∙◌, ◌++◌, ◌∷◌, [], List, ℕ, false, true≢false, Result, Err, refl, sym, subst, inl, arith, vec_capacity}
use Rattle.std.specs.Global.{Vec}
use Rattle.std.proofs.lemmas.List.Elements.{All-nil, All-push}
use Rattle.csi_keeper.specs.Keeper.{Applies}
use Rattle.csi_keeper.specs.Model.{Model}
use Rattle.csi_keeper.specs.State.{State}
use Rattle.csi_keeper.specs.declared.change.Change.{Change}
use Rattle.csi_keeper.specs.declared.change.StoreFault.{StoreFault}
use Rattle.csi_keeper.specs.declared.change.StoreFault.TheVariants.{Down, NoMemory}
use Rattle.csi_files.specs.Reserving.{AreBlocks, block_bytes}

other : (r : Result (Unit {0}) StoreFault) → r ≡ Err NoMemory → r ≡ Err Down → ⊥
other r is e = absurd cc

pub unmade : (m : Model State) (change : Change) → m.is_down ≡ false → Applies {X = Unit {0}} m m change (Err NoMemory)
unmade m change up = record {
  changes = record { clean = omega arith; state = λ z s holds allowed. holds; crash = λ z s holds allowed t there. inl there; ties = λ z s holds allowed tied. tied };
  count = refl;
  down = (λ e. absurd (other (Err NoMemory) refl e), λ is. absurd (true≢false (sym is ∙ up)));
}

pub no_blocks : AreBlocks []
no_blocks = All-nil _

-- one more block
pub one_more : (blocks more : List (Vec ℕ)) (block : Vec ℕ) → AreBlocks blocks → block_bytes ≤ vec_capacity block → more ≡ blocks ++ block ∷ [] → AreBlocks more
one_more blocks more block are large is = subst AreBlocks (sym is) (All-push (λ (b : Vec ℕ). block_bytes ≤ vec_capacity b) blocks block are large)
