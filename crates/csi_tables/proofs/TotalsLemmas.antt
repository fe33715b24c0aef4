-- Totals that were reserved, and then counted.
use Rattle.std.proofs.Common.{◌≡◌, ◌∙◌, sym, ap, ap₂, subst, cond, ℕ}
use Rattle.csi_types.specs.Maps.{same_text}
use Rattle.csi_keeper.specs.Texts.{Text}
use Rattle.csi_keeper.specs.Totals.{HasRoom, total_of, more}
use Rattle.csi_keeper.specs.declared.totals.Total.{Total}
use Rattle.csi_keeper.specs.declared.totals.Totals.{Totals}

pub counted_after : (old mid new : Totals) (pool : Text) (bytes : ℕ) → HasRoom (total_of old pool) bytes → ((q : Text) → total_of mid q ≡ total_of old q)
    → (HasRoom (total_of mid pool) bytes → (q : Text) → total_of new q ≡ cond (same_text pool q) (more (total_of mid pool) bytes) (total_of mid q))
    → (q : Text) → total_of new q ≡ cond (same_text pool q) (more (total_of old pool) bytes) (total_of old q)
counted_after old mid new pool bytes room same counted q =
    counted (subst (λ (t : Total). HasRoom t bytes) (sym (same pool)) room) q ∙ ap₂ (cond (same_text pool q)) (ap (λ (t : Total). more t bytes) (same pool)) (same q)
