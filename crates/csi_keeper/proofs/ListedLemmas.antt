-- The listing of a page, from its rows.
use Rattle.std.proofs.Common.{◌≡◌, ◌∙◌, subst, ℕ, List, Ok}
use Rattle.csi_keeper.specs.Keeper.{Reads}
use Rattle.csi_keeper.specs.Listing.{IsPageWithNodes, listed_each, listing}
use Rattle.csi_keeper.specs.Model.{Model}
use Rattle.csi_keeper.specs.State.{State}
use Rattle.csi_keeper.specs.declared.listed.Listed.{Listed}
use Rattle.csi_keeper.specs.declared.listed.PageWithNodes.{PageWithNodes}
use Rattle.csi_keeper.specs.facts.Listings.{listed_page}

-- a page that was read is listed and folded
pub folded_page : (Folds : List Listed → Type 0) (a b : Model State) (p : PageWithNodes) (reported : List Listed) (after count : ℕ) {U : Type 0} (u : U)
    → Reads a b (Ok p) (λ s p. IsPageWithNodes s after count p) → reported ≡ listed_each p.volumes p.nodes → Folds reported
    → Reads a b (Ok u) (λ s _. Folds (listing s after count))
folded_page Folds a b p reported after count u read is folded = record {
  value = λ d s h. subst Folds (is ∙ listed_page s after count p (read.value d s h)) folded;
  quiet = read.quiet;
  count = read.count;
  down = (λ e. absurd (cc (e)), λ yes. absurd (let no = read.down.1 yes in cc (no)));
}
