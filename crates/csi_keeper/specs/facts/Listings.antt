-- The listing of a page with the nodes of its volumes.
use Rattle.std.proofs.Common.{◌≡◌, ◌∙◌, ap, ap₂, refl, ℕ, List, [], ◌∷◌, map}
use Rattle.csi_keeper.specs.Listing.{IsPageWithNodes, listed_each, listed_of, listing}
use Rattle.csi_keeper.specs.State.{State, page, published}
use Rattle.csi_keeper.specs.declared.listed.PageWithNodes.{PageWithNodes}
use Rattle.csi_keeper.specs.declared.volume.Volume.{Volume}

each_listed : (s : State) (vs : List Volume) → listed_each vs (map (λ v. published s v.number) vs) ≡ map (listed_of s) vs
each_listed s [] = refl
each_listed s (v ∷ vs) = ap (λ reported. listed_of s v ∷ reported) (each_listed s vs)

pub listed_page : (s : State) (after count : ℕ) (p : PageWithNodes) → IsPageWithNodes s after count p → listed_each p.volumes p.nodes ≡ listing s after count
listed_page s after count p is = ap₂ listed_each is.volumes is.nodes ∙ each_listed s (page s after count)
