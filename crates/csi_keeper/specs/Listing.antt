-- The entries of a listing.
use Rattle.std.specs.Prelude.{◌≡◌, ℕ, List, [], ◌∷◌, map}
use Rattle.csi_keeper.specs.declared.listed.Listed.{Listed}
use Rattle.csi_keeper.specs.declared.listed.ListedRow.{ListedRow}
use Rattle.csi_keeper.specs.declared.listed.PageWithNodes.{PageWithNodes}
use Rattle.csi_keeper.specs.declared.volume.Volume.{Volume}
use Rattle.csi_keeper.specs.State.{State, page, published, published_of_page}
use Rattle.csi_keeper.specs.Texts.{Text}

-- the entry of a volume that is published at these nodes
abbrev pub listed_at : Volume → List Text → Listed
listed_at v nodes = record { number = v.number; bytes = v.bytes; pool = v.pool; nodes = nodes }

-- the entry of a borrowed row
abbrev pub row_reported : ListedRow → Listed
row_reported row = record { number = row.number; bytes = row.bytes; pool = row.pool.now; nodes = row.nodes.now }

-- the entries of volumes that are published at these nodes
abbrev pub listed_each : List Volume → List (List Text) → List Listed
listed_each [] nodes = []
listed_each (v ∷ vs) [] = []
listed_each (v ∷ vs) (ns ∷ nodes) = listed_at v ns ∷ listed_each vs nodes

-- the entry of a volume of a State
abbrev pub listed_of : State → Volume → Listed
listed_of s v = listed_at v (published s v.number)

-- a page of volumes, and the nodes of each
pub record IsPageWithNodes (s : State) (after count : ℕ) (p : PageWithNodes) : Type 0 where
  pub volumes : p.volumes ≡ page s after count
  pub nodes : p.nodes ≡ published_of_page s after count

-- the entries of the volumes of a page
abbrev pub listing : State → ℕ → ℕ → List Listed
listing s after count = map (listed_of s) (page s after count)
