-- The maps that rows in memory represent.
use Rattle.std.specs.Prelude.{◌≡◌, ℕ, ◌+◌, ◌-◌, ◌^◌, ◌==◌, List, [], ◌∷◌, Option, Some, None, ◌≢◌, Bool, is_some, map, filter, if◌then◌else◌}
use Rattle.std.specs.BTreeMap.{is_at}
use Rattle.std.specs.BTreeSet.{BTreeSet}
use Rattle.std.specs.FinMap.{FinMap, get, remove, entries, from_entries}
use Rattle.std.specs.List.{list_any}
use Rattle.std.specs.Map.{lookup}
use Rattle.std.specs.Ordering.{nat_cmp, ordering_then}
use Rattle.std.specs.declared.cmp.Ordering.{Ordering}
use Rattle.std.specs.declared.ops.Bound.{Bound}
use Rattle.std.specs.declared.ops.Bound.TheVariants.{Excluded, Unbounded}
use Rattle.csi_keeper.specs.declared.volume.Attachment.{Attachment}
use Rattle.csi_keeper.specs.declared.volume.Volume.{Volume}
use Rattle.csi_keeper.specs.State.{AttachmentKey, attachment_key_cmp}
use Rattle.csi_keeper.specs.Listing.{listed_at}
use Rattle.csi_keeper.specs.declared.listed.Listed.{Listed}
use Rattle.csi_keeper.specs.Texts.{Text, text_cmp}

abbrev pub volumes_of : List (ℕ × Volume) → FinMap nat_cmp Volume
volumes_of es = from_entries es

abbrev pub places_of : List (AttachmentKey × Attachment) → FinMap attachment_key_cmp Attachment
places_of es = from_entries es

-- the entries after a value was set at a key, or taken away there
abbrev pub IsSetAt : {K X : Type 0} → (K → K → Ordering) → K → Option X → List (K × X) → List (K × X) → Type 0
IsSetAt {K = K} R k x old new = (q : K) → lookup (is_at (R q)) new ≡ (if is_at (R k) q then x else lookup (is_at (R q)) old)

-- the end of the keys with this number, which is a u64
abbrev pub place_end : ℕ → Bound AttachmentKey
place_end n = if n == 2 ^ 64 - 1 then Unbounded else Excluded (n + 1, [])

-- the nodes of a number's attachments
abbrev pub nodes_in : List (AttachmentKey × Attachment) → ℕ → List Text
nodes_in es n = map (λ a. a.node) (map (λ e. e.1) (filter (λ e. e.0.0 == n) (entries (places_of es))))

-- the entry of a volume in a listing, by these attachments
abbrev pub listed_in : List (AttachmentKey × Attachment) → Volume → Listed
listed_in es v = listed_at v (nodes_in es v.number)

-- the attachments without these keys
abbrev pub removed_each : FinMap attachment_key_cmp Attachment → List AttachmentKey → FinMap attachment_key_cmp Attachment
removed_each m [] = m
removed_each m (p ∷ ps) = removed_each (remove m p) ps

-- a node's id, and a volume's number
abbrev pub Spot : Type 0
Spot = Text × ℕ

-- the order of spots: by the bytes of the id, and then by number
abbrev pub spot_cmp : Spot → Spot → Ordering
spot_cmp a b = ordering_then (text_cmp a.0 b.0) (nat_cmp a.1 b.1)

-- the index of nodes: the numbers of the volumes that are attached at each node
abbrev pub Nodes : Type 0
Nodes = List (Text × BTreeSet ℕ)

-- the numbers at a node; none if the node is not in the index
abbrev pub numbers_in : Option (BTreeSet ℕ) → List ℕ
numbers_in None = []
numbers_in (Some numbers) = numbers.keys

-- the numbers at a node, by the index
abbrev pub numbers_by : Nodes → Text → List ℕ
numbers_by nodes node = numbers_in (lookup (is_at (text_cmp node)) nodes)

-- true if the index has a spot
abbrev pub has_spot : Nodes → Spot → Bool
has_spot nodes q = list_any (is_at (nat_cmp q.1)) (numbers_by nodes q.0)

-- the index after a spot was put into it, or taken out
abbrev pub IsSpotSet : Spot → Bool → Nodes → Nodes → Type 0
IsSpotSet p b old new = (q : Spot) → has_spot new q ≡ (if is_at (spot_cmp p) q then b else has_spot old q)

-- each node in the index has a number
abbrev pub HasNoEmpty : Nodes → Type 0
HasNoEmpty nodes = (node : Text) (numbers : BTreeSet ℕ) → lookup (is_at (text_cmp node)) nodes ≡ Some numbers → numbers.keys ≢ []

-- the index of nodes has a spot for exactly the attachments, and no node without one
pub record AreSpotted (es : List (AttachmentKey × Attachment)) (nodes : Nodes) : Type 0 where
  pub found : (q : Spot) → has_spot nodes q ≡ is_some (get (places_of es) (q.1, q.0))
  pub no_empty : HasNoEmpty nodes
