-- The rows with other mutable parameters.
use Rattle.std.proofs.Common.{◌≡◌, ◌∙◌, ap, sym, ℕ, List, Some, None}
use Rattle.std.specs.BTreeMap.{is_at}
use Rattle.std.specs.FinMap as fin
use Rattle.std.specs.Map.{lookup}
use Rattle.std.specs.Option.{option_map}
use Rattle.std.specs.Ordering.{nat_cmp}
use Rattle.csi_types.specs.Maps.{TextMap}
use Rattle.csi_maps.specs.Rows.{volumes_of, IsSetAt}
use Rattle.csi_maps.specs.Stored.{as_volume, as_volumes}
use Rattle.csi_maps.specs.declared.stored.StoredVolume.{StoredVolume}
use Rattle.csi_keeper.specs.State.{mutable_set}
use Rattle.csi_maps.specs.facts.Stored.{get_stored, one_stored}

-- the rows after a volume got other mutable parameters
pub one_mutable : (es fs : List (ℕ × StoredVolume)) (k : ℕ) (v : StoredVolume) (m : TextMap) → lookup (is_at (nat_cmp k)) es ≡ Some v
    → IsSetAt nat_cmp k (Some (record v { mutable = m })) es fs
    → volumes_of (as_volumes fs) ≡ mutable_set (volumes_of (as_volumes es)) k m (fin.get (volumes_of (as_volumes es)) k)
one_mutable es fs k v m some h =
    one_stored es fs k (record v { mutable = m }) h
    ∙ sym (ap (mutable_set (volumes_of (as_volumes es)) k m) (get_stored es k ∙ ap (option_map (as_volume k)) some))

-- no volume gets the parameters
pub no_mutable : (es : List (ℕ × StoredVolume)) (k : ℕ) (m : TextMap) → lookup (is_at (nat_cmp k)) es ≡ None
    → volumes_of (as_volumes es) ≡ mutable_set (volumes_of (as_volumes es)) k m (fin.get (volumes_of (as_volumes es)) k)
no_mutable es k m none = sym (ap (mutable_set (volumes_of (as_volumes es)) k m) (get_stored es k ∙ ap (option_map (as_volume k)) none))
