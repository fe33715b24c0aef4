-- Volumes as they are kept, and the finite map of volumes.
use Rattle.std.proofs.Common.{◌≡◌, ◌∙◌, ap, sym, subst, cond, ℕ, List, [], ◌∷◌, map, filter, take, Bool, true, false, Option, Some, None, refl}
use Rattle.std.specs.BTreeMap.{is_at}
use Rattle.std.specs.BTreeMap.Range.{entries_between, range_contains}
use Rattle.std.specs.FinMap as fin
use Rattle.std.specs.List.Sorted.{IsStrictlySortedBy}
use Rattle.std.specs.Map.{lookup, keys_of}
use Rattle.std.specs.Option.{option_map}
use Rattle.std.specs.Ordering.{nat_cmp}
use Rattle.std.specs.declared.ops.Bound.TheVariants.{Excluded, Unbounded}
use Rattle.csi_types.specs.Maps.{same_text}
use Rattle.csi_keeper.specs.Texts.{Text}
use Rattle.csi_keeper.specs.declared.volume.Volume.{Volume}
use Rattle.csi_keeper.specs.facts.Finite.{tied}
use Rattle.csi_maps.specs.Rows.{volumes_of, IsSetAt}
use Rattle.csi_maps.specs.Stored.{as_volume, as_volumes}
use Rattle.csi_maps.specs.declared.stored.StoredVolume.{StoredVolume}
use Rattle.csi_maps.specs.facts.Listing.{rows_are}
use Rattle.csi_maps.specs.facts.Trees.{get_number, one_volume, no_volume}

-- a look-up by number
pub found_stored : (es : List (ℕ × StoredVolume)) (k : ℕ)
    → lookup (is_at (nat_cmp k)) (as_volumes es) ≡ option_map (as_volume k) (lookup (is_at (nat_cmp k)) es)
found_stored [] k = refl
found_stored (e ∷ es) k = go (found_stored es k) (is_at (nat_cmp k) e.0) refl
  where
    go : lookup (is_at (nat_cmp k)) (as_volumes es) ≡ option_map (as_volume k) (lookup (is_at (nat_cmp k)) es) → (b : Bool) → is_at (nat_cmp k) e.0 ≡ b
        → cond b (Some (as_volume e.0 e.1)) (lookup (is_at (nat_cmp k)) (as_volumes es))
        ≡ option_map (as_volume k) (cond b (Some e.1) (lookup (is_at (nat_cmp k)) es))
    go more true t = ap (λ n. Some (as_volume n e.1)) (sym (fin.nat_cmp-IsAntisymmetric k e.0 (tied _ t)))
    go more false t = more

pub get_stored : (es : List (ℕ × StoredVolume)) (k : ℕ) → fin.get (volumes_of (as_volumes es)) k ≡ option_map (as_volume k) (lookup (is_at (nat_cmp k)) es)
get_stored es k = get_number (as_volumes es) k ∙ found_stored es k

set_stored : (es fs : List (ℕ × StoredVolume)) (k : ℕ) (x : Option StoredVolume) → IsSetAt nat_cmp k x es fs
    → IsSetAt nat_cmp k (option_map (as_volume k) x) (as_volumes es) (as_volumes fs)
set_stored es fs k x h q = found_stored fs q ∙ ap (option_map (as_volume q)) (h q) ∙ go (is_at (nat_cmp k) q) refl
  where
    go : (b : Bool) → is_at (nat_cmp k) q ≡ b
        → option_map (as_volume q) (cond b x (lookup (is_at (nat_cmp q)) es))
        ≡ cond b (option_map (as_volume k) x) (lookup (is_at (nat_cmp q)) (as_volumes es))
    go true t = ap (λ n. option_map (as_volume n) x) (sym (fin.nat_cmp-IsAntisymmetric k q (tied _ t)))
    go false t = sym (found_stored es q)

pub one_stored : (es fs : List (ℕ × StoredVolume)) (k : ℕ) (v : StoredVolume) → IsSetAt nat_cmp k (Some v) es fs
    → volumes_of (as_volumes fs) ≡ fin.insert (volumes_of (as_volumes es)) k (as_volume k v)
one_stored es fs k v h = one_volume (as_volumes es) (as_volumes fs) k (as_volume k v) (set_stored es fs k (Some v) h)

pub none_stored : (es fs : List (ℕ × StoredVolume)) (k : ℕ) → IsSetAt nat_cmp k None es fs
    → volumes_of (as_volumes fs) ≡ fin.remove (volumes_of (as_volumes es)) k
none_stored es fs k h = no_volume (as_volumes es) (as_volumes fs) k (set_stored es fs k None h)

same_keys : (es : List (ℕ × StoredVolume)) → keys_of (as_volumes es) ≡ keys_of es
same_keys [] = refl
same_keys (e ∷ es) = ap (λ ks. e.0 ∷ ks) (same_keys es)

pub stored_are : (es : List (ℕ × StoredVolume)) → IsStrictlySortedBy nat_cmp (keys_of es) → fin.entries (volumes_of (as_volumes es)) ≡ as_volumes es
stored_are es h = rows_are (as_volumes es) (subst (IsStrictlySortedBy nat_cmp) (sym (same_keys es)) h)

-- the greater numbers
between_stored : (es : List (ℕ × StoredVolume)) (after : ℕ)
    → as_volumes (entries_between nat_cmp (Excluded after) Unbounded es) ≡ entries_between nat_cmp (Excluded after) Unbounded (as_volumes es)
between_stored [] after = refl
between_stored (e ∷ es) after = go (between_stored es after) (range_contains nat_cmp (Excluded after) Unbounded e.0)
  where
    go : as_volumes (entries_between nat_cmp (Excluded after) Unbounded es) ≡ entries_between nat_cmp (Excluded after) Unbounded (as_volumes es) → (b : Bool)
        → as_volumes (cond b (e ∷ entries_between nat_cmp (Excluded after) Unbounded es) (entries_between nat_cmp (Excluded after) Unbounded es))
        ≡ cond b ((e.0, as_volume e.0 e.1) ∷ entries_between nat_cmp (Excluded after) Unbounded (as_volumes es))
        (entries_between nat_cmp (Excluded after) Unbounded (as_volumes es))
    go more true = ap (λ fs. (e.0, as_volume e.0 e.1) ∷ fs) more
    go more false = more

each_stored : {X : Type 0} (f : Volume → X) (es : List (ℕ × StoredVolume)) → map (λ e. f (as_volume e.0 e.1)) es ≡ map (λ e. f e.1) (as_volumes es)
each_stored f [] = refl
each_stored f (e ∷ es) = ap (λ xs. f (as_volume e.0 e.1) ∷ xs) (each_stored f es)

pub page_stored : {X : Type 0} (f : Volume → X) (es : List (ℕ × StoredVolume)) (after count : ℕ)
    → take count (map (λ e. f (as_volume e.0 e.1)) (entries_between nat_cmp (Excluded after) Unbounded es))
    ≡ take count (map (λ e. f e.1) (entries_between nat_cmp (Excluded after) Unbounded (as_volumes es)))
page_stored f es after count =
    ap (take count) (each_stored f (entries_between nat_cmp (Excluded after) Unbounded es) ∙ ap (map (λ (e : ℕ × Volume). f e.1)) (between_stored es after))

-- the sizes in a pool
pub sizes_stored : (pool : Text) (es : List (ℕ × StoredVolume))
    → map (λ v. v.bytes) (filter (λ v. same_text v.pool pool) (map (λ e. e.1) es))
    ≡ map (λ v. v.bytes) (filter (λ v. same_text v.pool pool) (map (λ e. e.1) (as_volumes es)))
sizes_stored pool [] = refl
sizes_stored pool (e ∷ es) = go (sizes_stored pool es) (same_text e.1.pool pool)
  where
    go : map (λ v. v.bytes) (filter (λ v. same_text v.pool pool) (map (λ e. e.1) es))
        ≡ map (λ v. v.bytes) (filter (λ v. same_text v.pool pool) (map (λ e. e.1) (as_volumes es))) → (b : Bool)
        → map (λ v. v.bytes) (cond b (e.1 ∷ filter (λ v. same_text v.pool pool) (map (λ e. e.1) es)) (filter (λ v. same_text v.pool pool) (map (λ e. e.1) es)))
        ≡ map (λ v. v.bytes) (cond b (as_volume e.0 e.1 ∷ filter (λ v. same_text v.pool pool) (map (λ e. e.1) (as_volumes es)))
        (filter (λ v. same_text v.pool pool) (map (λ e. e.1) (as_volumes es))))
    go more true = ap (λ ns. e.1.bytes ∷ ns) more
    go more false = more
