-- The State after a volume got other mutable parameters: the volumes are the same except for these.
use Rattle.std.proofs.Common.{◌≡◌, ◌∙◌, ◌⊎◌, inl, inr, ap, ap₂, sym, cond, refl, ℕ, ◌+◌, length, sum, Bool, true, false, is_some, Option, Some, None}
use Rattle.std.specs.Cmp.{nat_cmp_total}
use Rattle.std.specs.Ordering.{nat_cmp, eq_by_cmp}
use Rattle.std.specs.FinMap as fin
use Rattle.csi_types.specs.Maps.{TextMap, same_text}
use Rattle.csi_keeper.specs.declared.change.Change.TheVariants.{SetMutable}
use Rattle.csi_keeper.specs.declared.volume.Volume.{Volume}
use Rattle.csi_keeper.specs.declared.totals.Totals.{Totals}
use Rattle.csi_keeper.specs.State.{State, sizes, changed, with_mutable, mutable_set}
use Rattle.csi_keeper.specs.Texts.{Text}
use Rattle.csi_keeper.specs.Totals.{the_total, AreTotals}
use Rattle.csi_keeper.specs.facts.Finite.{inserted, same_some, tied}
use Rattle.csi_keeper.specs.facts.Sums.{in_order, count_cons, total_cons, measure_set}

abbrev Volumes : Type 0
Volumes = fin.FinMap nat_cmp Volume

-- a volume after the change, and the volume with this number before the change
pub stood : (vs : Volumes) (n : ℕ) (m : TextMap) (q : ℕ) (w : Volume) → fin.get (mutable_set vs n m (fin.get vs n)) q ≡ Some w
    → (v : Volume) × (fin.get vs q ≡ Some v) × ((w ≡ v) ⊎ ((q ≡ n) × (w ≡ with_mutable m v)))
stood vs n m q w e = go (fin.get vs n) refl e
  where
    go : (o : Option Volume) → fin.get vs n ≡ o → fin.get (mutable_set vs n m o) q ≡ Some w
        → (v : Volume) × (fin.get vs q ≡ Some v) × ((w ≡ v) ⊎ ((q ≡ n) × (w ≡ with_mutable m v)))
    go None h e = (w, e, inl refl)
    go (Some v) h e = elim (inserted nat_cmp_total fin.nat_cmp-IsAntisymmetric vs n (with_mutable m v) q w e)
        as (λ _. (v : Volume) × (fin.get vs q ≡ Some v) × ((w ≡ v) ⊎ ((q ≡ n) × (w ≡ with_mutable m v)))) [
          | inl a ↦ (v, ap (fin.get vs) a.0 ∙ h, inr (a.0, sym a.1))
          | inr b ↦ (w, b, inl refl)
        ]

-- a volume that existed still exists, unchanged or with the new parameters
pub stands : (vs : Volumes) (n : ℕ) (m : TextMap) (q : ℕ) (v : Volume) → fin.get vs q ≡ Some v
    → (w : Volume) × (fin.get (mutable_set vs n m (fin.get vs n)) q ≡ Some w) × ((w ≡ v) ⊎ ((q ≡ n) × (w ≡ with_mutable m v)))
stands vs n m q v e = go (fin.get vs n) refl
  where
    go : (o : Option Volume) → fin.get vs n ≡ o → (w : Volume) × (fin.get (mutable_set vs n m o) q ≡ Some w) × ((w ≡ v) ⊎ ((q ≡ n) × (w ≡ with_mutable m v)))
    go None h = (v, e, inl refl)
    go (Some u) h = at (eq_by_cmp nat_cmp q n) refl
      where
        at : (b : Bool) → eq_by_cmp nat_cmp q n ≡ b → (w : Volume) × (fin.get (fin.insert vs n (with_mutable m u)) q ≡ Some w)
            × ((w ≡ v) ⊎ ((q ≡ n) × (w ≡ with_mutable m v)))
        at true t =
            let same : q ≡ n = fin.nat_cmp-IsAntisymmetric q n (tied _ t) in
            let one : u ≡ v = same_some u v (sym h ∙ ap (fin.get vs) (sym same) ∙ e) in (
              with_mutable m u,
              fin.get-insert nat_cmp_total vs n (with_mutable m u) q
                  ∙ ap (λ b. cond b (Some (with_mutable m u)) (fin.get vs q)) t,
              inr (same, ap (with_mutable m) one),
            )
        at false t = (v, fin.get-insert nat_cmp_total vs n (with_mutable m u) q ∙ ap (λ b. cond b (Some (with_mutable m u)) (fin.get vs q)) t ∙ e, inl refl)

-- the number of volumes is the same
pub as_many : (vs : Volumes) (n : ℕ) (m : TextMap) → fin.len (mutable_set vs n m (fin.get vs n)) ≡ fin.len vs
as_many vs n m = go (fin.get vs n) refl
  where
    go : (o : Option Volume) → fin.get vs n ≡ o → fin.len (mutable_set vs n m o) ≡ fin.len vs
    go None h = refl
    go (Some v) h = fin.len-insert nat_cmp_total vs n (with_mutable m v) ∙ ap (λ (o : Option Volume). cond (is_some o) (fin.len vs) (fin.len vs + 1)) h

-- the bytes and the number of a pool's volumes are the same
pub same_sum : (s : State) (n : ℕ) (m : TextMap) (pool : Text) → sum (sizes (changed s (SetMutable n m)) pool) ≡ sum (sizes s pool)
same_sum s n m pool = go (fin.get s.volumes n) refl
  where
    go : (o : Option Volume) → fin.get s.volumes n ≡ o
        → sum (in_order (fin.entries (mutable_set s.volumes n m o)) pool) ≡ sum (in_order (fin.entries s.volumes) pool)
    go None h = refl
    go (Some v) h =
        measure_set (λ es. sum (in_order es pool)) (λ v. cond (same_text v.pool pool) v.bytes 0) (λ e es. total_cons e es pool)
        s.volumes n v (with_mutable m v) h refl

pub same_count : (s : State) (n : ℕ) (m : TextMap) (pool : Text) → length (sizes (changed s (SetMutable n m)) pool) ≡ length (sizes s pool)
same_count s n m pool = go (fin.get s.volumes n) refl
  where
    go : (o : Option Volume) → fin.get s.volumes n ≡ o
        → length (in_order (fin.entries (mutable_set s.volumes n m o)) pool) ≡ length (in_order (fin.entries s.volumes) pool)
    go None h = refl
    go (Some v) h =
        measure_set (λ es. length (in_order es pool)) (λ v. cond (same_text v.pool pool) 1 0) (λ e es. count_cons e es pool)
        s.volumes n v (with_mutable m v) h refl

-- kept totals stay true
pub totals_kept : (pools : Totals) (s : State) (n : ℕ) (m : TextMap) → AreTotals pools s → AreTotals pools (changed s (SetMutable n m))
totals_kept pools s n m totals pool = totals pool ∙ sym (ap₂ the_total (same_count s n m pool) (same_sum s n m pool))
