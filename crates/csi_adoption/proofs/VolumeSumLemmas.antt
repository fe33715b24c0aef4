-- The totals reported for a pool's rows are the totals of its volumes.
use Rattle.std.proofs.Common.{◌≡◌, inl, inr, refl, ap, subst, ℕ, ◌-◌, ◌^◌, ◌≤◌, ◌<◌, cond, List, [], ◌∷◌, map, length, sum, sum_by, is_eq, arith}
use Rattle.std.specs.Cmp.Lexicographic.{slice_cmp}
use Rattle.std.specs.List.{AllByRecursion}
use Rattle.std.specs.Ordering.{nat_cmp}
use Rattle.std.proofs.lemmas.List.Sums.{sum_by-cons}
use Rattle.std.proofs.lemmas.Map.Text.{is_eq-slice_cmp}
use Rattle.sqlite.specs.Order.{Row}
use Rattle.csi_types.specs.Maps.{same_text}
use Rattle.csi_config.specs.Values.{Has}
use Rattle.csi_config.specs.declared.config.Config.{Config}
use Rattle.csi_config.specs.declared.pools.Pool.{Pool}
use Rattle.csi_keeper.specs.declared.volume.Volume.{Volume}
use Rattle.csi_keeper.specs.facts.Sums.{count_cons, in_order, total_cons}
use Rattle.csi_constraints.specs.Folds.{added_by, sum_after}
use Rattle.csi_constraints.specs.declared.sums.Weight.TheVariants.{Number, One}
use Rattle.csi_columns.specs.Entries.{volume_entry}
use Rattle.csi_adoption.specs.Passing.{VolumesPass}
use Rattle.csi_adoption.specs.declared.meta.Meta.{Meta}
use Rattle.csi_adoption.proofs.SumLemmas.{count_reported, sum_reported}

-- a fact of a configuration's whole list holds for each item
pub all_of : {X : Type 0} (P : X → Type 0) (xs : List X) (x : X) → AllByRecursion P xs → Has xs x → P x
all_of P [] x all h = absurd h
all_of P (y ∷ xs) x all (inl same) = subst P same all.0
all_of P (y ∷ xs) x all (inr later) = all_of P xs x all.1 later

one_test : (a b : List ℕ) (n : ℕ) → cond (is_eq (slice_cmp nat_cmp a b)) n 0 ≡ cond (same_text a b) n 0
one_test a b n = ap (λ t. cond t n 0) (is_eq-slice_cmp a b)

pub count_of : (es : List (ℕ × Volume)) (pool : List ℕ) → length (in_order es pool) ≡ sum_by (added_by 3 pool One) (map volume_entry es)
count_of [] pool = refl
count_of (e ∷ es) pool =
    let here = count_cons e es pool in
    let there = sum_by-cons (added_by 3 pool One) (volume_entry e) (map volume_entry es) in
    omega (arith, here, there, one_test e.1.pool pool 1, count_of es pool)

pub sum_of : (es : List (ℕ × Volume)) (pool : List ℕ) → sum (in_order es pool) ≡ sum_by (added_by 3 pool (Number 2)) (map volume_entry es)
sum_of [] pool = refl
sum_of (e ∷ es) pool =
    let here = total_cons e es pool in
    let there = sum_by-cons (added_by 3 pool (Number 2)) (volume_entry e) (map volume_entry es) in
    omega (arith, here, there, one_test e.1.pool pool e.1.bytes, sum_of es pool)

-- for rows that pass, the totals reported for a pool of the configuration are true
pub pool_reported : (config : Config) (m : Meta) (rows : List Row) → VolumesPass config m rows → (p : Pool) → Has config.pools p → p.bytes < 2 ^ 64 - 1
    → (sum_after 3 p.name One 0 rows ≡ sum_by (added_by 3 p.name One) rows) × (sum_after 3 p.name (Number 2) 0 rows ≡ sum_by (added_by 3 p.name (Number 2)) rows)
pool_reported config m rows pass p has low =
    let room : sum_by (added_by 3 p.name (Number 2)) rows ≤ p.bytes = all_of (λ q. sum_by (added_by 3 q.name (Number 2)) rows ≤ q.bytes) config.pools p pass.rooms has in
    (count_reported 3 p.name rows (omega (arith, pass.few)), sum_reported 3 p.name (Number 2) rows (omega (arith, room, low)))
