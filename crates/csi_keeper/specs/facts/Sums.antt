-- The bytes of a pool's volumes, after a change.
use Rattle.std.proofs.Common.{◌≡◌, ◌∙◌, ap, sym, cond, arith, ℕ, ◌+◌, List, [], ◌∷◌, map, filter, length, sum, true, false, Some, None, Ordering}
use Rattle.std.proofs.Common.{Less, Equal, Greater}
use Rattle.std.specs.Cmp.{nat_cmp_total}
use Rattle.std.specs.Ordering.{nat_cmp, is_eq}
use Rattle.std.specs.FinMap as fin
use Rattle.std.specs.FinMap.Entries.{by_order}
use Rattle.std.proofs.lemmas.List.Sums.{sum_by-cons}
use Rattle.csi_types.specs.Maps.{same_text}
use Rattle.csi_keeper.specs.declared.change.Change.TheVariants.{AddVolume, RemoveVolume}
use Rattle.csi_keeper.specs.declared.volume.Volume.{Volume}
use Rattle.csi_keeper.specs.State.{State, sizes, changed}
use Rattle.csi_keeper.specs.Texts.{Text}
use Rattle.csi_keeper.specs.facts.Finite.{none_some, put_back, set_anew, gone}

abbrev pub in_order : List (ℕ × Volume) → Text → List ℕ
in_order es pool = map (λ v. v.bytes) (filter (λ v. same_text v.pool pool) (map (λ e. e.1) es))

pub total_cons : (e : ℕ × Volume) (es : List (ℕ × Volume)) (pool : Text)
    → sum (in_order (e ∷ es) pool) ≡ cond (same_text e.1.pool pool) e.1.bytes 0 + sum (in_order es pool)
total_cons e es pool = elim (same_text e.1.pool pool) as
    (λ b. sum (map (λ v. v.bytes) (cond b (e.1 ∷ filter (λ v. same_text v.pool pool) (map (λ e. e.1) es))
    (filter (λ v. same_text v.pool pool) (map (λ e. e.1) es)))) ≡ cond b e.1.bytes 0 + sum (in_order es pool)) [
      | true ↦ sum_by-cons (λ x. x) e.1.bytes (in_order es pool)
      | false ↦ omega arith
    ]

pub count_cons : (e : ℕ × Volume) (es : List (ℕ × Volume)) (pool : Text)
    → length (in_order (e ∷ es) pool) ≡ cond (same_text e.1.pool pool) 1 0 + length (in_order es pool)
count_cons e es pool = elim (same_text e.1.pool pool) as
    (λ b. length (map (λ v. v.bytes) (cond b (e.1 ∷ filter (λ v. same_text v.pool pool) (map (λ e. e.1) es))
    (filter (λ v. same_text v.pool pool) (map (λ e. e.1) es)))) ≡ cond b 1 0 + length (in_order es pool)) [
      | true ↦ omega arith
      | false ↦ omega arith
    ]

-- a measure of lists that grows with each entry by a part that depends on the entry's volume
module _ (measure : List (ℕ × Volume) → ℕ) (part : Volume → ℕ) (more : (e : ℕ × Volume) (es : List (ℕ × Volume))
    → measure (e ∷ es) ≡ part e.1 + measure es) where
  measure_put : (k : ℕ) (v : Volume) (es : List (ℕ × Volume)) → fin.find nat_cmp k es ≡ None → measure (fin.put nat_cmp k v es) ≡ part v + measure es
  measure_put k v [] none = more (k, v) []
  measure_put k v (e ∷ es) none = go (nat_cmp k e.0) none (measure_put k v es)
    where
      go : (o : Ordering) → cond (is_eq o) (Some e.1) (fin.find nat_cmp k es) ≡ None
          → (fin.find nat_cmp k es ≡ None → measure (fin.put nat_cmp k v es) ≡ part v + measure es)
          → measure (by_order o ((k, v) ∷ e ∷ es) ((e.0, v) ∷ es) (e ∷ fin.put nat_cmp k v es)) ≡ part v + measure (e ∷ es)
      go Less h next = more (k, v) (e ∷ es)
      go Equal h next = absurd (none_some e.1 (sym h))
      go Greater h next = let a = more e (fin.put nat_cmp k v es) in let b = next h in let d = more e es in omega (arith, a, b, d)

  measure_added : (m : fin.FinMap nat_cmp Volume) (k : ℕ) (v : Volume) → fin.get m k ≡ None
      → measure (fin.entries (fin.insert m k v)) ≡ part v + measure (fin.entries m)
  measure_added m k v none = ap measure (fin.entries-insert nat_cmp_total m k v) ∙ measure_put k v (fin.entries m) (sym (fin.get-entries m k) ∙ none)

  measure_removed : (m : fin.FinMap nat_cmp Volume) (k : ℕ) (v : Volume) → fin.get m k ≡ Some v
      → measure (fin.entries m) ≡ part v + measure (fin.entries (fin.remove m k))
  measure_removed m k v some =
      ap (λ (x : fin.FinMap nat_cmp Volume). measure (fin.entries x)) (sym (put_back nat_cmp_total fin.nat_cmp-IsAntisymmetric m k v some))
      ∙ measure_added (fin.remove m k) k v (gone nat_cmp_total fin.nat_cmp-IsAntisymmetric m k)

  -- if a volume is replaced by a volume with the same part, the measure is the same
  pub measure_set : (m : fin.FinMap nat_cmp Volume) (k : ℕ) (v w : Volume) → fin.get m k ≡ Some v → part w ≡ part v
      → measure (fin.entries (fin.insert m k w)) ≡ measure (fin.entries m)
  measure_set m k v w some same =
      ap (λ (x : fin.FinMap nat_cmp Volume). measure (fin.entries x)) (set_anew nat_cmp_total fin.nat_cmp-IsAntisymmetric m k w)
      ∙ measure_added (fin.remove m k) k w (gone nat_cmp_total fin.nat_cmp-IsAntisymmetric m k)
      ∙ ap (λ n. n + measure (fin.entries (fin.remove m k))) same
      ∙ sym (measure_removed m k v some)

-- the bytes and the number of a pool's volumes, after a volume is added and after one is removed
pub added_sum : (s : State) (v : Volume) (pool : Text) → fin.get s.volumes v.number ≡ None
    → sum (sizes (changed s (AddVolume v)) pool) ≡ cond (same_text v.pool pool) v.bytes 0 + sum (sizes s pool)
added_sum s v pool none = measure_added (λ es. sum (in_order es pool)) (λ v. cond (same_text v.pool pool) v.bytes 0)
    (λ e es. total_cons e es pool) s.volumes v.number v none

pub added_count : (s : State) (v : Volume) (pool : Text) → fin.get s.volumes v.number ≡ None
    → length (sizes (changed s (AddVolume v)) pool) ≡ cond (same_text v.pool pool) 1 0 + length (sizes s pool)
added_count s v pool none = measure_added (λ es. length (in_order es pool)) (λ v. cond (same_text v.pool pool) 1 0)
    (λ e es. count_cons e es pool) s.volumes v.number v none

pub taken_sum : (s : State) (n : ℕ) (v : Volume) (pool : Text) → fin.get s.volumes n ≡ Some v
    → sum (sizes s pool) ≡ cond (same_text v.pool pool) v.bytes 0 + sum (sizes (changed s (RemoveVolume n)) pool)
taken_sum s n v pool some = measure_removed (λ es. sum (in_order es pool)) (λ v. cond (same_text v.pool pool) v.bytes 0)
    (λ e es. total_cons e es pool) s.volumes n v some

pub taken_count : (s : State) (n : ℕ) (v : Volume) (pool : Text) → fin.get s.volumes n ≡ Some v
    → length (sizes s pool) ≡ cond (same_text v.pool pool) 1 0 + length (sizes (changed s (RemoveVolume n)) pool)
taken_count s n v pool some = measure_removed (λ es. length (in_order es pool)) (λ v. cond (same_text v.pool pool) 1 0)
    (λ e es. count_cons e es pool) s.volumes n v some
