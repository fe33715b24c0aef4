-- Kept totals, after a volume is added and after one is removed.
use Rattle.std.proofs.Common.{◌≡◌, ◌∙◌, refl, ap, ap₂, sym, subst, cond, arith, ℕ, ◌+◌, length, sum, Bool, true, false, Some, None}
use Rattle.std.specs.FinMap as fin
use lib.Pointwise.{bytes_decides}
use Rattle.csi_types.specs.Maps.{same_text}
use Rattle.csi_keeper.specs.declared.change.Change.TheVariants.{AddVolume, RemoveVolume}
use Rattle.csi_keeper.specs.declared.volume.Volume.{Volume}
use Rattle.csi_keeper.specs.declared.totals.Total.{Total}
use Rattle.csi_keeper.specs.declared.totals.Totals.{Totals}
use Rattle.csi_keeper.specs.State.{State, sizes, changed}
use Rattle.csi_keeper.specs.Texts.{Text}
use Rattle.csi_keeper.specs.Totals.{total_of, the_total, more, less, AreTotals}
use Rattle.csi_keeper.specs.facts.Sums.{added_sum, added_count, taken_sum, taken_count}

total_more : (t : Total) (n b m : ℕ) → t ≡ the_total n b → more t m ≡ the_total (1 + n) (m + b)
total_more t n b m e = ap (λ (x : Total). more x m) e ∙ ap₂ the_total (omega arith) (omega arith)

total_less : (t : Total) (n b m : ℕ) → t ≡ the_total (1 + n) (m + b) → less t m ≡ the_total n b
total_less t n b m e = ap (λ (x : Total). less x m) e ∙ ap₂ the_total (omega arith) (omega arith)

-- if two names are the same pool, their totals are the same
moved : (pools : Totals) (s : State) (one other : Text) → same_text one other ≡ true → AreTotals pools s
    → total_of pools one ≡ the_total (length (sizes s other)) (sum (sizes s other))
moved pools s one other t totals = subst (λ (p : Text). total_of pools one ≡ the_total (length (sizes s p)) (sum (sizes s p)))
    ((bytes_decides one other).0 t) (totals one)

pub totals_added : (pools kept : Totals) (s : State) (v : Volume) → fin.get s.volumes v.number ≡ None → AreTotals pools s
    → ((q : Text) → total_of kept q ≡ cond (same_text v.pool q) (more (total_of pools v.pool) v.bytes) (total_of pools q))
    → AreTotals kept (changed s (AddVolume v))
totals_added pools kept s v none totals is pool = is pool ∙ total (same_text v.pool pool) refl
  where
    total : (b : Bool) → same_text v.pool pool ≡ b
        → cond b (more (total_of pools v.pool) v.bytes) (total_of pools pool)
        ≡ the_total (length (sizes (changed s (AddVolume v)) pool)) (sum (sizes (changed s (AddVolume v)) pool))
    total true t =
        total_more (total_of pools v.pool) (length (sizes s pool)) (sum (sizes s pool)) v.bytes (moved pools s v.pool pool t totals)
        ∙ sym (ap₂ the_total (added_count s v pool none ∙ ap (λ b. cond b 1 0 + length (sizes s pool)) t)
        (added_sum s v pool none ∙ ap (λ b. cond b v.bytes 0 + sum (sizes s pool)) t))
    total false t =
        let a = added_count s v pool none ∙ ap (λ (b : Bool). cond {A = ℕ} b 1 0 + length (sizes s pool)) t in
        let b = added_sum s v pool none ∙ ap (λ (b : Bool). cond {A = ℕ} b v.bytes 0 + sum (sizes s pool)) t in
        let n : length (sizes s pool) ≡ length (sizes (changed s (AddVolume v)) pool) = omega (arith, a) in
        let m : sum (sizes s pool) ≡ sum (sizes (changed s (AddVolume v)) pool) = omega (arith, b) in
        totals pool ∙ ap₂ the_total n m

pub totals_removed : (pools kept : Totals) (s : State) (n : ℕ) (v : Volume) → fin.get s.volumes n ≡ Some v → AreTotals pools s
    → ((q : Text) → total_of kept q ≡ cond (same_text v.pool q) (less (total_of pools v.pool) v.bytes) (total_of pools q))
    → AreTotals kept (changed s (RemoveVolume n))
totals_removed pools kept s n v some totals is pool = is pool ∙ total (same_text v.pool pool) refl
  where
    total : (b : Bool) → same_text v.pool pool ≡ b
        → cond b (less (total_of pools v.pool) v.bytes) (total_of pools pool)
        ≡ the_total (length (sizes (changed s (RemoveVolume n)) pool)) (sum (sizes (changed s (RemoveVolume n)) pool))
    total true t =
        total_less (total_of pools v.pool) _ _ v.bytes
        (moved pools s v.pool pool t totals
        ∙ ap₂ the_total (taken_count s n v pool some ∙ ap (λ b. cond b 1 0 + length (sizes (changed s (RemoveVolume n)) pool)) t)
        (taken_sum s n v pool some ∙ ap (λ b. cond b v.bytes 0 + sum (sizes (changed s (RemoveVolume n)) pool)) t))
    total false t =
        let a = taken_count s n v pool some ∙ ap (λ (b : Bool). cond {A = ℕ} b 1 0 + length (sizes (changed s (RemoveVolume n)) pool)) t in
        let b = taken_sum s n v pool some ∙ ap (λ (b : Bool). cond {A = ℕ} b v.bytes 0 + sum (sizes (changed s (RemoveVolume n)) pool)) t in
        let x : length (sizes s pool) ≡ length (sizes (changed s (RemoveVolume n)) pool) = omega (arith, a) in
        let y : sum (sizes s pool) ≡ sum (sizes (changed s (RemoveVolume n)) pool) = omega (arith, b) in
        totals pool ∙ ap₂ the_total x y
