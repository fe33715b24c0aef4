-- Sums over rows that are reported up to 2^64 - 1.
use Rattle.std.proofs.Common.{◌≡◌, ℕ, ◌-◌, ◌^◌, ◌≤◌, ◌<◌, Bool, true, false, cond, List, [], ◌∷◌, length, sum_by, arith}
use Rattle.std.proofs.lemmas.List.Sums.{sum_by-cons}
use Rattle.sqlite.specs.Order.{Row, column}
use Rattle.csi_constraints.specs.Folds.{added_by, is_text, sum_after}
use Rattle.csi_constraints.specs.declared.sums.Weight.{Weight}
use Rattle.csi_constraints.specs.declared.sums.Weight.TheVariants.{One}

one_most : (b : Bool) → cond b 1 0 ≤ 1
one_most true = omega arith
one_most false = omega arith

module _ (at : ℕ) (text : List ℕ) where
  -- each row counts at most once
  pub count_few : (rows : List Row) → sum_by (added_by at text One) rows ≤ length rows
  count_few [] = omega arith
  count_few (r ∷ rows) = omega (arith, sum_by-cons (added_by at text One) r rows, one_most (is_text text (column r at)), count_few rows)

  module _ (weight : Weight) (rows : List Row) where
    pub sum_reported : sum_by (added_by at text weight) rows ≤ 2 ^ 64 - 1 → sum_after at text weight 0 rows ≡ sum_by (added_by at text weight) rows
    sum_reported low = omega (arith, low)

    -- for a bound below the greatest reportable number, the reported sum is within it exactly when the sum
    -- is
    pub room_reported : (most : ℕ) → sum_after at text weight 0 rows ≤ most → most < 2 ^ 64 - 1 → sum_by (added_by at text weight) rows ≤ most
    room_reported most reported low = omega (arith, reported, low)

    pub room_kept : (most : ℕ) → sum_by (added_by at text weight) rows ≤ most → sum_after at text weight 0 rows ≤ most
    room_kept most is = omega (arith, is)

  pub count_reported : (rows : List Row) → length rows ≤ 2 ^ 64 - 1 → sum_after at text One 0 rows ≡ sum_by (added_by at text One) rows
  count_reported rows low = sum_reported One rows (omega (arith, count_few rows, low))
