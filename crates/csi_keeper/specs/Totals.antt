-- The number of a pool's volumes and the sum of their bytes, kept from change to change.
use Rattle.std.specs.Prelude.{◌≡◌, ℕ, ◌+◌, ◌-◌, ◌<◌, ◌^◌, List, Option, Some, None, length, sum}
use Rattle.std.specs.BTreeMap.{is_at}
use Rattle.std.specs.Map.{lookup}
use Rattle.csi_keeper.specs.declared.change.Usage.{Usage}
use Rattle.csi_keeper.specs.declared.totals.Total.{Total}
use Rattle.csi_keeper.specs.declared.totals.Totals.{Totals}
use Rattle.csi_keeper.specs.State.{State, sizes, up_to_u64}
use Rattle.csi_keeper.specs.Texts.{Text, text_cmp}

abbrev pub the_total : ℕ → ℕ → Total
the_total volumes bytes = record { volumes = volumes; bytes = bytes }

abbrev pub zero_total : Total
zero_total = the_total 0 0

abbrev pub or_zero : Option Total → Total
or_zero None = zero_total
or_zero (Some t) = t

-- the total of a pool among entries; 0 if it has none
abbrev pub total_at : List (Text × Total) → Text → Total
total_at es pool = or_zero (lookup (is_at (text_cmp pool)) es)

-- the total of a pool
abbrev pub total_of : Totals → Text → Total
total_of t pool = total_at t.tree.entries pool

-- the total with one more volume of this size
abbrev pub more : Total → ℕ → Total
more t bytes = the_total (t.volumes + 1) (t.bytes + bytes)

-- the total with one volume of this size less
abbrev pub less : Total → ℕ → Total
less t bytes = the_total (t.volumes - 1) (t.bytes - bytes)

-- one more volume of this size fits in the total
abbrev pub HasRoom : Total → ℕ → Type 0
HasRoom t bytes = (t.volumes + 1 < 2 ^ 64) × (t.bytes + bytes < 2 ^ 128)

-- the total as a usage: each number is at most the greatest u64
abbrev pub reported : Total → Usage
reported t = record { volumes = up_to_u64 t.volumes; bytes = up_to_u64 t.bytes }

-- the pool has an entry, so setting its total needs no memory
abbrev pub IsReserved : Totals → Text → Type 0
IsReserved t pool = (n : Total) × (lookup (is_at (text_cmp pool)) t.tree.entries ≡ Some n)

-- the total kept for each pool is the sum over its volumes
abbrev pub AreTotals : Totals → State → Type 0
AreTotals t s = (pool : Text) → total_of t pool ≡ the_total (length (sizes s pool)) (sum (sizes s pool))
