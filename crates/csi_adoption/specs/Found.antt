-- The volumes of a State that rows of volumes represent if they pass.
use Rattle.std.specs.Prelude.{◌≡◌, ℕ, ◌≤◌, bytes_eq, List, Some, filter, length, map, sum, sum_by}
use Rattle.std.specs.FinMap.{FinMap, empty, entries, get, len, values}
use Rattle.std.specs.List.{AllByRecursion}
use Rattle.std.specs.Ordering.{nat_cmp}
use Rattle.sqlite.specs.Order.{Row}
use Rattle.csi_types.specs.declared.limits.TheConstants.{MAX_VOLUMES}
use Rattle.csi_config.specs.Values.{Has}
use Rattle.csi_config.specs.declared.config.Config.{Config}
use Rattle.csi_config.specs.declared.pools.Pool.{Pool}
use Rattle.csi_keeper.specs.Invariant.{IsVolume}
use Rattle.csi_keeper.specs.declared.volume.Volume.{Volume}
use Rattle.csi_sql.specs.declared.formats.TheConstants.{FIRST_FORMAT}
use Rattle.csi_constraints.specs.Folds.{added_by}
use Rattle.csi_constraints.specs.declared.sums.Weight.TheVariants.{Number, One}
use Rattle.csi_columns.specs.Entries.{volume_entry}
use Rattle.csi_tables.specs.Holding.{IsStored}
use Rattle.csi_adoption.specs.declared.meta.Meta.{Meta}

-- the sizes of a pool's volumes, if a State has these volumes
abbrev pub sizes_of : FinMap nat_cmp Volume → List ℕ → List ℕ
sizes_of volumes pool = map (λ v. v.bytes) (filter (λ v. bytes_eq v.pool pool) (values volumes))

pub record FoundVolumes (config : Config) (m : Meta) (rows : List Row) : Type 0 where
  pub volumes : FinMap nat_cmp Volume
  pub listed : map volume_entry (entries volumes) ≡ rows
  pub stored : AllByRecursion IsStored (entries volumes)
  -- tables of the first format have no mutable parameters
  pub unmodified : m.format ≡ FIRST_FORMAT → AllByRecursion (λ e. e.1.mutable ≡ empty) (entries volumes)
  pub each : (n : ℕ) (v : Volume) → get volumes n ≡ Some v → IsVolume config m.next n v
  pub names : (m n : ℕ) (v w : Volume) → get volumes m ≡ Some v → get volumes n ≡ Some w → v.name ≡ w.name → m ≡ n
  pub few : len volumes ≤ MAX_VOLUMES
  -- the sums reported for a pool are the sums of its volumes
  pub counted : (pool : List ℕ) → length (sizes_of volumes pool) ≡ sum_by (added_by 3 pool One) rows
  pub summed : (pool : List ℕ) → sum (sizes_of volumes pool) ≡ sum_by (added_by 3 pool (Number 2)) rows
  pub rooms : (p : Pool) → Has config.pools p → sum (sizes_of volumes p.name) ≤ p.bytes
