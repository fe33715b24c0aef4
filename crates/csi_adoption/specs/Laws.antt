-- Laws of adoption.
use Rattle.std.specs.Prelude.{None, ℕ, ◌≡◌, ◌↔◌, ◌≤◌, ◌<◌, ◌^◌, ◌-◌, [], ◌∷◌, List, map, length, sum, sum_by, IsPermutation}
use Rattle.sqlite.specs.Order.{Row}
use Rattle.sqlite.specs.Tree.{Trees}
use Rattle.sqlite_catalog.specs.Listing.{IsSound}
use Rattle.csi_types.specs.declared.limits.TheConstants.{MAX_NUMBER}
use Rattle.csi_config.specs.Values.{Has}
use Rattle.csi_config.specs.declared.config.Config.{Config}
use Rattle.csi_config.specs.declared.pools.Pool.{Pool}
use Rattle.csi_keeper.specs.Invariant.{IsInvariant}
use Rattle.csi_keeper.specs.Lookup.{pool_named}
use Rattle.csi_keeper.specs.State.{State}
use Rattle.csi_keeper.specs.Totals.{the_total}
use Rattle.csi_sql.specs.Rows.{meta_row, seen_meta, seen_volume}
use Rattle.csi_sql.specs.Tables.{schema}
use Rattle.csi_constraints.specs.Folds.{added_by, sum_after}
use Rattle.csi_constraints.specs.Scans.{IsInOrder}
use Rattle.csi_constraints.specs.declared.sums.Weight.{Weight}
use Rattle.csi_constraints.specs.declared.sums.Weight.TheVariants.{Number, One}
use Rattle.csi_tables.specs.Holding.{IsRowsIn, IsRowsOf}
use Rattle.csi_adoption.specs.Found.{FoundVolumes, sizes_of}
use Rattle.csi_adoption.specs.Judging.{in_volumes, total_in}
use Rattle.csi_adoption.specs.Passing.{VolumesAreKnown, VolumesPass}
use Rattle.csi_adoption.specs.declared.meta.Meta.{Meta}

-- rows of volumes that pass are the rows of a State's volumes
abbrev pub FindsVolumes : Type 0
FindsVolumes =
    (config : Config) (m : Meta) (db : Trees) (rows : List Row) → m.next ≤ MAX_NUMBER → IsSound schema db
    → IsInOrder (map seen_volume (db 1)) rows → VolumesPass config m rows → VolumesAreKnown rows → FoundVolumes config m rows

-- the rows of a State's volumes pass
abbrev pub PassesVolumes : Type 0
PassesVolumes =
    (config : Config) (format : ℕ) (s : State) (db : Trees) (rows : List Row) → IsRowsIn format s db → IsInvariant config s
    → IsInOrder (map seen_volume (db 1)) rows → VolumesPass config (record { format = format; next = s.next }) rows

-- the row of meta of a State has the format of the tables and the State's next number
abbrev pub PassesMeta : Type 0
PassesMeta =
    (config : Config) (format : ℕ) (s : State) (db : Trees) → IsRowsOf format s db → IsInvariant config s → (meta : List Row)
    → IsPermutation (map seen_meta (db 0)) meta → meta ≡ meta_row format s.next ∷ []

-- for rows that pass, the totals of a pool are the count and the bytes of its volumes
abbrev pub ReportsPools : Type 0
ReportsPools =
    (config : Config) (m : Meta) (rows : List Row) → VolumesPass config m rows → (p : Pool) → Has config.pools p → p.bytes < 2 ^ 64 - 1
    → (sum_after 3 p.name One 0 rows ≡ sum_by (added_by 3 p.name One) rows)
    × (sum_after 3 p.name (Number 2) 0 rows ≡ sum_by (added_by 3 p.name (Number 2)) rows)

-- no volume that was found has a pool that is not in the configuration
abbrev pub HasNoOtherPool : Type 0
HasNoOtherPool =
    (config : Config) (m : Meta) (rows : List Row) (found : FoundVolumes config m rows) (pool : List ℕ)
    → pool_named config.pools pool ≡ None → sizes_of found.volumes pool ≡ []

-- the totals reported for the pools are the totals found in the rows
abbrev pub FindsTotals : Type 0
FindsTotals =
    (config : Config) (m : Meta) (rows : List Row) → VolumesPass config m rows → ((p : Pool) → Has config.pools p → p.bytes < 2 ^ 64 - 1)
    → (found : FoundVolumes config m rows) (name : List ℕ)
    → total_in config.pools (in_volumes config m rows).pool_volumes (in_volumes config m rows).pool_bytes name
    ≡ the_total (length (sizes_of found.volumes name)) (sum (sizes_of found.volumes name))

-- a count of at most 2^64 - 1 rows is reported exactly
abbrev pub ReportsCounts : Type 0
ReportsCounts =
    (at : ℕ) (text : List ℕ) (rows : List Row) → length rows ≤ 2 ^ 64 - 1 → sum_after at text One 0 rows ≡ sum_by (added_by at text One) rows

-- a bound below 2^64 - 1 holds for a reported sum exactly if it holds for the sum itself
abbrev pub ReportsRooms : Type 0
ReportsRooms =
    (at : ℕ) (text : List ℕ) (weight : Weight) (rows : List Row) (most : ℕ) → most < 2 ^ 64 - 1
    → (sum_after at text weight 0 rows ≤ most) ↔ (sum_by (added_by at text weight) rows ≤ most)
