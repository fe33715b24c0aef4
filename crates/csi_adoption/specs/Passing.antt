-- The rows that scans over the tables must show for adoption.
use Rattle.std.specs.Prelude.{◌≡◌, ◌≤◌, true, List, None, IfSome, IsPermutation, [], ◌∷◌, length, map, sum_by}
use Rattle.std.specs.List.{AllByRecursion, list_all}
use Rattle.sqlite.specs.Order.{Row}
use Rattle.sqlite.specs.Tree.{Trees}
use Rattle.csi_types.specs.declared.limits.TheConstants.{MAX_NUMBER, MAX_VOLUMES}
use Rattle.csi_config.specs.declared.config.Config.{Config}
use Rattle.csi_sql.specs.Rows.{meta_row, seen_attachment, seen_meta, seen_volume}
use Rattle.csi_constraints.specs.Folds.{IsRising, added_by}
use Rattle.csi_constraints.specs.Scans.{IsInOrder, keyed_attachment, owners}
use Rattle.csi_constraints.specs.declared.sums.Weight.TheVariants.{Number, One}
use Rattle.csi_columns.specs.Encoding.{FitCaps, FitParams}
use Rattle.csi_constraints.specs.Apart.{NoneApart}
use Rattle.csi_constraints.specs.Attachments.{has_flag, is_at_node}
use Rattle.csi_constraints.specs.Coded.{has_cap, has_caps, has_params, key_at, keys_at, params_at}
use Rattle.csi_constraints.specs.Joins.{is_owned}
use Rattle.csi_constraints.specs.Kinds.{has_attachment_kinds, has_volume_kinds}
use Rattle.csi_constraints.specs.Volumes.{is_in_pools, is_named, is_numbered, is_sized}
use Rattle.csi_adoption.specs.declared.meta.Meta.{Meta}

-- the rows of volumes meet each constraint of their own
pub record VolumesPass (config : Config) (m : Meta) (rows : List Row) : Type 0 where
  pub kinds : list_all has_volume_kinds rows ≡ true
  pub numbers : list_all (is_numbered m.next) rows ≡ true
  pub names : list_all is_named rows ≡ true
  pub pools : list_all (is_in_pools config.pools) rows ≡ true
  pub sizes : list_all is_sized rows ≡ true
  -- no pool is overcommitted
  pub rooms : AllByRecursion (λ p. sum_by (added_by 3 p.name (Number 2)) rows ≤ p.bytes) config.pools
  pub caps : list_all has_caps rows ≡ true
  pub params : list_all (has_params m.format) rows ≡ true
  pub few : length rows ≤ MAX_VOLUMES

-- the numbers are in strictly rising order, and the blobs can be written again
pub record VolumesAreKnown (rows : List Row) : Type 0 where
  pub rising : IsRising 0 None rows
  pub caps : AllByRecursion (λ r. IfSome (keys_at 4 r) FitCaps) rows
  pub params : AllByRecursion (λ r. IfSome (params_at 5 r) (λ ms. FitParams ms.0 ms.1)) rows

-- the rows of attachments, with their rowids in front, meet each constraint of their own
pub record AttachmentsPass (config : Config) (rows : List Row) : Type 0 where
  pub kinds : list_all has_attachment_kinds rows ≡ true
  pub caps : list_all has_cap rows ≡ true
  pub flags : list_all has_flag rows ≡ true
  pub nodes : list_all (is_at_node config.nodes) rows ≡ true
  -- no node has more attachments than it may have
  pub counts : AllByRecursion (λ m. sum_by (added_by 2 m.id One) rows ≤ m.max_volumes) config.nodes

-- the rowids are in strictly rising order, and the blobs can be written again
pub record AttachmentsAreKnown (rows : List Row) : Type 0 where
  pub rising : IsRising 0 None rows
  pub caps : AllByRecursion (λ r. IfSome (key_at 3 r) (λ key. FitCaps (key ∷ []))) rows

-- the rows that five scans over the tables show
pub record Seen (db : Trees) (meta_rows volume_rows attachment_rows owner_rows place_rows : List Row) : Type 0 where
  pub meta : IsPermutation (map seen_meta (db 0)) meta_rows
  pub volumes : IsInOrder (map seen_volume (db 1)) volume_rows
  pub attachments : IsInOrder (map keyed_attachment (db 3)) attachment_rows
  pub owned : IsInOrder (owners (db 3) (db 1)) owner_rows
  pub places : IsInOrder (map seen_attachment (db 3)) place_rows

-- the rows meet every constraint
pub record Pass (config : Config) (m : Meta) (meta_rows volume_rows attachment_rows owner_rows place_rows : List Row) : Type 0 where
  pub meta : meta_rows ≡ meta_row m.format m.next ∷ []
  pub next : (1 ≤ m.next) × (m.next ≤ MAX_NUMBER)
  pub volumes : VolumesPass config m volume_rows
  pub attachments : AttachmentsPass config attachment_rows
  pub owned : list_all is_owned owner_rows ≡ true
  pub beside : NoneApart place_rows
