-- The findings of scans, and the fault of the rows: a fault of the row of meta, or of the first constraint
-- that is broken.
use Rattle.std.specs.Prelude.{◌≡◌, ◌≢◌, ◌⊎◌, ℕ, ◌-◌, ◌^◌, min, nat_le, ℤ, pos, negsuc, int_lt, Bool, false, not, ◌||◌, if◌then◌else◌, List, [], ◌∷◌}
use Rattle.std.specs.Prelude.{length, map, Option, Some, None, Result, Ok, Err, IfSome, IsPermutation}
use Rattle.std.specs.List.{AllByRecursion}
use Rattle.std.specs.Ordering.{int_eq}
use Rattle.sqlite.specs.Effect.{Database}
use Rattle.sqlite.specs.Order.{Row, column}
use Rattle.sqlite.specs.Tree.{Trees}
use Rattle.csi_types.specs.declared.limits.TheConstants.{MAX_NUMBER}
use Rattle.csi_config.specs.declared.config.Config.{Config}
use Rattle.csi_config.specs.declared.pools.Pool.{Pool}
use Rattle.csi_types.specs.Maps.{same_text}
use Rattle.csi_keeper.specs.Totals.{the_total, zero_total}
use Rattle.csi_keeper.specs.declared.totals.Total.{Total}
use Rattle.csi_sql.specs.Rows.{seen_meta, seen_volume}
use Rattle.csi_sql.specs.Tables.{schema}
use Rattle.csi_sql.specs.declared.formats.TheConstants.{FIRST_FORMAT, LATEST_FORMAT}
use Rattle.csi_constraints.specs.Folds.{IsRising, as_integer, sum_after}
use Rattle.csi_constraints.specs.Scans.{IsInOrder, keyed_attachment}
use Rattle.csi_constraints.specs.declared.sums.Weight.TheVariants.{Number, One}
use Rattle.csi_columns.specs.Encoding.{FitCaps, FitParams}
use Rattle.csi_constraints.specs.Apart.{apart_named}
use Rattle.csi_constraints.specs.Attachments.{has_flag, is_at_node}
use Rattle.csi_constraints.specs.Coded.{has_cap, has_caps, has_params, key_at, keys_at, params_at}
use Rattle.csi_constraints.specs.Joins.{is_owned}
use Rattle.csi_constraints.specs.Kinds.{has_attachment_kinds, has_volume_kinds}
use Rattle.csi_constraints.specs.Named.{named_out}
use Rattle.csi_constraints.specs.Volumes.{is_in_pools, is_named, is_numbered, is_sized}
use Rattle.csi_constraints.specs.declared.named.RowName.{RowName}
use Rattle.csi_adoption.specs.Faults.{all_faults, is_failure, table_faults}
use Rattle.csi_adoption.specs.Seen.{AttachmentsFound, VolumesFound, reported_attachments, reported_volumes}
use Rattle.csi_adoption.specs.declared.fault.AdoptFault.{AdoptFault}
use Rattle.csi_adoption.specs.declared.fault.AdoptFault.TheVariants.{Foreign, Newer}
use Rattle.csi_adoption.specs.declared.fault.Foreign.TheVariants as foreign
use Rattle.csi_adoption.specs.declared.seen.AttachmentsSeen.{AttachmentsSeen}
use Rattle.csi_adoption.specs.declared.seen.VolumesSeen.{VolumesSeen}
use Rattle.csi_adoption.specs.Passing.{Seen}
use Rattle.csi_adoption.specs.declared.adopting.TablesSeen.{TablesSeen}
use Rattle.csi_adoption.specs.declared.meta.Meta.{Meta}
use Rattle.csi_adoption.specs.declared.meta.MetaRow.{MetaRow}
use Rattle.csi_adoption.specs.declared.meta.MetaRows.{MetaRows}
use Rattle.csi_adoption.specs.declared.meta.MetaRows.TheVariants as meta

-- ---- the row of meta

abbrev pub integers_of : Row → MetaRow
integers_of r = record { key = as_integer (column r 0); format = as_integer (column r 1); next = as_integer (column r 2) }

abbrev pub with_row : MetaRows → Row → MetaRows
with_row meta.None r = meta.One (integers_of r)
with_row (meta.One m) r = meta.Many
with_row meta.Many r = meta.Many

abbrev pub with_rows : MetaRows → List Row → MetaRows
with_rows seen [] = seen
with_rows seen (r ∷ rows) = with_rows (with_row seen r) rows

abbrev pub no_meta : {X : Type 0} → Result X AdoptFault
no_meta = Err (Foreign foreign.Meta)

-- a next number of 1 to 2^62, and otherwise 0
abbrev pub valid_next : ℤ → ℕ
valid_next (pos n) = if nat_le n MAX_NUMBER then n else 0
valid_next (negsuc n) = 0

-- the first format, or otherwise the latest
abbrev pub valid_format : ℤ → ℕ
valid_format format = if int_eq format (pos FIRST_FORMAT) then FIRST_FORMAT else LATEST_FORMAT

-- the row of meta by its integers: the key must be 1, and the format one of the two
abbrev pub integers_judged : ℤ → ℤ → ℤ → Result Meta AdoptFault
integers_judged key format next =
    if not (int_eq key (pos 1)) || int_lt format (pos FIRST_FORMAT) then no_meta
    else (if int_lt (pos LATEST_FORMAT) format then Err (Newer format) else Ok (record { format = valid_format format; next = valid_next next }))

abbrev pub row_judged : Option ℤ → Option ℤ → Option ℤ → Result Meta AdoptFault
row_judged (Some key) (Some format) (Some next) = integers_judged key format next
row_judged (Some key) (Some format) None = no_meta
row_judged (Some key) None next = no_meta
row_judged None format next = no_meta

-- the format and the next number of the one row; the next number is 0 if it is not 1 to 2^62
abbrev pub meta_judged : MetaRows → Result Meta AdoptFault
meta_judged meta.None = no_meta
meta_judged (meta.One m) = row_judged m.key m.format m.next
meta_judged meta.Many = no_meta

-- ---- the findings of the scans

-- the first row that does not pass, named by the integer and the text of two columns
abbrev pub first_named : ℕ → ℕ → (Row → Bool) → List Row → Option RowName
first_named number text test rows = named_out number text test None rows

abbrev pub in_volumes : Config → Meta → List Row → VolumesFound
in_volumes config m rows = record {
  kinds = first_named 0 1 has_volume_kinds rows;
  number = first_named 0 1 (is_numbered m.next) rows;
  name = first_named 0 1 is_named rows;
  pool = first_named 0 1 (is_in_pools config.pools) rows;
  bytes = first_named 0 1 is_sized rows;
  caps = first_named 0 1 has_caps rows;
  params = first_named 0 1 (has_params m.format) rows;
  pool_bytes = map (λ p. sum_after 3 p.name (Number 2) 0 rows) config.pools;
  pool_volumes = map (λ p. sum_after 3 p.name One 0 rows) config.pools;
  rows = min (length rows) (2 ^ 64 - 1);
}

abbrev pub in_attachments : Config → List Row → AttachmentsFound
in_attachments config rows = record {
  kinds = first_named 0 2 has_attachment_kinds rows;
  cap = first_named 1 2 has_cap rows;
  readonly = first_named 1 2 has_flag rows;
  node = first_named 1 2 (is_at_node config.nodes) rows;
  node_volumes = map (λ m. sum_after 2 m.id One 0 rows) config.nodes;
}

-- the result of a scan over rows whose numbers rise, and whose blobs can be written again
pub record SeesVolumes (config : Config) (m : Meta) (rows : List Row) (seen : VolumesSeen) : Type 0 where
  pub format : seen.format ≡ m.format
  pub found : reported_volumes seen ≡ in_volumes config m rows
  pub rising : IsRising 0 None rows
  pub caps : seen.caps ≡ None → AllByRecursion (λ r. IfSome (keys_at 4 r) FitCaps) rows
  pub params : seen.params ≡ None → AllByRecursion (λ r. IfSome (params_at 5 r) (λ ms. FitParams ms.0 ms.1)) rows

pub record SeesAttachments (config : Config) (rows : List Row) (seen : AttachmentsSeen) : Type 0 where
  pub found : reported_attachments seen ≡ in_attachments config rows
  pub rising : IsRising 0 None rows
  pub cap : seen.cap ≡ None → AllByRecursion (λ r. IfSome (key_at 3 r) (λ key. FitCaps (key ∷ []))) rows

-- ---- the totals

-- the total of the pool with this name; zero if no pool has it
abbrev pub total_in : List Pool → List ℕ → List ℕ → List ℕ → Total
total_in (p ∷ pools) (n ∷ volumes) (b ∷ bytes) name = if same_text p.name name then the_total n b else total_in pools volumes bytes name
total_in pools volumes bytes name = zero_total

-- ---- answers

-- the rows of meta are refused with this fault
abbrev pub IsMetaFault : Trees → AdoptFault → Type 0
IsMetaFault db fault = (rows : List Row) × IsPermutation (map seen_meta (db 0)) rows × (meta_judged (with_rows meta.None rows) ≡ Err fault)

-- the rows of all tables, and the first constraint that they break, if they break one
pub record AreJudged (config : Config) (db : Trees) (fault : Option AdoptFault) : Type 0 where
  pub row : Meta
  pub meta_rows : List Row
  pub volume_rows : List Row
  pub attachment_rows : List Row
  pub owner_rows : List Row
  pub place_rows : List Row
  pub seen : Seen db meta_rows volume_rows attachment_rows owner_rows place_rows
  pub meta_is : meta_judged (with_rows meta.None meta_rows) ≡ Ok row
  pub fault_is : all_faults config row.next (in_volumes config row volume_rows) (in_attachments config attachment_rows)
      (first_named 0 1 is_owned owner_rows) (apart_named place_rows) ≡ fault

-- the fault of this database: it has other tables, or its rows break this constraint first
abbrev pub IsFaultOf : Config → Database → AdoptFault → Type 0
IsFaultOf config db fault = ((db.schema ≢ schema) × (fault ≡ Foreign foreign.Schema))
    ⊎ ((db.schema ≡ schema) × (IsMetaFault db.trees fault ⊎ AreJudged config db.trees (Some fault)))

-- the rows of volumes and attachments break no constraint
pub record ArePassed (config : Config) (db : Trees) (seen : VolumesSeen) : Type 0 where
  pub judged : AreJudged config db None
  pub volumes : SeesVolumes config judged.row judged.volume_rows seen
  pub attachments : AttachmentsSeen
  pub placed : SeesAttachments config judged.attachment_rows attachments

abbrev pub JudgesRows : Config → Trees → Result VolumesSeen AdoptFault → Type 0
JudgesRows config db (Ok seen) = ArePassed config db seen
JudgesRows config db (Err e) = is_failure e ≡ false → IsMetaFault db e ⊎ AreJudged config db (Some e)

-- the result of reading the row of meta
abbrev pub SeesRow : Trees → Result Meta AdoptFault → Type 0
SeesRow db (Ok row) = (rows : List Row) × IsPermutation (map seen_meta (db 0)) rows × (meta_judged (with_rows meta.None rows) ≡ Ok row)
SeesRow db (Err e) = is_failure e ≡ false → IsMetaFault db e

-- the rows of volumes and of attachments, and the results of the scans over them
pub record TablesAreSeen (config : Config) (m : Meta) (db : Trees) (tables : TablesSeen) : Type 0 where
  pub volume_rows : List Row
  pub attachment_rows : List Row
  pub volumes : IsInOrder (map seen_volume (db 1)) volume_rows
  pub attachments : IsInOrder (map keyed_attachment (db 3)) attachment_rows
  pub sees : SeesVolumes config m volume_rows tables.volumes
  pub placed : SeesAttachments config attachment_rows tables.attachments

-- the volumes that were seen, unless a constraint is broken
abbrev pub volumes_unless : TablesSeen → Result (Unit {0}) AdoptFault → Result VolumesSeen AdoptFault
volumes_unless tables (Ok fine) = Ok tables.volumes
volumes_unless tables (Err e) = Err e

-- the rows are judged, if the rows of each table alone break no constraint and the row of meta is `m`
abbrev pub JudgesJoined : Config → Trees → Meta → TablesSeen → Result (Unit {0}) AdoptFault → Type 0
JudgesJoined config db m tables result = TablesAreSeen config m db tables
    → table_faults config m.next (reported_volumes tables.volumes) (reported_attachments tables.attachments) ≡ None
    → (rows : List Row) → IsPermutation (map seen_meta (db 0)) rows → meta_judged (with_rows meta.None rows) ≡ Ok m
    → JudgesRows config db (volumes_unless tables result)

-- the rows are judged, if the scans had these results and the row of meta is `m`
abbrev pub JudgesSeen : Config → Trees → Meta → TablesSeen → Result (Unit {0}) AdoptFault → Type 0
JudgesSeen config db m tables result = TablesAreSeen config m db tables
    → (rows : List Row) → IsPermutation (map seen_meta (db 0)) rows → meta_judged (with_rows meta.None rows) ≡ Ok m
    → JudgesRows config db (volumes_unless tables result)

-- the rows are judged, if the row of meta is `m`
abbrev pub JudgesAfter : Config → Trees → Meta → Result VolumesSeen AdoptFault → Type 0
JudgesAfter config db m result = (rows : List Row) → IsPermutation (map seen_meta (db 0)) rows → meta_judged (with_rows meta.None rows) ≡ Ok m
    → JudgesRows config db result
