-- Rows of volumes that pass are the rows of a State's volumes.
use Rattle.std.proofs.Common.{◌≡◌, ◌∙◌, sym, ap, subst, ℕ, ◌≤◌, pos, List, map, length, sum, sum_by, Some, None, Less, arith}
use Rattle.std.specs.FinMap.{FinMap, empty, entries, entries-from_sorted, from_sorted, get, get-entries, len-entries}
use Rattle.std.specs.List.{AllByRecursion}
use Rattle.std.specs.Ordering.{int_cmp, nat_cmp}
use Rattle.std.proofs.lemmas.Bool.Decides.{nat_tests}
use Rattle.std.proofs.lemmas.List.{length-map}
use Rattle.sqlite.specs.declared.types.Value.TheVariants.{Text}
use Rattle.sqlite.specs.Order.{Row, column, value_cmp}
use Rattle.sqlite.specs.Tree.{IsAscending, Trees}
use Rattle.sqlite_catalog.specs.Listing.{IsSound}
use Rattle.sqlite_rules.specs.Lists.{Has}
use Rattle.sqlite_rules.proofs.ListLemmas.{all_from, all_has, test_has}
use Rattle.sqlite_rules.proofs.ProbeLemmas.{has_mapped, mapped_has}
use Rattle.sqlite_trees.proofs.ListLemmas.{ascending_from_map, ascending_weaker}
use Rattle.sqlite_value.proofs.OrderLemmas.{value_cmp-Int}
use Rattle.csi_tables.specs.facts.Entries.{has_permuted}
use Rattle.csi_types.specs.declared.limits.TheConstants.{MAX_NUMBER}
use Rattle.csi_config.specs.declared.config.Config.{Config}
use Rattle.csi_keeper.specs.Invariant.{IsVolume}
use Rattle.csi_keeper.specs.declared.volume.Volume.{Volume}
use Rattle.csi_sql.specs.Rows.{number_value, seen_volume}
use Rattle.csi_sql.specs.Tables.{schema}
use Rattle.csi_sql.specs.declared.formats.TheConstants.{FIRST_FORMAT}
use Rattle.csi_constraints.specs.Folds.{IsRising, added_by}
use Rattle.csi_constraints.specs.Scans.{IsInOrder}
use Rattle.csi_constraints.specs.declared.sums.Weight.TheVariants.{Number, One}
use Rattle.csi_columns.specs.Entries.{volume_entry}
use Rattle.csi_tables.specs.Holding.{IsStored}
use Rattle.csi_constraints.specs.Agreement.{VolumeAgrees}
use Rattle.csi_adoption.specs.Found.{FoundVolumes, sizes_of}
use Rattle.csi_adoption.specs.Passing.{VolumesAreKnown, VolumesPass}
use Rattle.csi_adoption.specs.declared.meta.Meta.{Meta}
use Rattle.csi_adoption.proofs.VolumeMapLemmas.{found_has, sorted}
use Rattle.csi_adoption.proofs.VolumeNameLemmas.{one_name}
use Rattle.csi_adoption.proofs.VolumeRowLemmas.{AreEntries, IsEntry, row_entry, rows_entries}
use Rattle.csi_adoption.proofs.VolumeSumLemmas.{all_of, count_of, sum_of}

number_less : (a b : ℕ) → value_cmp (number_value a) (number_value b) ≡ Less → nat_cmp a b ≡ Less
number_less a b e = go (sym (value_cmp-Int (pos a) (pos b)) ∙ e)
  where
    go : int_cmp (pos a) (pos b) ≡ Less → nat_cmp a b ≡ Less
    go e = grind (arith, nat_tests)

-- the numbers of entries rise if the rows do
rising_entries : (es : List (ℕ × Volume)) (rows : List Row) → map volume_entry es ≡ rows → IsRising 0 None rows → IsAscending (λ a b. nat_cmp a.0 b.0 ≡ Less) es
rising_entries es rows is up =
    let values = subst (λ rs. IsAscending (λ a b. value_cmp a b ≡ Less) (map (λ r. column r 0) rs)) (sym is) up.rising in
    let keys = ascending_from_map (λ a b. value_cmp (column a 0) (column b 0) ≡ Less) volume_entry es (ascending_from_map (λ a b. value_cmp a b ≡ Less) (λ r. column r 0) (map volume_entry es) values) in
    ascending_weaker (λ (a : ℕ × Volume) (b : ℕ × Volume). value_cmp (number_value a.0) (number_value b.0) ≡ Less) (λ a b. nat_cmp a.0 b.0 ≡ Less) (λ a b e. number_less a.0 b.0 e) es keys

module _ (config : Config) (m : Meta) (db : Trees) (rows : List Row) (agrees : (e : ℕ × Volume) → VolumeAgrees config m.format m.next e) (sound : IsSound schema db) (order : IsInOrder (map seen_volume (db 1)) rows) (pass : VolumesPass config m rows) where
  -- a row that is seen is a row of the table
  seen_row : (r : Row) → Has rows r → (t : Row) × Has (db 1) t × (r ≡ seen_volume t)
  seen_row r has = has_mapped seen_volume (db 1) r (has_permuted (map seen_volume (db 1)) rows r order.same has)

  each_entry : m.next ≤ MAX_NUMBER → VolumesAreKnown rows → AllByRecursion (λ r. (e : ℕ × Volume) × IsEntry r e) rows
  each_entry low known = all_from _ rows (λ r has.
      let t = seen_row r has in
      row_entry m.format m.next low r t.0 t.2 (test_has _ rows r pass.kinds has) (test_has _ rows r pass.numbers has) (test_has _ rows r pass.sizes has) (test_has _ rows r pass.caps has) (test_has _ rows r pass.params has)
      (all_has _ rows r known.caps has) (all_has _ rows r known.params has))

  module _ (volumes : FinMap nat_cmp Volume) (are : AreEntries rows (entries volumes)) where
    has_entry : (n : ℕ) (v : Volume) → get volumes n ≡ Some v → Has (entries volumes) (n, v)
    has_entry n v e = found_has n v (entries volumes) (sym (get-entries volumes n) ∙ e)

    has_row : (n : ℕ) (v : Volume) → get volumes n ≡ Some v → Has rows (volume_entry (n, v))
    has_row n v e = subst (λ rs. Has rs (volume_entry (n, v))) are.listed (mapped_has volume_entry (entries volumes) (n, v) (has_entry n v e))

    is_volume : (n : ℕ) (v : Volume) → get volumes n ≡ Some v → IsVolume config m.next n v
    is_volume n v e =
        let has = has_entry n v e in
        let row = has_row n v e in
        let stored = all_has IsStored (entries volumes) (n, v) are.stored has in
        let agree = agrees (n, v) in
        record {
          number = stored.number;
          given = agree.number.0 (test_has _ rows _ pass.numbers row);
          name = (agree.name stored.name).0 (test_has _ rows _ pass.names row);
          pool = agree.pool.0 (test_has _ rows _ pass.pools row);
          bytes = agree.bytes.0 (test_has _ rows _ pass.sizes row);
          caps = (agree.caps stored.caps).0 (test_has _ rows _ pass.caps row);
          params = ((agree.params stored.params).0 (test_has _ rows _ pass.params row)).0;
          mutable = ((agree.params stored.params).0 (test_has _ rows _ pass.params row)).1;
        }

    names_apart : (m n : ℕ) (v w : Volume) → get volumes m ≡ Some v → get volumes n ≡ Some w → v.name ≡ w.name → m ≡ n
    names_apart m n v w p q same =
        let a = seen_row (volume_entry (m, v)) (has_row m v p) in
        let b = seen_row (volume_entry (n, w)) (has_row n w q) in
        one_name db sound a.0 b.0 a.1 b.1 m n w.name (sym (ap (λ r. column r 0) a.2)) (sym (ap (λ r. column r 0) b.2)) (sym (ap (λ r. column r 1) a.2) ∙ ap Text same) (sym (ap (λ r. column r 1) b.2))

    -- volumes have no mutable parameters in tables of the first format
    unmodified : m.format ≡ FIRST_FORMAT → AllByRecursion (λ e. e.1.mutable ≡ empty) (entries volumes)
    unmodified first = all_from (λ e. e.1.mutable ≡ empty) (entries volumes) (λ e has.
        let row : Has rows (volume_entry e) = subst (λ rs. Has rs (volume_entry e)) are.listed (mapped_has volume_entry (entries volumes) e has) in
        let stored = all_has IsStored (entries volumes) e are.stored has in
        (((agrees e).params stored.params).0 (test_has _ rows _ pass.params row)).2 first)

    found_in : FoundVolumes config m rows
    found_in =
        let long : length (map volume_entry (entries volumes)) ≡ length rows = ap length are.listed in
        record {
          volumes = volumes;
          listed = are.listed;
          stored = are.stored;
          unmodified = unmodified;
          each = is_volume;
          names = names_apart;
          few = omega (arith, long, len-entries volumes, length-map (entries volumes) volume_entry, pass.few);
          counted = λ pool. subst (λ rs. length (sizes_of volumes pool) ≡ sum_by (added_by 3 pool One) rs) are.listed (count_of (entries volumes) pool);
          summed = summed;
          rooms = λ p has. subst (λ n. n ≤ p.bytes) (sym (summed p.name)) (all_of (λ q. sum_by (added_by 3 q.name (Number 2)) rows ≤ q.bytes) config.pools p pass.rooms has);
        }
      where
        summed : (pool : List ℕ) → sum (sizes_of volumes pool) ≡ sum_by (added_by 3 pool (Number 2)) rows
        summed pool = subst (λ rs. sum (sizes_of volumes pool) ≡ sum_by (added_by 3 pool (Number 2)) rs) are.listed (sum_of (entries volumes) pool)

-- rows of volumes that pass are the rows of a State's volumes
pub volumes_found : ((config : Config) (format next : ℕ) (e : ℕ × Volume) → VolumeAgrees config format next e) → (config : Config) (m : Meta) (db : Trees) (rows : List Row) → m.next ≤ MAX_NUMBER → IsSound schema db → IsInOrder (map seen_volume (db 1)) rows
    → VolumesPass config m rows → VolumesAreKnown rows → FoundVolumes config m rows
volumes_found agrees config m db rows low sound order pass known =
    let found = rows_entries rows (each_entry config m db rows (agrees config m.format m.next) sound order pass low known) in
    let up = rising_entries found.0 rows found.1.listed known.rising in
    let same : entries (from_sorted {R = nat_cmp} found.0) ≡ found.0 = entries-from_sorted nat_cmp found.0 (sorted found.0 up) in
    found_in config m db rows (agrees config m.format m.next) sound order pass (from_sorted found.0) (subst (AreEntries rows) (sym same) found.1)
