-- The rows of a State's volumes pass.
use Rattle.std.proofs.Common.{◌≡◌, ◌∙◌, inl, inr, refl, sym, subst, ℕ, ◌≤◌, Bool, true, List, [], ◌∷◌, map, sum_by, IsPermutation, arith}
use Rattle.std.specs.Cmp.{nat_cmp_total}
use Rattle.std.specs.FinMap.{empty, entries, len-entries, nat_cmp-IsAntisymmetric}
use Rattle.std.specs.List.{AllByRecursion, list_all}
use Rattle.std.proofs.lemmas.List.{length-map}
use Rattle.std.proofs.lemmas.List.Sorted.{IsPermutation-trans, length_permutation, sum_by-IsPermutation}
use Rattle.sqlite.specs.Order.{Row}
use Rattle.sqlite.specs.Tree.{Trees}
use Rattle.sqlite_rules.proofs.ListLemmas.{all_from, all_has, test_from}
use Rattle.sqlite_trees.proofs.ListLemmas.{all-map, all-permutation}
use Rattle.csi_config.specs.Values as configured
use Rattle.csi_config.specs.declared.config.Config.{Config}
use Rattle.csi_keeper.specs.Invariant.{IsInvariant, IsVolume}
use Rattle.csi_keeper.specs.State.{State}
use Rattle.csi_keeper.specs.declared.volume.Volume.{Volume}
use Rattle.csi_keeper.specs.facts.Finite.{all_entries}
use Rattle.csi_sql.specs.Rows.{seen_volume}
use Rattle.csi_sql.specs.declared.formats.TheConstants.{FIRST_FORMAT}
use Rattle.csi_constraints.specs.Folds.{added_by}
use Rattle.csi_constraints.specs.Scans.{IsInOrder}
use Rattle.csi_constraints.specs.declared.sums.Weight.TheVariants.{Number}
use Rattle.csi_columns.specs.Entries.{volume_entry}
use Rattle.csi_tables.specs.Holding.{IsRowsIn, IsStored}
use Rattle.csi_constraints.specs.Agreement.{VolumeAgrees}
use Rattle.csi_constraints.specs.Coded.{has_caps, has_params}
use Rattle.csi_constraints.specs.Kinds.{has_volume_kinds}
use Rattle.csi_constraints.specs.Volumes.{is_in_pools, is_named, is_numbered, is_sized}
use Rattle.csi_adoption.specs.Passing.{VolumesPass}
use Rattle.csi_adoption.proofs.VolumeSumLemmas.{sum_of}

-- a fact of each item of a configuration's list holds for the whole list
all_in : {X : Type 0} (P : X → Type 0) (xs : List X) → ((x : X) → configured.Has xs x → P x) → AllByRecursion P xs
all_in P [] each = tt
all_in P (x ∷ xs) each = (each x (inl refl), all_in P xs (λ y h. each y (inr h)))

-- an entry of a State
record IsGood (config : Config) (format next : ℕ) (e : ℕ × Volume) : Type 0 where
  pub volume : IsVolume config next e.0 e.1
  pub stored : IsStored e
  pub unmodified : format ≡ FIRST_FORMAT → e.1.mutable ≡ empty

module _ (agrees : (config : Config) (format next : ℕ) (e : ℕ × Volume) → VolumeAgrees config format next e) (config : Config) (format : ℕ) (s : State) (db : Trees) (rows : List Row) (are : IsRowsIn format s db) (inv : IsInvariant config s) (order : IsInOrder (map seen_volume (db 1)) rows) where
  permuted : IsPermutation (map volume_entry (entries s.volumes)) rows
  permuted = IsPermutation-trans _ _ _ are.0.volumes order.same

  good : AllByRecursion (IsGood config format s.next) (entries s.volumes)
  good =
      let volumes = all_entries nat_cmp_total nat_cmp-IsAntisymmetric (λ n v. IsVolume config s.next n v) s.volumes inv.volumes in
      all_from (IsGood config format s.next) (entries s.volumes) (λ e has. record {
        volume = all_has (λ (x : ℕ × Volume). IsVolume config s.next x.0 x.1) (entries s.volumes) e volumes has;
        stored = all_has IsStored (entries s.volumes) e are.0.storable.volumes has;
        unmodified = λ first. all_has (λ (x : ℕ × Volume). x.1.mutable ≡ empty) (entries s.volumes) e (are.1 first) has;
      })

  -- a test that each entry passes
  passes : (test : Row → Bool) → ((e : ℕ × Volume) → IsGood config format s.next e → test (volume_entry e) ≡ true) → list_all test rows ≡ true
  passes test each =
      let all = all_from (λ e. test (volume_entry e) ≡ true) (entries s.volumes) (λ e has. each e (all_has (IsGood config format s.next) (entries s.volumes) e good has)) in
      let there = all-permutation (λ r. test r ≡ true) (map volume_entry (entries s.volumes)) rows permuted (all-map (λ r. test r ≡ true) volume_entry (entries s.volumes) all) in
      test_from test rows (λ r has. all_has (λ r. test r ≡ true) rows r there has)

  pub volumes_pass : VolumesPass config (record { format = format; next = s.next }) rows
  volumes_pass = record {
    kinds = passes has_volume_kinds (λ e g. (agrees config format s.next e).kinds g.stored.name g.stored.pool);
    numbers = passes (is_numbered s.next) (λ e g. (agrees config format s.next e).number.1 g.volume.given);
    names = passes is_named (λ e g. ((agrees config format s.next e).name g.stored.name).1 g.volume.name);
    pools = passes (is_in_pools config.pools) (λ e g. (agrees config format s.next e).pool.1 g.volume.pool);
    sizes = passes is_sized (λ e g. (agrees config format s.next e).bytes.1 g.volume.bytes);
    rooms = all_in (λ p. sum_by (added_by 3 p.name (Number 2)) rows ≤ p.bytes) config.pools (λ p has.
        let reported = sum_by-IsPermutation (added_by 3 p.name (Number 2)) (map volume_entry (entries s.volumes)) rows permuted in
        let all = sum_of (entries s.volumes) p.name in
        let room = inv.rooms p has in
        subst (λ n. n ≤ p.bytes) (all ∙ sym reported) room);
    caps = passes has_caps (λ e g. ((agrees config format s.next e).caps g.stored.caps).1 g.volume.caps);
    params = passes (has_params format) (λ e g. ((agrees config format s.next e).params g.stored.params).1 (g.volume.params, g.volume.mutable, g.unmodified));
    few =
        let long = length_permutation (map volume_entry (entries s.volumes)) rows permuted in
        let few = inv.few in
        omega (arith, long, few, len-entries s.volumes, length-map (entries s.volumes) volume_entry);
  }
