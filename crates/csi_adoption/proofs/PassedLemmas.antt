-- Rows that break no constraint pass all, and rows that pass break none.
use Rattle.std.proofs.Common.{◌≡◌, refl, ap, ℕ, ◌-◌, ◌^◌, ◌≤◌, ◌<◌, Bool, true, List, [], ◌∷◌, length, Option, None, sum_by}
use Rattle.std.specs.List.{AllByRecursion, list_all}
use Rattle.std.specs.Option.{option_map}
use Rattle.sqlite.specs.Order.{Row}
use Rattle.csi_config.specs.declared.config.Config.{Config}
use Rattle.csi_config.specs.declared.nodes.Node.{Node}
use Rattle.csi_config.specs.declared.pools.Pool.{Pool}
use Rattle.csi_constraints.specs.Folds.{added_by, sum_after}
use Rattle.csi_constraints.specs.declared.sums.Weight.TheVariants.{Number, One}
use Rattle.csi_constraints.specs.Apart.{apart_named, NoneApart}
use Rattle.csi_constraints.specs.Joins.{is_owned}
use Rattle.csi_constraints.specs.declared.named.RowName.{RowName}
use Rattle.csi_constraints.specs.facts.Aparts.{none_unnamed, unnamed_none}
use Rattle.csi_adoption.specs.Faults.{all_faults, code_faults, count_faults, kinds_faults, next_fault, number_faults, owner_fault, size_faults, table_faults}
use Rattle.csi_adoption.specs.Seen.{AttachmentsFound, VolumesFound}
use Rattle.csi_adoption.specs.Judging.{first_named, in_attachments, in_volumes}
use Rattle.csi_adoption.specs.Passing.{AttachmentsPass, VolumesPass}
use Rattle.csi_adoption.specs.declared.meta.Meta.{Meta}
use Rattle.csi_adoption.proofs.JudgingLemmas.{all_roomy, all_unnamed, few_rows, is_next, rows_few, no_next_fault, none_both, none_first, none_full, none_named, unmapped}
use Rattle.csi_adoption.proofs.SumLemmas.{room_kept, room_reported}

-- the conditions of all constraints of the rows after meta
pub record RowsPass (config : Config) (m : Meta) (volume_rows attachment_rows owner_rows place_rows : List Row) : Type 0 where
  pub volumes : VolumesPass config m volume_rows
  pub attachments : AttachmentsPass config attachment_rows
  pub owned : list_all is_owned owner_rows ≡ true
  pub beside : NoneApart place_rows

-- sums that fit in a u64, if no pool and no node can have 2^64 - 1
pub record IsSmall (config : Config) : Type 0 where
  pub pools : AllByRecursion (λ p. p.bytes < 2 ^ 64 - 1) config.pools
  pub nodes : AllByRecursion (λ m. m.max_volumes < 2 ^ 64 - 1) config.nodes

reported_pools : (rows : List Row) (pools : List Pool) → AllByRecursion (λ p. p.bytes < 2 ^ 64 - 1) pools → AllByRecursion (λ p. sum_after 3 p.name (Number 2) 0 rows ≤ p.bytes) pools
    → AllByRecursion (λ p. sum_by (added_by 3 p.name (Number 2)) rows ≤ p.bytes) pools
reported_pools rows [] small all = tt
reported_pools rows (p ∷ pools) small all = (room_reported 3 p.name (Number 2) rows p.bytes all.0 small.0, reported_pools rows pools small.1 all.1)

kept_pools : (rows : List Row) (pools : List Pool) → AllByRecursion (λ p. sum_by (added_by 3 p.name (Number 2)) rows ≤ p.bytes) pools → AllByRecursion (λ p. sum_after 3 p.name (Number 2) 0 rows ≤ p.bytes) pools
kept_pools rows [] all = tt
kept_pools rows (p ∷ pools) all = (room_kept 3 p.name (Number 2) rows p.bytes all.0, kept_pools rows pools all.1)

reported_nodes : (rows : List Row) (nodes : List Node) → AllByRecursion (λ m. m.max_volumes < 2 ^ 64 - 1) nodes → AllByRecursion (λ m. sum_after 2 m.id One 0 rows ≤ m.max_volumes) nodes
    → AllByRecursion (λ m. sum_by (added_by 2 m.id One) rows ≤ m.max_volumes) nodes
reported_nodes rows [] small all = tt
reported_nodes rows (m ∷ nodes) small all = (room_reported 2 m.id One rows m.max_volumes all.0 small.0, reported_nodes rows nodes small.1 all.1)

kept_nodes : (rows : List Row) (nodes : List Node) → AllByRecursion (λ m. sum_by (added_by 2 m.id One) rows ≤ m.max_volumes) nodes → AllByRecursion (λ m. sum_after 2 m.id One 0 rows ≤ m.max_volumes) nodes
kept_nodes rows [] all = tt
kept_nodes rows (m ∷ nodes) all = (room_kept 2 m.id One rows m.max_volumes all.0, kept_nodes rows nodes all.1)

mapped : {A B : Type 0} (f : A → B) (o : Option A) → o ≡ None → option_map f o ≡ None
mapped f o e = ap (option_map f) e

named : {B : Type 0} (f : RowName → B) (number text : ℕ) (test : Row → Bool) (rows : List Row) → list_all test rows ≡ true → option_map f (first_named number text test rows) ≡ None
named f number text test rows all = ap (option_map f) (all_unnamed number text test rows all)

module _ (config : Config) (small : IsSmall config) (volumes attachments owned places : List Row) where
  module _ (m : Meta) where
    abbrev in_v : VolumesFound
    in_v = in_volumes config m volumes

    abbrev in_a : AttachmentsFound
    in_a = in_attachments config attachments

    abbrev Faultless : Type 0
    Faultless = all_faults config m.next in_v in_a (first_named 0 1 is_owned owned) (apart_named places) ≡ None

    pub rows_pass : Faultless → (1 ≤ m.next) × RowsPass config m volumes attachments owned places
    rows_pass e =
        let a = none_first (table_faults config m.next in_v in_a) _ e in
        let b = none_first (owner_fault (first_named 0 1 is_owned owned)) _ a.1 in
        let counts = none_first (count_faults config (apart_named places) in_a in_v) [] b.1 in
        let kinds = none_first (kinds_faults in_v in_a) _ a.0 in
        let numbers = none_first (number_faults m.next in_v) _ kinds.1 in
        let sizes = none_first (size_faults config in_v) _ numbers.1 in
        let codes = none_first (code_faults in_v in_a) [] sizes.1 in
        let k1 = none_first _ _ kinds.0 in
        let k2 = none_first _ _ k1.1 in
        let n1 = none_first (next_fault m.next) _ numbers.0 in
        let n2 = none_first _ _ n1.1 in
        let n3 = none_first _ _ n2.1 in
        let s1 = none_first _ _ sizes.0 in
        let s2 = none_first _ _ s1.1 in
        let s3 = none_first _ _ s2.1 in
        let c1 = none_first _ _ codes.0 in
        let c2 = none_first _ _ c1.1 in
        let c3 = none_first _ _ c2.1 in
        let c4 = none_first _ _ c3.1 in
        let c5 = none_first _ _ c4.1 in
        let p1 = none_first _ _ counts.0 in
        let p2 = none_first _ _ p1.1 in
        let p3 = none_first _ _ p2.1 in (
          no_next_fault m.next n1.0,
          record {
            volumes = record {
              kinds = none_named 0 1 _ volumes (unmapped _ _ k1.0);
              numbers = none_named 0 1 _ volumes (unmapped _ _ n2.0);
              names = none_named 0 1 _ volumes (unmapped _ _ n3.0);
              pools = none_named 0 1 _ volumes (unmapped _ _ s1.0);
              sizes = none_named 0 1 _ volumes (unmapped _ _ s2.0);
              rooms = reported_pools volumes config.pools small.pools (none_full (λ p. p.bytes) (λ p. sum_after 3 p.name (Number 2) 0 volumes) config.pools (unmapped _ _ s3.0));
              caps = none_named 0 1 _ volumes (unmapped _ _ c1.0);
              params = none_named 0 1 _ volumes (unmapped _ _ c2.0);
              few = few_rows (length volumes) p3.0;
            };
            attachments = record {
              kinds = none_named 0 2 _ attachments (unmapped _ _ k2.0);
              caps = none_named 1 2 _ attachments (unmapped _ _ c3.0);
              flags = none_named 1 2 _ attachments (unmapped _ _ c4.0);
              nodes = none_named 1 2 _ attachments (unmapped _ _ c5.0);
              counts = reported_nodes attachments config.nodes small.nodes (none_full (λ m. m.max_volumes) (λ m. sum_after 2 m.id One 0 attachments) config.nodes (unmapped _ _ p2.0));
            };
            owned = none_named 0 1 _ owned (unmapped _ _ b.0);
            beside = unnamed_none places (unmapped _ _ p1.0);
          },
        )

  -- and the other way round: rows that meet the conditions have no fault
  pub rows_faultless : (m : Meta) → 1 ≤ m.next → RowsPass config m volumes attachments owned places → Faultless m
  rows_faultless m some pass =
      let v = pass.volumes in
      let a = pass.attachments in
      none_both _ _
      (none_both _ _ (none_both _ _ (named _ 0 1 _ volumes v.kinds) (none_both _ _ (named _ 0 2 _ attachments a.kinds) refl))
      (none_both _ _ (none_both _ _ (is_next m.next some) (none_both _ _ (named _ 0 1 _ volumes v.numbers) (none_both _ _ (named _ 0 1 _ volumes v.names) refl)))
      (none_both _ _ (none_both _ _ (named _ 0 1 _ volumes v.pools) (none_both _ _ (named _ 0 1 _ volumes v.sizes) (none_both _ _ (mapped _ _ (all_roomy (λ p. p.bytes) (λ p. sum_after 3 p.name (Number 2) 0 volumes) config.pools (kept_pools volumes config.pools v.rooms))) refl)))
      (none_both _ _ (none_both _ _ (named _ 0 1 _ volumes v.caps) (none_both _ _ (named _ 0 1 _ volumes v.params) (none_both _ _ (named _ 1 2 _ attachments a.caps) (none_both _ _ (named _ 1 2 _ attachments a.flags) (none_both _ _ (named _ 1 2 _ attachments a.nodes) refl))))) refl))))
      (none_both _ _ (named _ 0 1 _ owned pass.owned)
      (none_both _ _ (none_both _ _ (mapped _ _ (none_unnamed places pass.beside)) (none_both _ _ (mapped _ _ (all_roomy (λ m. m.max_volumes) (λ m. sum_after 2 m.id One 0 attachments) config.nodes (kept_nodes attachments config.nodes a.counts)))
      (none_both _ _ (rows_few (length volumes) v.few) refl))) refl))
