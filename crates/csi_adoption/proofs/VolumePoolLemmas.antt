-- The totals reported for the pools are the count and the bytes of their volumes, and every volume's pool
-- is in the configuration.
use Rattle.std.proofs.Common.{◌≡◌, ◌∙◌, refl, sym, ap, Bool, true, false, true≢false, cond, ℕ, List, [], ◌∷◌, map, filter, length, sum, None, Some, IsSome, ◌⊎◌, inl, inr, ap₂, ◌-◌, ◌^◌, ◌<◌}
use Rattle.std.specs.Cmp.{nat_cmp_total}
use Rattle.std.specs.FinMap.{entries, nat_cmp-IsAntisymmetric}
use Rattle.std.specs.List.{AllByRecursion}
use Rattle.std.specs.Option.{is_some}
use Rattle.std.proofs.lemmas.Slice.Eq.{bytes_eq-Decides}
use Rattle.sqlite.specs.Order.{Row}
use Rattle.csi_types.specs.Maps.{same_text}
use Rattle.csi_config.specs.Values.{Has}
use Rattle.csi_config.specs.declared.config.Config.{Config}
use Rattle.csi_config.specs.declared.pools.Pool.{Pool}
use Rattle.csi_keeper.specs.Lookup.{pool_named}
use Rattle.csi_keeper.specs.Totals.{the_total, zero_total}
use Rattle.csi_keeper.specs.declared.totals.Total.{Total}
use Rattle.csi_keeper.specs.declared.volume.Volume.{Volume}
use Rattle.csi_keeper.specs.facts.Finite.{all_entries}
use Rattle.csi_keeper.specs.facts.Sums.{in_order}
use Rattle.csi_constraints.specs.Folds.{sum_after}
use Rattle.csi_constraints.specs.declared.sums.Weight.TheVariants.{Number, One}
use Rattle.csi_adoption.specs.Found.{FoundVolumes, sizes_of}
use Rattle.csi_adoption.specs.Judging.{in_volumes, total_in}
use Rattle.csi_adoption.specs.Passing.{VolumesPass}
use Rattle.csi_adoption.specs.declared.meta.Meta.{Meta}
use Rattle.csi_adoption.proofs.VolumeSumLemmas.{pool_reported}

none_in : (pools : List Pool) (pool : List ℕ) → pool_named pools pool ≡ None → (es : List (ℕ × Volume)) → AllByRecursion (λ e. IsSome (pool_named pools e.1.pool)) es → in_order es pool ≡ []
none_in pools pool none [] all = refl
none_in pools pool none (e ∷ es) all = go (same_text e.1.pool pool) refl (none_in pools pool none es all.1)
  where
    rest : List Volume
    rest = filter (λ v. same_text v.pool pool) (map (λ x. x.1) es)

    go : (b : Bool) → same_text e.1.pool pool ≡ b → map (λ v. v.bytes) rest ≡ [] → map (λ (v : Volume). v.bytes) (cond b (e.1 ∷ rest) rest) ≡ []
    go true same later =
        let is : e.1.pool ≡ pool = (bytes_eq-Decides e.1.pool pool).0 same in
        let some : is_some (pool_named pools e.1.pool) ≡ true = all.0 in
        absurd (true≢false (sym some ∙ ap (λ t. is_some (pool_named pools t)) is ∙ ap is_some none))
    go false same later = later

pub none_elsewhere : (config : Config) (m : Meta) (rows : List Row) (found : FoundVolumes config m rows) (pool : List ℕ) → pool_named config.pools pool ≡ None → sizes_of found.volumes pool ≡ []
none_elsewhere config m rows found pool none =
    none_in config.pools pool none (entries found.volumes) (all_entries nat_cmp_total nat_cmp-IsAntisymmetric (λ n v. IsSome (pool_named config.pools v.pool)) found.volumes (λ n v e. (found.each n v e).pool))

abbrev total_reported : List Pool → List Row → List ℕ → Total
total_reported pools rows = total_in pools (map (λ p. sum_after 3 p.name One 0 rows) pools) (map (λ p. sum_after 3 p.name (Number 2) 0 rows) pools)

-- a total reported for a name belongs to a pool with this name, or no pool has the name
reported_from : (pools : List Pool) (rows : List Row) (name : List ℕ)
    → ((p : Pool) × Has pools p × (p.name ≡ name) × (total_reported pools rows name ≡ the_total (sum_after 3 p.name One 0 rows) (sum_after 3 p.name (Number 2) 0 rows)))
    ⊎ ((pool_named pools name ≡ None) × (total_reported pools rows name ≡ zero_total))
reported_from [] rows name = inr (refl, refl)
reported_from (p ∷ pools) rows name = go (same_text p.name name) refl (reported_from pools rows name)
  where
    reported : Total
    reported = the_total (sum_after 3 p.name One 0 rows) (sum_after 3 p.name (Number 2) 0 rows)

    go : (b : Bool) → same_text p.name name ≡ b
        → ((q : Pool) × Has pools q × (q.name ≡ name) × (total_reported pools rows name ≡ the_total (sum_after 3 q.name One 0 rows) (sum_after 3 q.name (Number 2) 0 rows)))
        ⊎ ((pool_named pools name ≡ None) × (total_reported pools rows name ≡ zero_total))
        → ((q : Pool) × Has (p ∷ pools) q × (q.name ≡ name) × (cond b reported (total_reported pools rows name) ≡ the_total (sum_after 3 q.name One 0 rows) (sum_after 3 q.name (Number 2) 0 rows)))
        ⊎ ((cond b (Some p) (pool_named pools name) ≡ None) × (cond b reported (total_reported pools rows name) ≡ zero_total))
    go true same later = inl (p, inl refl, (bytes_eq-Decides p.name name).0 same, refl)
    go false same (inl it) = inl (it.0, inr it.1, it.2, it.3)
    go false same (inr none) = inr none

pub totals_found : (config : Config) (m : Meta) (rows : List Row) → VolumesPass config m rows → ((p : Pool) → Has config.pools p → p.bytes < 2 ^ 64 - 1) → (found : FoundVolumes config m rows) (name : List ℕ)
    → total_in config.pools (in_volumes config m rows).pool_volumes (in_volumes config m rows).pool_bytes name ≡ the_total (length (sizes_of found.volumes name)) (sum (sizes_of found.volumes name))
totals_found config m rows pass low found name = go (reported_from config.pools rows name)
  where
    go : ((p : Pool) × Has config.pools p × (p.name ≡ name) × (total_reported config.pools rows name ≡ the_total (sum_after 3 p.name One 0 rows) (sum_after 3 p.name (Number 2) 0 rows)))
        ⊎ ((pool_named config.pools name ≡ None) × (total_reported config.pools rows name ≡ zero_total))
        → total_reported config.pools rows name ≡ the_total (length (sizes_of found.volumes name)) (sum (sizes_of found.volumes name))
    go (inl it) =
        let reported = pool_reported config m rows pass it.0 it.1 (low it.0 it.1) in
        it.3 ∙ ap₂ the_total (reported.0 ∙ sym (found.counted it.0.name)) (reported.1 ∙ sym (found.summed it.0.name)) ∙ ap (λ t. the_total (length (sizes_of found.volumes t)) (sum (sizes_of found.volumes t))) it.2
    go (inr none) = none.1 ∙ sym (ap (λ xs. the_total (length xs) (sum xs)) (none_elsewhere config m rows found name none.0))
