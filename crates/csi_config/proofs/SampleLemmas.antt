-- The sample configuration has no fault.
use Rattle.std.proofs.Common.{◌≡◌, ◌∙◌, ℕ, List, [], ◌∷◌, length, codes, refl, sym, ap, None, arith}
use Rattle.std.specs.Cmp.Lexicographic.{slice_cmp, nat_list_cmp_total}
use Rattle.std.specs.FinMap.{entries, len, empty, insert, put, entries-insert, len-entries, len-empty}
use Rattle.std.specs.Ordering.{nat_cmp}
use Rattle.csi_types.specs.Maps.{TextMap}
use Rattle.csi_config.specs.Faults.{fault_of, plugin_fault, sizes_fault, pool_names_fault, pool_bytes_fault, segments_fault, node_ids_fault, node_volumes_fault, is_plugin_byte, is_pool_byte, is_bad_byte}
use Rattle.csi_config.specs.Sample.{sample_plugin, sample_pools, sample_nodes}

no_length : {A : Type 0} (xs : List A) → length xs ≡ 0 → xs ≡ []
no_length [] h = refl
no_length (x ∷ xs) h = absurd (omega arith)

one_segment : (k v : List ℕ) → entries (insert (empty {R = slice_cmp nat_cmp}) k v) ≡ (k, v) ∷ []
one_segment k v =
    entries-insert nat_list_cmp_total empty k v
    ∙ ap (put (slice_cmp nat_cmp) k v) (no_length _ (sym (len-entries empty) ∙ len-empty (slice_cmp nat_cmp) (List ℕ)))

faultless_with : (a b : TextMap) → entries a ≡ (codes "zone", codes "a") ∷ [] → len a ≡ 1 → entries b ≡ (codes "zone", codes "b") ∷ [] → len b ≡ 1 → fault_of sample_plugin (record { default_bytes = 1048576; greatest_bytes = 8388608 }) (record { name = codes "p1"; bytes = 10485760; segments = a } ∷ record { name = codes "p2"; bytes = 4194304; segments = b } ∷ []) sample_nodes ≡ None
unfolding is_plugin_byte is_pool_byte is_bad_byte plugin_fault sizes_fault pool_names_fault pool_bytes_fault segments_fault node_ids_fault node_volumes_fault
faultless_with a b e l f m = rw (e, l, f, m) refl

pub sample_faultless : fault_of sample_plugin (record { default_bytes = 1048576; greatest_bytes = 8388608 }) sample_pools sample_nodes ≡ None
sample_faultless =
    let a = insert (empty {R = slice_cmp nat_cmp}) (codes "zone") (codes "a") in
    let b = insert (empty {R = slice_cmp nat_cmp}) (codes "zone") (codes "b") in
    let one = one_segment (codes "zone") (codes "a") in
    let other = one_segment (codes "zone") (codes "b") in
    faultless_with a b one (len-entries a ∙ ap length one) other (len-entries b ∙ ap length other)
