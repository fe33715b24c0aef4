-- A map of one entry.
use Rattle.std.proofs.Common.{◌≡◌, ◌∙◌, ℕ, List, [], ◌∷◌, ap, sym, subst}
use Rattle.std.proofs.lemmas.List.{nil_from_length}
use Rattle.std.specs.Cmp.Lexicographic.{slice_cmp, nat_list_cmp_total}
use Rattle.std.specs.FinMap.{entries, empty, insert, put, entries-insert, len-entries, len-empty}
use Rattle.std.specs.Ordering.{nat_cmp}
use Rattle.pbmessage.specs.Canon.{FitsInner, FitsMessages, FitsMapEntry, FitsMap, canon_map_entry}

pub one_entry : (k v : List ℕ) → entries (insert (empty {R = slice_cmp nat_cmp}) k v) ≡ (k, v) ∷ []
one_entry k v = entries-insert nat_list_cmp_total empty k v ∙ ap (put (slice_cmp nat_cmp) k v) (nil_from_length _ (sym (len-entries empty) ∙ len-empty (slice_cmp nat_cmp) (List ℕ)))

pub one_entry_fits : (k v : List ℕ) → FitsInner FitsMapEntry canon_map_entry (k, v) → FitsMap (insert empty k v)
one_entry_fits k v fits = subst (λ (es : List (List ℕ × List ℕ)). FitsMessages FitsMapEntry canon_map_entry es) (sym (one_entry k v)) (fits, tt)
