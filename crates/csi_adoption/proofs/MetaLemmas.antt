-- The row of meta.
use Rattle.std.proofs.Common.{◌≡◌, refl, ap, subst, ℕ, List, [], ◌∷◌, map, length, IsPermutation, arith}
use Rattle.std.specs.List.{AllByRecursion}
use Rattle.std.proofs.lemmas.List.Sorted.{length_permutation}
use Rattle.sqlite.specs.Order.{Row}
use Rattle.sqlite.specs.Tree.{Trees}
use Rattle.sqlite_trees.proofs.ListLemmas.{all-permutation}
use Rattle.csi_config.specs.declared.config.Config.{Config}
use Rattle.csi_keeper.specs.Invariant.{IsInvariant}
use Rattle.csi_keeper.specs.State.{State}
use Rattle.csi_sql.specs.Rows.{meta_row, seen_meta}
use Rattle.csi_tables.specs.Holding.{IsRowsOf}

-- a list of one element has no other order
one_permuted : {X : Type 0} (x : X) (ys : List X) → IsPermutation (x ∷ []) ys → ys ≡ x ∷ []
one_permuted {X} x ys same = go ys (length_permutation _ _ same) (all-permutation (λ y. y ≡ x) _ ys same (refl, tt))
  where
    go : (ys : List X) → length ys ≡ 1 → AllByRecursion (λ y. y ≡ x) ys → ys ≡ x ∷ []
    go [] one all = absurd (omega arith)
    go (y ∷ []) one all = ap (λ z. z ∷ []) all.0
    go (y ∷ z ∷ ys) one all = absurd (omega arith)

pub meta_pass : (config : Config) (format : ℕ) (s : State) (db : Trees) → IsRowsOf format s db → IsInvariant config s → (meta : List Row) → IsPermutation (map seen_meta (db 0)) meta → meta ≡ meta_row format s.next ∷ []
meta_pass config format s db are inv meta same = one_permuted (meta_row format s.next) meta (subst (λ rows. IsPermutation rows meta) are.meta same)
