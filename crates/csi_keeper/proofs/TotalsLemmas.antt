-- Kept totals as a tree.
use Rattle.std.proofs.Common.{◌≡◌, ◌∙◌, ap, sym, cond, List, Some, refl, Bool, true, false}
use Rattle.std.specs.BTreeMap.{is_at}
use Rattle.std.specs.Map.{lookup}
use Rattle.std.specs.Ordering.{is_eq}
use Rattle.std.specs.Cmp.{tied_itself}
use Rattle.std.specs.Cmp.Lexicographic.{nat_list_cmp_total}
use lib.Pointwise.{bytes_decides}
use Rattle.csi_types.specs.Maps.{same_text}
use Rattle.std.specs.Cmp.Lexicographic.{texts_ties}
use Rattle.csi_keeper.specs.declared.totals.Total.{Total}
use Rattle.csi_keeper.specs.Totals.{total_at, or_zero}
use Rattle.csi_keeper.specs.Texts.{Text, text_cmp}

-- the totals after one of them is set
pub total_set : (es fs : List (Text × Total)) (k : Text) (t : Total) (q : Text) → lookup (is_at (text_cmp q)) fs ≡ cond (is_at (text_cmp k) q) (Some t) (lookup (is_at (text_cmp q)) es)
    → total_at fs q ≡ cond (same_text k q) t (total_at es q)
total_set es fs k t q h = ap or_zero (h ∙ ap (λ b. cond b (Some t) (lookup (is_at (text_cmp q)) es)) (sym (texts_ties k q)))
    ∙ go (same_text k q)
  where
    go : (b : Bool) → or_zero (cond b (Some t) (lookup (is_at (text_cmp q)) es)) ≡ cond b t (total_at es q)
    go true = refl
    go false = refl

-- if one total is set, the others stay
pub total_other : (es fs : List (Text × Total)) (k : Text) (t : Total) (q : Text) → lookup (is_at (text_cmp q)) fs ≡ cond (is_at (text_cmp k) q) (Some t) (lookup (is_at (text_cmp q)) es)
    → same_text k q ≡ false → total_at fs q ≡ total_at es q
total_other es fs k t q h other = total_set es fs k t q h ∙ ap (λ b. cond b t (total_at es q)) other

-- a pool that is set to its own total
pub same_set : (es fs : List (Text × Total)) (k q : Text) → lookup (is_at (text_cmp q)) fs ≡ cond (is_at (text_cmp k) q) (Some (total_at es k)) (lookup (is_at (text_cmp q)) es) → total_at fs q ≡ total_at es q
same_set es fs k q h = total_set es fs k (total_at es k) q h ∙ go (same_text k q) refl
  where
    go : (b : Bool) → same_text k q ≡ b → cond b (total_at es k) (total_at es q) ≡ total_at es q
    go true e = ap (total_at es) ((bytes_decides k q).0 e)
    go false e = refl

-- a total put under a pool is stored there
pub is_set : (es fs : List (Text × Total)) (k : Text) (t : Total) → ((q : Text) → lookup (is_at (text_cmp q)) fs ≡ cond (is_at (text_cmp k) q) (Some t) (lookup (is_at (text_cmp q)) es)) → lookup (is_at (text_cmp k)) fs ≡ Some t
is_set es fs k t h = h k ∙ ap (λ o. cond (is_eq o) (Some t) (lookup (is_at (text_cmp k)) es)) (tied_itself nat_list_cmp_total k)
