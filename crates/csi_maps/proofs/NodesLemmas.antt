-- The index of nodes after a spot was put into it, or taken out.
use Rattle.std.proofs.Common.{◌≡◌, ◌∙◌, ap, sym, subst, cond, refl, ℕ, List, [], ◌∷◌, length, Bool, true, false, ◌&&◌, Option, None, Result, Ok, Err, OnErr, Ordering, Less, Equal, Greater}
use Rattle.std.specs.BTreeMap.{is_at}
use Rattle.std.specs.BTreeSet.{BTreeSet}
use Rattle.std.specs.List.{list_any}
use Rattle.std.specs.List.Sorted.{IsStrictlySortedBy}
use Rattle.std.specs.Map.{lookup}
use Rattle.std.specs.Ordering.{nat_cmp, ordering_then, is_eq}
use Rattle.csi_maps.specs.Rows.{Spot, Nodes, numbers_in, numbers_by, has_spot, IsSpotSet}
use Rattle.csi_keeper.specs.Texts.{Text, text_cmp}
use Rattle.csi_keeper.specs.facts.Finite.{tied}
use Rattle.csi_keeper.specs.facts.Orders.{text_exact}

pub none_ordered : (nodes : Nodes) (node : Text) → None ≡ lookup (is_at (text_cmp node)) nodes → IsStrictlySortedBy nat_cmp (numbers_by nodes node)
unfolding IsStrictlySortedBy
none_ordered nodes node none = subst (IsStrictlySortedBy nat_cmp) (ap numbers_in none) tt

pub on_err : {A E P : Type 0} (r : Result A E) → P → OnErr r P
on_err (Ok x) h = tt
on_err (Err e) h = h

pub no_keys : (ns : List ℕ) → length ns ≡ 0 → ns ≡ []
no_keys [] h = refl
no_keys (n ∷ ns) h = absurd (cc (h))

both_tie : (a b : Ordering) → is_eq (ordering_then a b) ≡ (is_eq a && is_eq b)
both_tie Less b = refl
both_tie Equal b = refl
both_tie Greater b = refl

-- each node except one keeps its numbers
abbrev pub IsNodeSet : Text → Option (BTreeSet ℕ) → Nodes → Nodes → Type 0
IsNodeSet node o old new = (q : Text) → lookup (is_at (text_cmp q)) new ≡ cond (is_at (text_cmp node) q) o (lookup (is_at (text_cmp q)) old)

module _ (old new : Nodes) (node : Text) (n : ℕ) (o : Option (BTreeSet ℕ)) where
  numbers_set : IsNodeSet node o old new → (q : Text) → numbers_by new q ≡ cond (is_at (text_cmp node) q) (numbers_in o) (numbers_by old q)
  numbers_set h q = ap numbers_in (h q) ∙ by (is_at (text_cmp node) q)
    where
      by : (b : Bool) → numbers_in (cond b o (lookup (is_at (text_cmp q)) old)) ≡ cond b (numbers_in o) (numbers_by old q)
      by true = refl
      by false = refl

  -- the node has one number more or less
  pub spot_set : (b : Bool) (ns : List ℕ) → IsNodeSet node o old new → numbers_by old node ≡ ns
      → ((m : ℕ) → list_any (is_at (nat_cmp m)) (numbers_in o) ≡ cond (is_at (nat_cmp n) m) b (list_any (is_at (nat_cmp m)) ns)) → IsSpotSet (node, n) b old new
  spot_set b ns h before number q =
      ap (list_any (is_at (nat_cmp q.1))) (numbers_set h q.0)
      ∙ by (is_at (text_cmp node) q.0) refl
      ∙ sym (ap (λ d. cond d b (has_spot old q)) (both_tie (text_cmp node q.0) (nat_cmp n q.1)))
    where
      by : (d : Bool) → is_at (text_cmp node) q.0 ≡ d
          → list_any (is_at (nat_cmp q.1)) (cond d (numbers_in o) (numbers_by old q.0)) ≡ cond (d && is_at (nat_cmp n) q.1) b (has_spot old q)
      by true t =
          number q.1
          ∙ ap (λ ks. cond (is_at (nat_cmp n) q.1) b (list_any (is_at (nat_cmp q.1)) ks)) (sym before)
          ∙ ap (λ (k : Text). cond (is_at (nat_cmp n) q.1) b (has_spot old (k, q.1))) (text_exact node q.0 (tied _ t))
      by false t = refl

  -- the node keeps its numbers
  pub spots_kept : IsNodeSet node o old new → numbers_by old node ≡ numbers_in o → (q : Spot) → has_spot new q ≡ has_spot old q
  spots_kept h before q = ap (list_any (is_at (nat_cmp q.1))) (numbers_set h q.0) ∙ by (is_at (text_cmp node) q.0) refl
    where
      by : (d : Bool) → is_at (text_cmp node) q.0 ≡ d → list_any (is_at (nat_cmp q.1)) (cond d (numbers_in o) (numbers_by old q.0)) ≡ has_spot old q
      by true t =
          ap (list_any (is_at (nat_cmp q.1))) (sym before)
          ∙ ap (λ (k : Text). has_spot old (k, q.1)) (text_exact node q.0 (tied _ t))
      by false t = refl

-- a node that is not in the index
pub none_there : (nodes : Nodes) (p : Spot) → None ≡ lookup (is_at (text_cmp p.0)) nodes → IsSpotSet p false nodes nodes
none_there nodes p none = spot_set nodes nodes p.0 p.1 None false [] same (ap numbers_in (sym none)) (λ m. no (is_at (nat_cmp p.1) m))
  where
    same : IsNodeSet p.0 None nodes nodes
    same q = by (is_at (text_cmp p.0) q) refl
      where
        by : (b : Bool) → is_at (text_cmp p.0) q ≡ b → lookup (is_at (text_cmp q)) nodes ≡ cond b None (lookup (is_at (text_cmp q)) nodes)
        by true t = sym (none ∙ ap (λ (k : Text). lookup (is_at (text_cmp k)) nodes) (text_exact p.0 q (tied _ t)))
        by false t = refl

    no : (b : Bool) → false ≡ cond b false false
    no true = refl
    no false = refl

-- a node that has no number left is taken out of the index
pub spot_last : (old mid new : Nodes) (p : Spot) → IsSpotSet p false old mid → numbers_by mid p.0 ≡ [] → IsNodeSet p.0 None mid new → IsSpotSet p false old new
spot_last old mid new p less left out q = spots_kept mid new p.0 p.1 None out left q ∙ less q
