-- Finite maps and the lists of their entries.
use Rattle.std.proofs.Common.{◌≡◌, ◌∙◌, ◌⊎◌, inl, inr, ap, sym, subst, cond, arith, refl, length, List, [], ◌∷◌, filter, Bool, true, false, not, ◌&&◌}
use Rattle.std.proofs.Common.{T, Option, Some, None, Ordering, Less, Equal, Greater}
use Rattle.std.specs.Cmp.{IsTotalOrder}
use Rattle.std.specs.List.{AllByRecursion}
use Rattle.std.specs.Ordering.{eq_by_cmp, is_eq, is_lt, ordering_reverse}
use Rattle.std.specs.FinMap as fin
use Rattle.std.specs.FinMap.Entries.{below_all, is_sorted-where_key}
use Rattle.std.proofs.lemmas.Cmp.{tied_itself}

pub none_some : {A : Type 0} (x : A) → None ≡ Some x → ⊥
none_some x e = cc

pub same_some : {A : Type 0} (x y : A) → Some x ≡ Some y → x ≡ y
same_some x y e = cc

pub tied : (r : Ordering) → is_eq r ≡ true → r ≡ Equal
tied Less e = absurd (cc)
tied Equal e = refl
tied Greater e = absurd (cc)

pub both : (a b : Bool) → T (a && b) → T a × T b
both true b h = (tt, h)
both false b h = absurd h

module _ {K X : Type 0} {R : K → K → Ordering} (o : IsTotalOrder R) (exact : fin.IsAntisymmetric R) where
  -- an entry after one was added: the new one, or an old one
  pub inserted : (m : fin.FinMap R X) (k : K) (x : X) (q : K) (v : X) → fin.get (fin.insert m k x) q ≡ Some v → ((q ≡ k) × (x ≡ v)) ⊎ (fin.get m q ≡ Some v)
  inserted m k x q v e = elim (eq_by_cmp R q k) as (λ b. eq_by_cmp R q k ≡ b → cond b (Some x) (fin.get m q) ≡ Some v → ((q ≡ k) × (x ≡ v))
      ⊎ (fin.get m q ≡ Some v)) [
        | true ↦ λ t h. inl (exact q k (tied _ t), same_some x v h)
        | false ↦ λ t h. inr h
      ] refl (sym (fin.get-insert o m k x q) ∙ e)

  -- another key keeps its value
  pub insert_other : (m : fin.FinMap R X) (k : K) (x : X) (q : K) → (q ≡ k → ⊥) → fin.get (fin.insert m k x) q ≡ fin.get m q
  insert_other m k x q far = fin.get-insert o m k x q ∙ elim (eq_by_cmp R q k) as (λ b. eq_by_cmp R q k ≡ b → cond b (Some x) (fin.get m q) ≡ fin.get m q) [
    | true ↦ λ t. absurd (far (exact q k (tied _ t)))
    | false ↦ λ t. refl
  ] refl

  -- an entry after one was removed: an old one with another key
  pub removed : (m : fin.FinMap R X) (k q : K) (v : X) → fin.get (fin.remove m k) q ≡ Some v → (q ≡ k → ⊥) × (fin.get m q ≡ Some v)
  removed m k q v e = elim (eq_by_cmp R q k) as (λ b. eq_by_cmp R q k ≡ b → cond b None (fin.get m q) ≡ Some v → (q ≡ k → ⊥) × (fin.get m q ≡ Some v)) [
    | true ↦ λ t h. absurd (none_some v h)
    | false ↦ λ t h. (
      λ s.
          let y : eq_by_cmp R q q ≡ true = ap is_eq (tied_itself o q) in
          let z : eq_by_cmp R q q ≡ false = subst (λ (j : K). eq_by_cmp R q j ≡ false) (sym s) t in
          absurd (cc (y, z)),
      h,
    )
  ] refl (sym (fin.get-remove o m k q) ∙ e)

  -- if a key is removed and put back with its value, the map is the same
  pub put_back : (m : fin.FinMap R X) (k : K) (v : X) → fin.get m k ≡ Some v → fin.insert (fin.remove m k) k v ≡ m
  put_back m k v e = fin.same_map o exact _ _ (λ q.
      fin.get-insert o (fin.remove m k) k v q
      ∙ ap (cond (eq_by_cmp R q k) (Some v)) (fin.get-remove o m k q)
      ∙ elim (eq_by_cmp R q k) as (λ b. eq_by_cmp R q k ≡ b → cond b (Some v) (cond b None (fin.get m q)) ≡ fin.get m q) [
        | true ↦ λ t. subst (λ (j : K). Some v ≡ fin.get m j) (sym (exact q k (tied _ t))) (sym e)
        | false ↦ λ t. refl
      ] refl)

  -- setting a key is the same as removing it and then putting it
  pub set_anew : (m : fin.FinMap R X) (k : K) (x : X) → fin.insert m k x ≡ fin.insert (fin.remove m k) k x
  set_anew m k x = fin.same_map o exact _ _ (λ q.
      fin.get-insert o m k x q
      ∙ elim (eq_by_cmp R q k) as (λ b. eq_by_cmp R q k ≡ b → cond b (Some x) (fin.get m q) ≡ cond b (Some x) (cond b None (fin.get m q))) [
        | true ↦ λ t. refl
        | false ↦ λ t. refl
      ] refl
      ∙ sym (fin.get-insert o (fin.remove m k) k x q ∙ ap (cond (eq_by_cmp R q k) (Some x)) (fin.get-remove o m k q)))

  -- a value that was put at a key is there
  pub put_there : (m : fin.FinMap R X) (k : K) (x : X) → fin.get (fin.insert m k x) k ≡ Some x
  put_there m k x = fin.get-insert o m k x k ∙ ap (λ b. cond b (Some x) (fin.get m k)) (ap is_eq (tied_itself o k))

  pub gone : (m : fin.FinMap R X) (k : K) → fin.get (fin.remove m k) k ≡ None
  gone m k = fin.get-remove o m k k ∙ ap (λ b. cond b None (fin.get m k)) (ap is_eq (tied_itself o k))

  pub not_there : (m : fin.FinMap R X) (k : K) → fin.get m k ≡ None → fin.remove m k ≡ m
  not_there m k e = fin.same_map o exact _ _ (λ q.
      fin.get-remove o m k q ∙ elim (eq_by_cmp R q k) as (λ b. eq_by_cmp R q k ≡ b → cond b None (fin.get m q) ≡ fin.get m q) [
        | true ↦ λ t. subst (λ (j : K). None ≡ fin.get m j) (sym (exact q k (tied _ t))) (sym e)
        | false ↦ λ t. refl
      ] refl)

  pub find_filter : (p : K → Bool) (q : K) (es : List (K × X)) → fin.find R q (filter (λ e. p e.0) es) ≡ cond (p q) (fin.find R q es) None
  find_filter p q [] = elim (p q) as (λ b. ◌≡◌ {A = Option X} None (cond b None None)) [ true ↦ refl | false ↦ refl ]
  find_filter p q (e ∷ es) = go (p e.0) refl (eq_by_cmp R q e.0) refl (find_filter p q es)
    where
      go : (a : Bool) → p e.0 ≡ a → (b : Bool) → eq_by_cmp R q e.0 ≡ b → fin.find R q (filter (λ e. p e.0) es) ≡ cond (p q) (fin.find R q es) None
          → fin.find R q (cond a (e ∷ filter (λ e. p e.0) es) (filter (λ e. p e.0) es)) ≡ cond (p q) (cond b (Some e.1) (fin.find R q es)) None
      go true t true u more =
          ap (λ b. cond b (Some e.1) (fin.find R q (filter (λ e. p e.0) es))) u
          ∙ sym (ap (λ d. cond d (Some e.1) None) (ap p (exact q e.0 (tied _ u)) ∙ t))
      go true t false u more = ap (λ b. cond b (Some e.1) (fin.find R q (filter (λ e. p e.0) es))) u ∙ more
      go false t true u more =
          more
          ∙ ap (λ d. cond d (fin.find R q es) None) (ap p (exact q e.0 (tied _ u)) ∙ t)
          ∙ sym (ap (λ d. cond d (Some e.1) None) (ap p (exact q e.0 (tied _ u)) ∙ t))
      go false t false u more = more

-- the entries of a map that keeps only some of them
module _ {K X : Type 0} {R : K → K → Ordering} (o : IsTotalOrder R) (exact : fin.IsAntisymmetric R) where
  -- a map that keeps the entries whose keys pass
  pub entries_kept : (m n : fin.FinMap R X) (p : K → Bool) → ((q : K) → fin.get n q ≡ cond (p q) (fin.get m q) None)
      → fin.entries n ≡ filter (λ e. p e.0) (fin.entries m)
  entries_kept m n p h =
      let es = filter (λ (e : K × X). p e.0) (fin.entries m) in
      let rises : T (fin.is_sorted R es) = is_sorted-where_key R p (fin.entries m) (fin.entries_sorted m) in
      let listed : fin.entries (fin.from_sorted {R = R} es) ≡ es = fin.entries-from_sorted R es rises in
      ap fin.entries (fin.same_map o exact n (fin.from_sorted es) (λ q.
      h q ∙ ap (λ x. cond (p q) x None) (fin.get-entries m q) ∙ sym (find_filter o exact p q (fin.entries m))
      ∙ sym (fin.get-entries (fin.from_sorted es) q ∙ ap (fin.find R q) listed)))
      ∙ listed

  pub entries_retained : (m : fin.FinMap R X) (p : K → Bool) → fin.entries (fin.retain_keys m p) ≡ filter (λ e. p e.0) (fin.entries m)
  entries_retained m p = entries_kept m (fin.retain_keys m p) p (λ q. fin.get-retain_keys m p q (λ x t. sym (ap p (exact q x t))))

  pub entries_left : (m : fin.FinMap R X) (k : K) → fin.entries (fin.remove m k) ≡ filter (λ e. not (eq_by_cmp R e.0 k)) (fin.entries m)
  entries_left m k = entries_kept m (fin.remove m k) (λ q. not (eq_by_cmp R q k)) (λ q.
      fin.get-remove o m k q
      ∙ elim (eq_by_cmp R q k) as (λ b. cond b None (fin.get m q) ≡ cond (not b) (fin.get m q) None) [
        | true ↦ refl
        | false ↦ refl
      ])

pub less_apart : (a b : Ordering) → a ≡ ordering_reverse b → T (is_lt b) → is_eq a ≡ false
less_apart a Less e l = ap is_eq e
less_apart a Equal e l = absurd l
less_apart a Greater e l = absurd l

-- a property of each key and its value is a property of each entry
module _ {K X : Type 0} {R : K → K → Ordering} (o : IsTotalOrder R) (exact : fin.IsAntisymmetric R) where
  pub found_below : (x k : K) (v : X) (es : List (K × X)) → T (below_all R x es) → fin.find R k es ≡ Some v → T (is_lt (R x k))
  found_below x k v [] b f = absurd (none_some v f)
  found_below x k v (e ∷ es) b f =
      let two = both (is_lt (R x e.0)) (below_all R x es) b in
      elim (eq_by_cmp R k e.0) as (λ d. eq_by_cmp R k e.0 ≡ d → cond d (Some e.1) (fin.find R k es) ≡ Some v → T (is_lt (R x k))) [
        | true ↦ λ t h. subst (λ (j : K). T (is_lt (R x j))) (sym (exact k e.0 (tied _ t))) two.0
        | false ↦ λ t h. found_below x k v es two.1 h
      ] refl f

  all_found : (P : K → X → Type 0) (es : List (K × X)) → T (fin.is_sorted R es) → ((k : K) (v : X) → fin.find R k es ≡ Some v → P k v)
      → AllByRecursion (λ e. P e.0 e.1) es
  all_found P [] s h = tt
  all_found P (e ∷ es) s h =
      let two = both (below_all R e.0 es) (fin.is_sorted R es) s in (
        h e.0 e.1 (ap (λ d. cond d (Some e.1) (fin.find R e.0 es)) (ap is_eq (tied_itself o e.0))),
        all_found P es two.1 (λ k v f. h k v
            (ap (λ d. cond d (Some e.1) (fin.find R k es)) (less_apart (R k e.0) (R e.0 k) (o.antisymm k e.0) (found_below e.0 k v es two.0 f)) ∙ f)),
      )

  pub all_entries : (P : K → X → Type 0) (m : fin.FinMap R X) → ((k : K) (v : X) → fin.get m k ≡ Some v → P k v)
      → AllByRecursion (λ e. P e.0 e.1) (fin.entries m)
  all_entries P m h = all_found P (fin.entries m) (fin.entries_sorted m) (λ k v f. h k v (fin.get-entries m k ∙ f))

no_entries : {A : Type 0} (xs : List A) → length xs ≡ 0 → xs ≡ []
no_entries [] h = refl
no_entries (x ∷ xs) h = absurd (omega arith)

-- the empty map has no entries
pub none_listed : {K X : Type 0} (R : K → K → Ordering) → fin.entries (fin.empty {X = X} {R = R}) ≡ []
none_listed {X = X} R = no_entries _ (sym (fin.len-entries (fin.empty {X = X} {R = R})) ∙ fin.len-empty R X)
