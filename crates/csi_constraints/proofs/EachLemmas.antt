-- Items that change at each place of a list.
use Rattle.std.proofs.Common.{◌≡◌, ◌∙◌, refl, sym, subst, ℕ, zero, suc, ◌+◌, ◌<◌, ◌≤◌, List, [], ◌∷◌, arith, length, get_or, set, inl, inr, Result, Ok, Err, OnErr}
use Rattle.std.proofs.lemmas.List.{get_or-set_same, get_or-set_other}
use Rattle.std.proofs.lemmas.Bool.Decides.{eqb_tells}
use Rattle.std.specs.List.{AllZip}
use Rattle.csi_constraints.specs.Folds.{HasSome}

-- a change at each place is a change of the whole list
pub zip_moved : {A B : Type 0} (R Q : A → B → Type 0) (firsts : List A) (olds news : List B) → length news ≡ length olds
    → ((k : ℕ) (d : B) → k < length olds → (a : A) → R a (get_or olds k d) → Q a (get_or news k d)) → AllZip R firsts olds → AllZip Q firsts news
zip_moved R Q [] [] [] len move all = tt
zip_moved R Q [] [] (n ∷ news) len move all = absurd (omega (arith, len))
zip_moved R Q [] (o ∷ olds) news len move all = absurd all
zip_moved R Q (a ∷ firsts) [] news len move all = absurd all
zip_moved R Q (a ∷ firsts) (o ∷ olds) [] len move all = absurd (omega (arith, len))
zip_moved R Q (a ∷ firsts) (o ∷ olds) (n ∷ news) len move all =
    (move 0 o (omega arith) a all.0, zip_moved R Q firsts olds news (omega (arith, len)) (λ k d below x r. move (suc k) d (omega (arith, below)) x r) all.1)

get_or_any : {X : Type 0} (xs : List X) (i : ℕ) (a b : X) → i < length xs → get_or xs i a ≡ get_or xs i b
get_or_any [] i a b low = absurd (omega (arith, low))
get_or_any (x ∷ xs) zero a b low = refl
get_or_any (x ∷ xs) (suc i) a b low = get_or_any xs i a b (omega (arith, low))

module _ {P : Type 0} (Moved : P → P → Type 0) (initial items : List P) (at : ℕ) (new : P) (low : at < length items) where
  pub moved_below : ((k : ℕ) (d : P) → k < at → Moved (get_or initial k d) (get_or items k d)) → ((k : ℕ) (d : P) → at ≤ k → get_or items k d ≡ get_or initial k d)
      → (e : P) → Moved (get_or items at e) new → (k : ℕ) (d : P) → k < at + 1 → Moved (get_or initial k d) (get_or (set items at new) k d)
  moved_below before after e step k d below = elim (eqb_tells k at) [
    | inl it ↦
        let same = it.1 in
        let here : get_or (set items at new) at d ≡ new = get_or-set_same items at new d low in
        let was : get_or items at e ≡ get_or initial at d = get_or_any items at e d low ∙ after at d (omega arith) in
        subst (λ j. Moved (get_or initial j d) (get_or (set items at new) j d)) (sym same) (subst (Moved (get_or initial at d)) (sym here) (subst (λ p. Moved p new) was step))
    | inr it ↦ let other = it.1 in subst (Moved (get_or initial k d)) (sym (get_or-set_other items at k new d other)) (before k d (omega (arith, below, other)))
  ]

  pub kept_above : ((k : ℕ) (d : P) → at ≤ k → get_or items k d ≡ get_or initial k d) → (k : ℕ) (d : P) → at + 1 ≤ k → get_or (set items at new) k d ≡ get_or initial k d
  kept_above after k d above = get_or-set_other items at k new d (λ e. absurd (omega (arith, above, e))) ∙ after k d (omega (arith, above))

-- a fact of the item at a place
pub has_at : {X : Type 0} (P : X → Type 0) (xs : List X) (i : ℕ) (d : X) → i < length xs → P (get_or xs i d) → HasSome P xs
has_at P [] i d low h = absurd (omega (arith, low))
has_at P (x ∷ xs) zero d low h = inl h
has_at P (x ∷ xs) (suc i) d low h = inr (has_at P xs i d (omega (arith, low)) h)

-- as `has_at`, for a list whose rest is unchanged
pub asks_at : {X : Type 0} (P : X → Type 0) (initial items : List X) (at : ℕ) → at < length items → length items ≡ length initial → ((k : ℕ) (d : X) → at ≤ k → get_or items k d ≡ get_or initial k d)
    → (d : X) → P (get_or items at d) → HasSome P initial
asks_at P initial items at low len same d h = has_at P initial at d (omega (arith, low, len)) (subst P (same at d (omega arith)) h)

pub on_err : {X E : Type 0} {P : Type 0} (r : Result X E) → P → OnErr r P
on_err (Ok x) p = tt
on_err (Err e) p = p
