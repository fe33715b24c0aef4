-- Lists of values that were read from rows, one value from each row.
use Rattle.std.proofs.Common.{◌≡◌, ◌∙◌, refl, sym, ap, arith, ℕ, zero, suc, ◌+◌, ◌<◌, List, [], ◌∷◌, ◌++◌, map, take, length, get_or, Bool, true, false, Some, Result, Err, add-one}
use Rattle.std.proofs.lemmas.Result.{err_from_is_err_and}
use Rattle.std.specs.List.{AllByRecursion}
use Rattle.std.specs.Result.{IsErrAnd}
use Rattle.sqlite.specs.Order.{Row}
use Rattle.csi_sql.specs.Cells.{as_flag}
use Rattle.csi_sql.specs.Rows.{bool_value}

module _ {E X : Type 0} (entry : E → Row) (value : E → X) (P : E → Type 0) where
  -- one more row
  pub read_more : (rows : List Row) (es : List E) (i : ℕ) (d : Row) (xs : List X) (x : X) → i < length rows → ((e : E) → P e → get_or rows i d ≡ entry e → x ≡ value e) → AllByRecursion P es → rows ≡ map entry es
      → xs ≡ map value (take i es) → xs ++ x ∷ [] ≡ map value (take (i + 1) es)
  read_more rows es i d xs x low reads all are read = ap (λ ys. ys ++ x ∷ []) read ∙ go es i all low' (λ e p is. reads e p (ap (λ rs. get_or rs i d) are ∙ is))
    where
      low' : i < length (map entry es)
      low' = let n : length rows ≡ length (map entry es) = ap length are in omega (arith, low, n)

      go : (es : List E) (i : ℕ) → AllByRecursion P es → i < length (map entry es) → ((e : E) → P e → get_or (map entry es) i d ≡ entry e → x ≡ value e) → map value (take i es) ++ x ∷ [] ≡ map value (take (i + 1) es)
      go [] i all low reads = absurd (omega (arith, low))
      go (e ∷ es) zero all low reads = ap (λ y. y ∷ []) (reads e all.0 refl)
      go (e ∷ es) (suc i) all low reads = rw add-one (ap (λ ys. value e ∷ ys) (rw add-one at (go es i all.1 (omega (arith, low)) reads)))

module _ {E : Type 0} (entry : E → Row) (P : E → Type 0) where
  -- each row represents a value
  pub entry_at : (rows : List Row) (es : List E) (i : ℕ) (d : Row) → i < length rows → AllByRecursion P es → rows ≡ map entry es → (e : E) × P e × (get_or rows i d ≡ entry e)
  entry_at rows es i d low all are = let it = go es i all low' in (it.0, it.1, ap (λ rs. get_or rs i d) are ∙ it.2)
    where
      low' : i < length (map entry es)
      low' = let n : length rows ≡ length (map entry es) = ap length are in omega (arith, low, n)

      go : (es : List E) (i : ℕ) → AllByRecursion P es → i < length (map entry es) → (e : E) × P e × (get_or (map entry es) i d ≡ entry e)
      go [] i all low = absurd (omega (arith, low))
      go (e ∷ es) zero all low = (e, all.0, refl)
      go (e ∷ es) (suc i) all low = go es i all.1 (omega (arith, low))

-- as above, for any values
pub entry_of : {E : Type 0} (entry : E → Row) (rows : List Row) (es : List E) (i : ℕ) (d : Row) → i < length rows → rows ≡ map entry es → (e : E) × (get_or rows i d ≡ entry e)
entry_of entry rows es i d low are = let it = go es i low' in (it.0, ap (λ rs. get_or rs i d) are ∙ it.1)
  where
    low' : i < length (map entry es)
    low' = let n : length rows ≡ length (map entry es) = ap length are in omega (arith, low, n)

    go : (es : List _) (i : ℕ) → i < length (map entry es) → (e : _) × (get_or (map entry es) i d ≡ entry e)
    go [] i low = absurd (omega (arith, low))
    go (e ∷ es) zero low = (e, refl)
    go (e ∷ es) (suc i) low = go es i (omega (arith, low))

-- a `?` passes on the error unchanged
pub handed_on : {X Y F : Type 0} (r : Result X F) (s : Result Y F) (e f : F) → IsErrAnd r (λ y. y ≡ e) → r ≡ Err f → s ≡ Err e → s ≡ Err f
handed_on r s e f and is was = let p = err_from_is_err_and r and in let q : Err p.0 ≡ Err f = sym p.1 ∙ is in let same : p.0 ≡ f = cc in was ∙ ap Err (sym p.2 ∙ same)
