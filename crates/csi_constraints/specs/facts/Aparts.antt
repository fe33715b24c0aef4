-- No row is apart from a row before it exactly if no two rows are apart.
use Rattle.std.proofs.Common.{◌≡◌, refl, ap, Bool, true, false, true≢false, cond, ◌||◌, List, [], ◌∷◌, ◌++◌, Option, Some, None}
use Rattle.std.specs.List.{AllByRecursion, list_any}
use Rattle.std.specs.Option.{option_map}
use Rattle.sqlite.specs.Order.{Row}
use Rattle.sqlite_trees.proofs.ListLemmas.{all-append, all_both, all_weaker}
use Rattle.csi_constraints.specs.Apart.{apart_named, are_apart, first_apart, NoneApart}
use Rattle.csi_constraints.specs.Named.{name_of}

-- a row conflicts with none of these rows
abbrev FarFrom : List Row → Row → Type 0
FarFrom earlier r = AllByRecursion (λ e. are_apart e r ≡ false) earlier

pub none_of : {X : Type 0} (p : X → Bool) (xs : List X) → AllByRecursion (λ x. p x ≡ false) xs → list_any p xs ≡ false
none_of p [] all = refl
none_of p (x ∷ xs) all = rw (all.0) (none_of p xs all.1)

neither_is : (a b : Bool) → (a || b) ≡ false → (a ≡ false) × (b ≡ false)
neither_is true b e = absurd (true≢false e)
neither_is false b e = (refl, e)

of_none : {X : Type 0} (p : X → Bool) (xs : List X) → list_any p xs ≡ false → AllByRecursion (λ x. p x ≡ false) xs
of_none p [] none = tt
of_none p (x ∷ xs) none = let parts = neither_is (p x) (list_any p xs) none in (parts.0, of_none p xs parts.1)

no_first : {A : Type 0} (b : Bool) (a : A) (o : Option A) → cond b (Some a) o ≡ None → (b ≡ false) × (o ≡ None)
no_first true a o e = absurd (cc)
no_first false a o e = (refl, e)

neither : {A : Type 0} (b : Bool) (a : A) (o : Option A) → b ≡ false → o ≡ None → cond b (Some a) o ≡ None
neither true a o is e = absurd (true≢false is)
neither false a o is e = e

all_front : {X : Type 0} (P : X → Type 0) (xs : List X) (y : X) → AllByRecursion P (xs ++ y ∷ []) → AllByRecursion P xs × P y
all_front P [] y all = (tt, all.0)
all_front P (x ∷ xs) y all = let rest = all_front P xs y all.1 in ((all.0, rest.0), rest.1)

apart_none : (earlier rows : List Row) → first_apart earlier rows ≡ None → AllByRecursion (FarFrom earlier) rows × NoneApart rows
apart_none earlier [] e = (tt, tt)
apart_none earlier (r ∷ rows) e =
    let here = no_first (list_any (λ x. are_apart x r) earlier) r (first_apart (earlier ++ r ∷ []) rows) e in
    let rest = apart_none (earlier ++ r ∷ []) rows here.1 in (
      (
        of_none (λ x. are_apart x r) earlier here.0,
        all_weaker (FarFrom (earlier ++ r ∷ [])) (FarFrom earlier)
            (λ x far. (all_front (λ y. are_apart y x ≡ false) earlier r far).0) rows rest.0,
      ),
      (
        all_weaker (FarFrom (earlier ++ r ∷ [])) (λ x. are_apart r x ≡ false)
            (λ x far. (all_front (λ y. are_apart y x ≡ false) earlier r far).1) rows rest.0,
        rest.1,
      ),
    )

none_apart : (earlier rows : List Row) → AllByRecursion (FarFrom earlier) rows → NoneApart rows → first_apart earlier rows ≡ None
none_apart earlier [] far none = refl
none_apart earlier (r ∷ rows) far none =
    neither (list_any (λ x. are_apart x r) earlier) r (first_apart (earlier ++ r ∷ []) rows) (none_of (λ x. are_apart x r) earlier far.0)
    (none_apart (earlier ++ r ∷ []) rows
    (all_both (FarFrom earlier) (λ x. are_apart r x ≡ false) (FarFrom (earlier ++ r ∷ []))
    (λ x before here. all-append (λ y. are_apart y x ≡ false) earlier (r ∷ []) before (here, tt)) rows far.1 none.0) none.1)

far_from_none : (rows : List Row) → AllByRecursion (FarFrom []) rows
far_from_none [] = tt
far_from_none (r ∷ rows) = (tt, far_from_none rows)

unmapped : {A B : Type 0} (f : A → B) (o : Option A) → option_map f o ≡ None → o ≡ None
unmapped f None e = refl
unmapped f (Some a) e = absurd (cc)

pub unnamed_none : (rows : List Row) → apart_named rows ≡ None → NoneApart rows
unnamed_none rows e = (apart_none [] rows (unmapped (name_of 0 1) (first_apart [] rows) e)).1

pub none_unnamed : (rows : List Row) → NoneApart rows → apart_named rows ≡ None
none_unnamed rows none = ap (option_map (name_of 0 1)) (none_apart [] rows (far_from_none rows) none)
