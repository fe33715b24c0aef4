-- Facts of a list without its last item.
use Rattle.std.proofs.Common.{List, [], ◌∷◌, ◌++◌}
use Rattle.std.specs.List.{AllByRecursion}
use Rattle.sqlite.specs.Tree.{IsAscending}

pub all_front : {X : Type 0} (P : X → Type 0) (xs : List X) (y : X) → AllByRecursion P (xs ++ y ∷ []) → AllByRecursion P xs × P y
all_front P [] y all = (tt, all.0)
all_front P (x ∷ xs) y all = let rest = all_front P xs y all.1 in ((all.0, rest.0), rest.1)

pub ascending_front : {X : Type 0} (R : X → X → Type 0) (xs : List X) (y : X) → IsAscending R (xs ++ y ∷ []) → IsAscending R xs × AllByRecursion (λ x. R x y) xs
ascending_front R [] y up = (tt, tt)
ascending_front R (x ∷ xs) y up =
    let first = all_front (R x) xs y up.0 in
    let rest = ascending_front R xs y up.1 in
    ((first.0, rest.0), (first.1, rest.1))
