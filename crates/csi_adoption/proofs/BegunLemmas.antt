-- Sums that are begun, one for each item of a list.
use Rattle.std.proofs.Common.{◌≡◌, subst, ℕ, ◌+◌, ◌<◌, ◌≤◌, List, [], ◌∷◌, ◌++◌, length, take, get_or}
use Rattle.std.specs.List.{AllZip}
use Rattle.std.proofs.lemmas.List.{take_all, take_more}
use Rattle.std.proofs.lemmas.Slice.Zip.{all_zipped_more}

module _ {X Y : Type 0} (R : X → Y → Type 0) (xs : List X) (i : ℕ) where
  pub begun_more : (x : X) (ys : List Y) (y : Y) → i < length xs → x ≡ get_or xs i x → AllZip R (take i xs) ys → R x y → AllZip R (take (i + 1) xs) (ys ++ y ∷ [])
  begun_more x ys y low is all here = rw (take_more xs i x low) (subst (λ z. AllZip R (take i xs ++ z ∷ []) (ys ++ y ∷ [])) is (all_zipped_more R (take i xs) ys x y all here))

  pub begun_all : (ys : List Y) → length xs ≤ i → AllZip R (take i xs) ys → AllZip R xs ys
  begun_all ys most all = subst (λ zs. AllZip R zs ys) (take_all i xs most) all
