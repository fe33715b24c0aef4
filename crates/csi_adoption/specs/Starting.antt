-- A fold before its first row.
use Rattle.std.specs.Prelude.{◌≡◌, ℕ, true, List, None}
use Rattle.csi_constraints.specs.declared.named.FirstBroken.{FirstBroken}
use Rattle.csi_constraints.specs.declared.rising.Rising.{Rising}
use Rattle.csi_constraints.specs.declared.sums.TextSum.{TextSum}
use Rattle.csi_constraints.specs.declared.sums.Weight.{Weight}

-- no row has broken the constraint yet; a row that breaks it is named by these columns
pub record IsUnbroken {T : Type 0} (number text : ℕ) (fold : FirstBroken T) : Type 0 where
  pub number_is : fold.number ≡ number
  pub text_is : fold.text ≡ text
  pub none : fold.found ≡ None

-- a fold over the integers of the first column, before the first row
pub record IsRisingStart (fold : Rising) : Type 0 where
  pub column : fold.column ≡ 0
  pub good : fold.good ≡ true
  pub last : fold.last ≡ None

-- a sum before the first row
pub record IsBegun (at : ℕ) (text : List ℕ) (weight : Weight) (sum : TextSum) : Type 0 where
  pub column : sum.column ≡ at
  pub text_is : sum.text.items ≡ text
  pub weight_is : sum.weight ≡ weight
  pub none : sum.sum ≡ 0
