-- The model of a keeper or a store: the parts of it that contracts describe.
use Rattle.std.specs.Prelude.{ℕ, Bool}

pub record Model (S : Type 0) : Type 1 where
  -- the states that the keeper may have
  pub holds : S → Type 0
  -- 0 while the disk or store below has returned the bytes that were written to it
  pub doubt : ℕ
  -- how many calls were refused, up to 2 ^ 64 - 1
  pub refusals : ℕ
  -- the states that a stop at this moment may leave
  pub survivors : S → Type 0
  -- a stop at this moment leaves one of the survivors
  pub tied : Type 0
  -- the store answers nothing until it is opened again
  pub is_down : Bool
