-- A vector that was only appended to.
use Rattle.std.specs.Prelude.{◌≡◌, ℕ, List, ◌++◌}

pub record Keeps (old new : List ℕ) : Type 0 where
  pub tail : List ℕ
  pub is : new ≡ old ++ tail
