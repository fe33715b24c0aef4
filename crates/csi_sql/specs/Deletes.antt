-- The rows that a DELETE removes: the table is filtered.
use Rattle.std.specs.Prelude.{◌≡◌, ◌≢◌, ℕ, Bool, not, ◌&&◌, ◌∷◌, [], List, filter, pos}
use Rattle.std.specs.List.{AllByRecursion}
use Rattle.sqlite.specs.Collation.TheVariants.{Binary}
use Rattle.sqlite.specs.declared.types.Value.{Value}
use Rattle.sqlite.specs.declared.types.Value.TheVariants.{Int, Text}
use Rattle.sqlite.specs.Effect.{Database, IsDatabase}
use Rattle.sqlite.specs.Ops.{binary, is_true}
use Rattle.sqlite.specs.Order.{Row, column}
use Rattle.sqlite_sql.specs.declared.ops.BinaryOp.TheVariants.{Compare}
use Rattle.sqlite_sql.specs.declared.ops.CompareOp.TheVariants.{Eq}
use Rattle.csi_sql.specs.Effects.{AreKeyed}

-- SQL's = over bytes and numbers
abbrev pub is_same : Value → Value → Bool
is_same a b = is_true (binary (Compare Eq Binary) a b)

-- the row is an attachment of the volume at the node
abbrev pub is_place : ℕ → List ℕ → Row → Bool
is_place number node r = is_same (column r 1) (Int (pos number)) && is_same (column r 2) (Text node)

-- the row is an attachment of the volume
abbrev pub is_of : ℕ → Row → Bool
is_of number r = is_same (column r 1) (Int (pos number))

-- the row is the volume with the number
abbrev pub is_numbered : ℕ → Row → Bool
is_numbered number r = is_same (column r 0) (Int (pos number))

-- the rows of the table that pass are removed, and no other row is
pub record Drops (tree : ℕ) (see : Row → Row) (pass : Row → Bool) (old new : Database) : Type 0 where
  pub schema : new.schema ≡ old.schema
  pub sound : IsDatabase new
  pub rows : AreKeyed see (old.trees tree) → new.trees tree ≡ filter (λ r. not (pass r)) (old.trees tree)
  pub others : AllByRecursion (λ t. t ≢ tree → new.trees t ≡ old.trees t) (0 ∷ 1 ∷ 3 ∷ [])
