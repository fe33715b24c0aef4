-- An UPDATE of a volume: its old row is removed, and its row with the new value is added.
use Rattle.std.specs.Prelude.{◌≡◌, ℕ, not, [], ◌∷◌, List, map, filter, IsPermutation}
use Rattle.sqlite.specs.Effect.{Database, IsDatabase}
use Rattle.sqlite_rules.specs.Lists.{Has}
use Rattle.csi_sql.specs.Deletes.{is_numbered}
use Rattle.csi_sql.specs.Effects.{AreKeyed}
use Rattle.csi_sql.specs.Rows.{seen_volume, volume_row}

-- the volume with the number has the params, and every other volume is unchanged; if no volume has the
-- number, nothing changes
pub record SetsParams (number : ℕ) (params : List ℕ) (old new : Database) : Type 0 where
  pub schema : new.schema ≡ old.schema
  pub sound : IsDatabase new
  pub rows : AreKeyed seen_volume (old.trees 1) → (name : List ℕ) (bytes : ℕ) (pool caps was : List ℕ)
      → Has (map seen_volume (old.trees 1)) (seen_volume (volume_row number name bytes pool caps was))
      → IsPermutation (volume_row number name bytes pool caps params ∷ filter (λ r. not (is_numbered number r)) (old.trees 1)) (new.trees 1)
  pub none : filter (is_numbered number) (old.trees 1) ≡ [] → new.trees 1 ≡ old.trees 1
  pub meta : new.trees 0 ≡ old.trees 0
  pub attachments : new.trees 3 ≡ old.trees 3
