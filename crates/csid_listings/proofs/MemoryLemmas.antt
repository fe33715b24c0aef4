-- Databases in files that are in memory.
use Rattle.std.proofs.Common.{◌≡◌, ◌∙◌, ◌^◌, refl, ap, arith, true, List, [], ◌∷◌, length, inl, inr}
use Rattle.std.specs.List.{AllZip}
use Rattle.sqlite_disk.specs.contracts.memory.MemoryDisk.TheImpl as memory
use Rattle.sqlite_disk.specs.declared.Files.{Files}
use Rattle.sqlite_disk.specs.declared.memory.Memory.{Memory}
use Rattle.sqlite_store.specs.FileStore.{view}
use Rattle.sqlite_store.specs.declared.store.FileStore.{FileStore}
use Rattle.sqlite.proofs.OpenLemmas.{pool_files}
use Rattle.sqlite.specs.Effect.{Database, IsDatabase}
use Rattle.sqlite.specs.Files.{Finds, IsEmpty, IsOpened, file_state}
use Rattle.sqlite.specs.Held.{Held}
use Rattle.sqlite.specs.Schema.{Schema}
use Rattle.sqlite.specs.State.{HasCleanDisk}
use Rattle.sqlite.specs.View.{doubt}
use Rattle.csi_sql.specs.Tables.{no_schema}

-- a file in memory returns the bytes written to it
undoubted : (store : FileStore Memory memory.ghosts) → doubt (view store).is_clean ≡ 0
unfolding doubt
undoubted store = let clean : (view store).is_clean ≡ true = (pool_files store.pool).1 in rw clean refl

none_listed : {B : Type 0} (ys : List B) → AllZip {A = Unit {0}} (λ x y. Unit {0}) [] ys → ys ≡ []
none_listed [] h = refl
none_listed (y ∷ ys) h = absurd h

without_parts : (s : Schema) → s.tables ≡ [] → s.indexes ≡ [] → s.views ≡ [] → s ≡ no_schema
without_parts s tables indexes views =
    ap (λ xs. record s { tables = xs }) tables ∙ ap (λ xs. record s { tables = []; indexes = xs }) indexes ∙ ap (λ xs. record s { tables = []; indexes = []; views = xs }) views

-- a database that lists no object has no table
without_objects : (db : Database) → IsDatabase db → db.trees (2 ^ 32) ≡ [] → db.schema ≡ no_schema
without_objects db sound none =
    let listed = sound.lists.listed in
    without_parts db.schema (none_listed db.schema.tables (rw none at listed.tables)) (none_listed db.schema.indexes (rw none at listed.indexes)) (none_listed db.schema.views (rw none at listed.views))

-- an opening of a file without a byte finds no table
pub opens_none : (files : Files Memory) (conn : Held (FileStore Memory memory.ghosts)) → (HasCleanDisk (file_state conn) → IsOpened conn) → (HasCleanDisk (file_state conn) → Finds files conn)
    → length files.db.bytes.items ≡ 0 → (file_state conn).now.schema ≡ no_schema
opens_none files conn opened found none =
    let clean : HasCleanDisk (file_state conn) = undoubted conn.store in
    let (opens, live) = opened clean in
    let empty : IsEmpty (file_state conn).committed.trees = elim (found clean).reads [
      | inl some ↦ absurd (omega (arith, some.3.found.present, none))
      | inr nothing ↦ nothing.1
    ] in
    without_objects (file_state conn).now (live opens.is_open).0 (ap (λ (d : Database). d.trees (2 ^ 32)) opens.clean ∙ empty.1)
