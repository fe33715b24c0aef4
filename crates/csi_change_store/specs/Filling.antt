-- The rows of a change store, put into new tables on a connection.
use Rattle.std.specs.Prelude.{◌≡◌, ◌≢◌, ℕ, List, [], IsTrue}
use Rattle.sqlite.specs.Effect.{Database}
use Rattle.sqlite.specs.Held.{Held, state}
use Rattle.sqlite.specs.State.{HasCleanDisk}
use Rattle.sqlite.specs.Store.{Ghosts}
use Rattle.csi_client.specs.declared.receiving.Received.{Received}
use Rattle.csi_sql.specs.Making.{MakesTables}
use Rattle.csi_sql.specs.Tables.{no_schema, schema}
use Rattle.csi_sql.specs.Transactions.{ChangesFrom}
use Rattle.csi_change_store.specs.Pages.{PageItem, AreTyped, PagesRead}
use Rattle.csi_change_store.specs.Taking.{PutsAll}
use Rattle.csi_change_store.specs.Walking.{Walks, all_items, no_notes}

-- all pages of a change store, by exchanges with its peer; the last page has an empty token
pub record AreRead {P : Type 0} (exchanged : P → P → List ℕ → Received → Type 0) (old new : P) (notes : PagesRead) (pages : List (List PageItem)) : Type 0 where
  pub some : pages ≢ []
  pub walks : Walks exchanged pages no_notes old new notes
  pub last : notes.token ≡ []
  pub typed : AreTyped (all_items pages)

-- new tables were made, and the rows of all items were put into them
pub record HasRows (items : List PageItem) (old new : Database) : Type 0 where
  pub made : Database
  pub makes : MakesTables old made
  pub puts : PutsAll items made new

module _ {S : Type 0} (g : Ghosts S) (a b : Held S) {P : Type 0} (exchanged : P → P → List ℕ → Received → Type 0) (old new : P) (notes : PagesRead) where
  pub record Fills : Type 0 where
    pub pages : List (List PageItem)
    pub read : AreRead exchanged old new notes pages
    pub clean : HasCleanDisk (state g b) → HasCleanDisk (state g a)
    pub rows : HasCleanDisk (state g b) → IsTrue (state g a).is_open → ChangesFrom schema (PutsAll (all_items pages)) (state g a) (state g b)

  -- New tables were made and committed, with the rows of all pages in them.
  pub record ReadsRows : Type 0 where
    pub pages : List (List PageItem)
    pub read : AreRead exchanged old new notes pages
    pub is_open : HasCleanDisk (state g b) → IsTrue (state g b).is_open
    pub committed : HasCleanDisk (state g b) → (state g b).committed ≡ (state g b).now
    pub rows : HasCleanDisk (state g b) → (state g a).now.schema ≡ no_schema → HasRows (all_items pages) (state g a).now (state g b).now
