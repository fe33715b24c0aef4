-- Reading a change store, from its pages to a memory.
use Rattle.std.proofs.Common.{◌≡◌, ◌∙◌, refl, sym, ap, subst, inl, inr, arith, ℕ, false, true, List}
use Rattle.sqlite_disk.specs.contracts.memory.MemoryDisk.TheImpl as memory
use Rattle.sqlite_disk.specs.declared.memory.Memory.{Memory}
use Rattle.sqlite_store.specs.FileStore.{view}
use Rattle.sqlite_store.specs.declared.store.FileStore.{FileStore}
use Rattle.sqlite.proofs.OpenLemmas.{pool_files}
use Rattle.sqlite.specs.Effect.{Database}
use Rattle.sqlite.specs.Files.{file_state, over_files}
use Rattle.sqlite.specs.Held.{Held, state}
use Rattle.sqlite.specs.State.{HasCleanDisk}
use Rattle.sqlite.specs.Store.{Ghosts}
use Rattle.sqlite.specs.View.{doubt}
use Rattle.csi_adoption.specs.Adopting.{IsAdopted, IsStateOf}
use Rattle.csi_client.specs.declared.receiving.Received.{Received}
use Rattle.csi_config.specs.declared.config.Config.{Config}
use Rattle.csi_keeper.specs.Keeper.{IsQuiet}
use Rattle.csi_keeper.specs.State.{State}
use Rattle.csi_change_store.specs.Filling.{ReadsRows}
use Rattle.csi_change_store.specs.Giving.{GivesRows}
use Rattle.csi_change_store.specs.Pages.{PagesRead}
use Rattle.csi_change_store.specs.Walking.{all_items}
use Rattle.csi_change_store.specs.declared.remote.RemoteChangeStore.{RemoteChangeStore}
use Rattle.csi_memory.specs.declared.mem.MemKeeper.{MemKeeper}
use Rattle.csi_sql.specs.Tables.{no_schema, schema}
use Rattle.csi_tables.specs.Holding.{IsEitherRows}
use Rattle.csi_tables.specs.Keeping.{tables_model}
use Rattle.csi_tables.specs.Laws.{OneState}
use Rattle.csi_tables.specs.declared.tables.Tables.{Tables}
use Rattle.csi_through.specs.Copying.{IsCopy}
use Rattle.csi_through.specs.declared.through.Through.{Through}
use Rattle.csid.specs.Reading.{AreTaken, IsCopied, IsReadFrom, IsUnused, ChecksMeta}
use Rattle.csid.proofs.GivenLemmas.{given_back, moved}

-- a file in memory returns the bytes written to it
undoubted : (store : FileStore Memory memory.ghosts) → doubt (view store).is_clean ≡ 0
unfolding doubt
undoubted store = let clean : (view store).is_clean ≡ true = (pool_files store.pool).1 in rw clean refl

not_none : schema ≡ no_schema → ⊥
not_none e = let tables = ap (λ s. s.tables) e in absurd cc

-- the rows of a database with our tables are the rows of its State
rows_of : (db : Database) (s : State) → db.schema ≡ schema → IsStateOf db s → IsEitherRows s db.trees
rows_of db s ours (inl it) = it.1
rows_of db s ours (inr none) = absurd (not_none (sym ours ∙ none.0))

module _ {S : Type 0} (g : Ghosts S) (config : Config) (conn : Held S) {P : Type 0} (exchanged : P → P → List ℕ → Received → Type 0) (old : P) where
  -- the tables that adoption makes of a connection with the rows of all pages
  pub taken : GivesRows → OneState → (mid new : P) (notes : PagesRead) (filled : Held S) (t : Tables S) → ReadsRows g conn filled exchanged old mid notes → ChecksMeta exchanged mid new notes
      → IsAdopted g config filled t → AreTaken g config conn exchanged old new t
  taken gives one mid new notes filled t rows settled adopted = record {
    asked = record { pages = rows.pages; notes = notes; mid = mid; read = rows.read; settled = settled };
    held = λ over.
        let clean : HasCleanDisk (state g filled) = omega (arith, adopted.clean, over.0) in
        let now = (state g filled).now in
        let has = rows.rows clean over.1 in
        let items = all_items rows.pages in
        let ours : now.schema ≡ schema = (moved items has.made now has.puts).schema ∙ has.makes.schema in
        let held = adopted.held over.0 in
        let kept : IsEitherRows held.0 now.trees = rows_of now held.0 ours (subst (λ (d : Database). IsStateOf d held.0) (rows.committed clean) held.1) in
        record {
          state = held.0;
          given = given_back items (state g conn).now has.made now held.0 has.makes has.puts kept;
          only = λ s given. one s held.0 now.trees (inr (gives items (state g conn).now has.made now s has.makes has.puts given)) kept;
          invariant = held.2;
          has = held.3;
        };
  }

  -- a memory that is a copy of the tables
  copied_over : (t u : Tables S) (through : Through MemKeeper (RemoteChangeStore P)) → AreTaken g config conn exchanged old through.change_store.peer t → IsQuiet (tables_model g t) (tables_model g u)
      → IsCopy (tables_model g t) (tables_model g u) through.memory → IsUnused through → IsCopied g config conn exchanged old through
  copied_over t u through it quiet copy unused = record {
    asked = it.asked;
    tables = u;
    held = λ over.
        let early : (tables_model g t).doubt ≡ 0 = omega (arith, quiet.clean, over.0) in
        let had = it.held (early, over.1) in
        record { state = had.state; given = had.given; only = had.only; invariant = had.invariant; has = (quiet.state over.0 had.state had.has, copy over.0 config had.state had.has had.invariant) };
    unused = unused;
  }

  pub copied : (t u : Tables S) (through : Through MemKeeper (RemoteChangeStore P)) (peer : P) (change_store : RemoteChangeStore P) → AreTaken g config conn exchanged old peer t → IsQuiet (tables_model g t) (tables_model g u)
      → IsCopy (tables_model g t) (tables_model g u) through.memory → through.change_store ≡ change_store → (change_store.peer ≡ peer) × (change_store.is_down ≡ false)
      → (through.health.refusals ≡ 0) × (through.is_current ≡ true) × (through.health.is_down ≡ false) → IsCopied g config conn exchanged old through
  copied t u through peer change_store it quiet copy over begun fresh =
      copied_over t u through (subst (λ (p : P). AreTaken g config conn exchanged old p t) (sym (ap (λ (l : RemoteChangeStore P). l.peer) over ∙ begun.0)) it) quiet copy
      (record { refusals = fresh.0; current = fresh.1; up = fresh.2; change_store_up = ap (λ (l : RemoteChangeStore P). l.is_down) over ∙ begun.1 })

module _ (config : Config) {P : Type 0} (exchanged : P → P → List ℕ → Received → Type 0) (old : P) where
  -- a change store was read over files in memory, if the database had no table
  pub read_from : (conn : Held (FileStore Memory memory.ghosts)) (through : Through MemKeeper (RemoteChangeStore P)) → (file_state conn).now.schema ≡ no_schema → IsCopied over_files config conn exchanged old through
      → IsReadFrom config exchanged old through
  read_from conn through none it = record {
    asked = it.asked;
    held = let had = it.held (undoubted it.tables.conn.store, none) in record { state = had.state; given = had.given; only = had.only; invariant = had.invariant; has = had.has.1 };
    unused = it.unused;
  }
