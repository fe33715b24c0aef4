-- The reading of a change store before calls are served over it.
use Rattle.std.specs.Prelude.{◌≡◌, ◌⊎◌, ℕ, false, true, List, Some, None}
use Rattle.sqlite.specs.Held.{Held, state}
use Rattle.sqlite.specs.Store.{Ghosts}
use Rattle.csi_client.specs.declared.receiving.Received.{Received}
use Rattle.csi_client.specs.declared.receiving.Received.TheVariants.{Reply}
use Rattle.csi_client.specs.declared.receiving.ReceivedReply.{ReceivedReply}
use Rattle.csi_config.specs.declared.config.Config.{Config}
use Rattle.csi_keeper.specs.Invariant.{IsInvariant}
use Rattle.csi_keeper.specs.State.{State}
use Rattle.csi_change_store.specs.Asking.{make_frame}
use Rattle.csi_change_store.specs.Filling.{AreRead}
use Rattle.csi_change_store.specs.Giving.{Gives}
use Rattle.csi_change_store.specs.Pages.{PagesRead, PageItem}
use Rattle.csi_change_store.specs.Walking.{all_items}
use Rattle.csi_change_store.specs.declared.remote.RemoteChangeStore.{RemoteChangeStore}
use Rattle.csi_memory.specs.Holding.{Holds}
use Rattle.csi_memory.specs.declared.mem.MemKeeper.{MemKeeper}
use Rattle.csi_sql.specs.Tables.{no_schema}
use Rattle.csi_sql.specs.declared.formats.TheConstants.{LATEST_FORMAT}
use Rattle.csi_tables.specs.Keeping.{tables_model}
use Rattle.csi_tables.specs.declared.tables.Tables.{Tables}
use Rattle.csi_through.specs.declared.through.Through.{Through}

-- a reply with status 0
abbrev pub IsAgreed : Received → Type 0
IsAgreed received = (reply : ReceivedReply) × (received ≡ Reply reply) × (reply.status ≡ 0)

module _ {P : Type 0} (exchanged : P → P → List ℕ → Received → Type 0) (old new : P) where
  -- a change store agrees to make its row of meta, in one exchange
  abbrev pub MakesMeta : Type 0
  MakesMeta = (received : Received) × exchanged old new make_frame received × IsAgreed received

  -- The row of meta has the latest format, and nothing is asked. Or there is no row at all, and the change
  -- store makes that row.
  abbrev pub ChecksMeta : PagesRead → Type 0
  ChecksMeta notes = ((notes.format ≡ Some LATEST_FORMAT) × (new ≡ old)) ⊎ ((notes.format ≡ None) × (notes.has_rows ≡ false) × MakesMeta)

-- The requests to a change store before calls are served: for all its pages and then, if it has no row, to
-- make its row of meta. The peer is in the state after these exchanges.
pub record AsksAll {P : Type 0} (exchanged : P → P → List ℕ → Received → Type 0) (old new : P) : Type 0 where
  pub pages : List (List PageItem)
  pub notes : PagesRead
  pub mid : P
  pub read : AreRead exchanged old mid notes pages
  pub settled : ChecksMeta exchanged mid new notes

-- The pages give the rows of exactly one State. The State meets every constraint, and `Has` is true of it.
pub record GiveOne (config : Config) (pages : List (List PageItem)) (Has : State → Type 0) : Type 0 where
  pub state : State
  pub given : Gives (all_items pages) state
  pub only : (s : State) → Gives (all_items pages) s → s ≡ state
  pub invariant : IsInvariant config state
  pub has : Has state

-- The keeper refused nothing, neither it nor its change store is down, and its memory is not out of date.
pub record IsUnused {P : Type 0} (through : Through MemKeeper (RemoteChangeStore P)) : Type 0 where
  pub refusals : through.health.refusals ≡ 0
  pub current : through.is_current ≡ true
  pub up : through.health.is_down ≡ false
  pub change_store_up : through.change_store.is_down ≡ false

module _ {S : Type 0} (g : Ghosts S) (config : Config) (conn : Held S) {P : Type 0} (exchanged : P → P → List ℕ → Received → Type 0) (old : P) where
  -- the disk returned the bytes that were written, and the database had no table
  abbrev pub IsOverNone : Tables S → Type 0
  IsOverNone t = ((tables_model g t).doubt ≡ 0) × ((state g conn).now.schema ≡ no_schema)

  -- all requests were made to the change store, and the tables have the State whose rows it gave
  pub record AreTaken (new : P) (t : Tables S) : Type 0 where
    pub asked : AsksAll exchanged old new
    pub held : IsOverNone t → GiveOne config asked.pages (tables_model g t).holds

  -- all requests were made to the change store, and both the tables and the memory have the State whose rows
  -- it gave
  pub record IsCopied (through : Through MemKeeper (RemoteChangeStore P)) : Type 0 where
    pub asked : AsksAll exchanged old through.change_store.peer
    pub tables : Tables S
    pub held : IsOverNone tables → GiveOne config asked.pages (λ s. (tables_model g tables).holds s × Holds through.memory s)
    pub unused : IsUnused through

-- all requests were made to the change store, and the memory has the State whose rows it gave
pub record IsReadFrom {P : Type 0} (config : Config) (exchanged : P → P → List ℕ → Received
    → Type 0) (old : P) (through : Through MemKeeper (RemoteChangeStore P)) : Type 0 where
  pub asked : AsksAll exchanged old through.change_store.peer
  pub held : GiveOne config asked.pages (Holds through.memory)
  pub unused : IsUnused through
