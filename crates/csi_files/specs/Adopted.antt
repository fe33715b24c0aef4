-- Calls that are served over a keeper, and over adopted tables.
use Rattle.std.specs.Prelude.{◌≡◌, ◌⊎◌, ◌≤◌, ℕ, Bool, false, IsTrue}
use Rattle.sqlite.specs.Held.{Held}
use Rattle.sqlite.specs.Store.{Ghosts}
use Rattle.csi_config.specs.declared.config.Config.{Config}
use Rattle.csi_keeper.specs.Keeper.{IsQuiet}
use Rattle.csi_keeper.specs.Model.{Model}
use Rattle.csi_keeper.specs.State.{State}
use Rattle.csi_keeper.specs.declared.change.StoreFault.{StoreFault}
use Rattle.csi_keeper.specs.declared.change.StoreFault.TheVariants.{NoMemory, Refused}
use Rattle.csi_memory.specs.Holding.{mem_model}
use Rattle.csi_memory.specs.declared.mem.MemKeeper.{MemKeeper}
use Rattle.csi_sql.specs.Tables.{no_schema}
use Rattle.csi_tables.specs.Keeping.{connection_of, tables_model}
use Rattle.csi_tables.specs.declared.tables.Tables.{Tables}
use Rattle.csi_through.specs.Copying.{IsWhy}
use Rattle.csi_through.specs.Through.{Opens, through_model}
use Rattle.csi_through.specs.declared.change_store.KeeperChanges.{KeeperChanges}
use Rattle.csi_through.specs.declared.through.Through.{Through}
use Rattle.csi_adoption.specs.Adopting.{IsAdopted, IsUnadopted}
use Rattle.csi_server.specs.Serving.{Serves, Writes}
use Rattle.csi_server.specs.Volumes.{seen, volumes}
use Rattle.csi_files.specs.Streams.{Streams}
use Rattle.csi_files.specs.declared.adopted.Source.{Source}
use Rattle.csi_files.specs.declared.adopted.Source.TheVariants.{Copy, File}
use Rattle.csi_files.specs.declared.reserve.Reserved.{Reserved}
use Rattle.csi_files.specs.declared.run.Refusal.{Refusal}
use Rattle.csi_files.specs.declared.run.Refusal.TheVariants.{Blank, NotAdopted, NotCopied}
use Rattle.csi_files.specs.declared.run.RunReport.{RunReport}

-- the same store, with other counts of refusals
abbrev pub with_counts : ℕ → Bool → Model State → Model State
with_counts refusals is_down m = record m { refusals = refusals; is_down = is_down }

-- Calls were served over a keeper. The report has the keeper's count of refusals.
pub record ServesWith (config : Config) (first last : Model State) (served : RunReport) (bytes : Streams) : Type 0 where
  pub serves : Serves (volumes config) (seen config first) (seen config last) bytes.unread bytes.left bytes.held bytes.holds served.end
  pub clean : first.doubt ≤ last.doubt
  pub writes : Writes bytes.unread bytes.left bytes.held bytes.holds served.end
  pub counted : served.refusals ≡ last.refusals
  pub down : served.is_down ≡ last.is_down

-- Calls were served over a keeper. The count of refusals in the report begins with the run.
pub record ServesFrom (config : Config) (first last : Model State) (served : RunReport) (bytes : Streams) : Type 0 where
  pub serves : Serves (volumes config) (seen config (with_counts 0 false first))
      (seen config (with_counts served.refusals served.is_down last)) bytes.unread bytes.left bytes.held bytes.holds served.end
  pub clean : first.doubt ≤ last.doubt
  pub writes : Writes bytes.unread bytes.left bytes.held bytes.holds served.end

module _ {S : Type 0} (g : Ghosts S) (config : Config) (conn : Held S) where
  -- tables were adopted on a connection, and calls were served over them
  pub record ServesOver (back : Held S) (served : RunReport) (bytes : Streams) : Type 0 where
    pub first : Tables S
    pub adopted : IsAdopted g config conn first
    pub last : Tables S
    pub run : ServesFrom config (tables_model g first) (tables_model g last) served bytes
    pub back_is : back ≡ connection_of g last

  -- tables were adopted on a connection, and only read
  pub record IsRead (back : Held S) : Type 0 where
    pub first : Tables S
    pub adopted : IsAdopted g config conn first
    pub last : Tables S
    pub quiet : IsQuiet (tables_model g first) (tables_model g last)
    pub back_is : back ≡ connection_of g last

  -- the database is refused for this reason before its volumes are read; `back` is its connection after that
  abbrev pub IsUnserved : Bool → Refusal → Held S → Type 0
  IsUnserved is_existing Blank back = (back ≡ conn) × (conn.schema ≡ no_schema) × IsTrue is_existing
  IsUnserved is_existing (NotAdopted fault) back = IsUnadopted g config conn fault back
  IsUnserved is_existing (NotCopied fault) back = ⊥

  -- as `IsUnserved`, but the database may also be refused while its volumes are read
  abbrev pub IsRefused : Bool → Refusal → Held S → Type 0
  IsRefused is_existing Blank back = IsUnserved is_existing Blank back
  IsRefused is_existing (NotAdopted fault) back = IsUnserved is_existing (NotAdopted fault) back
  IsRefused is_existing (NotCopied fault) back = IsRead back × (fault ≡ Refused)

module _ {S : Type 0} (g : Ghosts S) (first : Tables S) where
  abbrev model_of : Tables S → Model State
  model_of t = tables_model g t

  -- calls were served over tables, and their connection is returned
  pub record ServesTables (config : Config) (back : Held S) (report : RunReport) (bytes : Streams) : Type 0 where
    pub last : Tables S
    pub run : ServesFrom config (model_of first) (model_of last) report bytes
    pub back_is : back ≡ connection_of g last

  -- the volumes of tables were read, until a read was refused
  pub record IsReadBack (back : Held S) : Type 0 where
    pub last : Tables S
    pub quiet : IsQuiet (model_of first) (model_of last)
    pub back_is : back ≡ connection_of g last

  -- no call was served over tables, since a read was refused
  abbrev pub IsRefusedBack : Refusal → Held S → Type 0
  IsRefusedBack Blank back = ⊥
  IsRefusedBack (NotAdopted fault) back = ⊥
  IsRefusedBack (NotCopied fault) back = IsReadBack back × (fault ≡ Refused)

  -- the tables keep their State, and the fault is the reason why they were not copied
  abbrev pub IsUncopied : Tables S → StoreFault → Type 0
  IsUncopied mid fault = IsQuiet (model_of first) (model_of mid) × IsWhy (model_of first) (model_of mid) fault

  module _ {O : Type 0} where
    -- the volumes of tables were copied into memory
    abbrev pub IsCopied : Through MemKeeper (KeeperChanges (Reserved S O)) → Type 0
    IsCopied through = Opens (model_of first) (through_model mem_model (λ logged. model_of logged.keeper.tables) through)

    -- Without `is_low_memory` calls are answered from a copy, or from the file if memory had no room for a
    -- copy. With it they are answered from the file.
    abbrev pub IsSourceOf : Bool → Source S O → Type 0
    IsSourceOf is_low_memory (Copy through) = (is_low_memory ≡ false) × IsCopied through
    IsSourceOf is_low_memory (File reserved) = (IsTrue is_low_memory × (reserved.tables ≡ first))
        ⊎ ((is_low_memory ≡ false) × IsUncopied reserved.tables NoMemory)
