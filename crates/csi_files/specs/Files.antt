-- The State that a database file and its WAL hold.
use Rattle.std.specs.Prelude.{◌≡◌, ◌⊎◌, ℕ, Bool, false, [], IsTrue, ⊤}
use Rattle.sqlite_disk.specs.declared.Disk as disk
use Rattle.sqlite_disk.specs.declared.Files.{Files}
use Rattle.sqlite_wal.specs.Files.{outcomes}
use Rattle.sqlite_wal.specs.PageSize.{IsPageSize}
use Rattle.sqlite_wal.specs.Reads.{AreClean, are_clean}
use Rattle.sqlite_wal.specs.Recovery.{Image}
use Rattle.sqlite_pool.specs.Stored.{stored_size}
use Rattle.sqlite_trees.specs.Tree.{Trees}
use Rattle.sqlite_trees.specs.View.{doubt}
use Rattle.sqlite_catalog.specs.Listing.{IsSound}
use Rattle.sqlite_store.specs.declared.store.FileStore.{FileStore}
use Rattle.sqlite.specs.Files.{IsOpened, file_state, image_of}
use Rattle.sqlite.specs.Held.{Held}
use Rattle.sqlite.specs.Opening.{HoldsAt}
use Rattle.sqlite.specs.Start.{FindsIn}
use Rattle.csi_keeper.specs.Model.{Model}
use Rattle.csi_keeper.specs.State.{State, first_state}
use Rattle.csi_sql.specs.Tables.{no_schema}
use Rattle.csi_tables.specs.Holding.{IsEitherRows}
use Rattle.csi_adoption.specs.Adopting.{IsStateOf}

-- the trees are the rows of the State, or the database has no table and the State is the first one
abbrev pub IsStateIn : Trees → State → Type 0
IsStateIn db s = IsEitherRows s db ⊎ (IsSound no_schema db × (s ≡ first_state 1))

-- Two files hold a database with these trees. If its pages end in checksums, the pages in the WAL do too:
-- each run leaves them so.
abbrev pub HoldsSealed : Image → Trees → Type 0
HoldsSealed image db = (size : ℕ) × IsPageSize (stored_size size) × HoldsAt size image db

-- The contents of two files are a database of the State. Such files fail to open only if memory runs out, the
-- disk fails or a limit is reached.
pub record HasState (image : Image) (s : State) : Type 0 where
  pub db : Trees
  pub holds : ∥ HoldsSealed image db ∥₁
  pub state : IsStateIn db s

-- The model of two files by their contents. If they hold no table, their State is the first one.
abbrev pub image_model : Image → Bool → Model State
image_model image is_new = record {
  holds = λ s. HasState image s ⊎ (IsTrue is_new × (s ≡ first_state 1));
  doubt = 0;
  refusals = 0;
  survivors = λ _. ⊥;
  tied = ⊤;
  is_down = false;
}

-- the database file without its WAL
abbrev pub alone : Image → Image
alone image = record image { log = [] }

module _ {D : Type 0} (g : disk.Ghosts D) where
  -- the database file alone has the State that it has together with its WAL
  abbrev pub HasAlone : Files D → Type 0
  HasAlone files = AreClean g files.log files.db → (s : State) → HasState (image_of g files) s → HasState (alone (image_of g files)) s

  -- an opening of files with these contents may find a database of the State, if the disk returns the
  -- contents
  pub record MayFind (image : Image) (s : State) : Type 0 where
    pub conn : Held (FileStore D g)
    pub opened : IsOpened conn
    pub found : FindsIn image (file_state conn)
    pub state : IsStateOf (file_state conn).committed s

  -- The model of two files that no program has open. A stop leaves the States that may be found in the
  -- outcomes of a crash.
  abbrev pub files_model : Files D → ℕ → Bool → Model State
  files_model files refusals is_down = record {
    holds = HasState (image_of g files);
    doubt = doubt (are_clean g files.log files.db);
    refusals = refusals;
    survivors = λ s. (image : Image) × outcomes g files.log files.db image × MayFind image s;
    tied = (image : Image) → outcomes g files.log files.db image → ∥ ((s : State) × HasState image s) ∥₁;
    is_down = is_down;
  }
