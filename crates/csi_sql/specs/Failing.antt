-- The reasons why a call on a connection fails.
use Rattle.std.specs.Prelude.{◌≡◌, ◌⊎◌, ℕ, false, List, IsTrue, IsSome, Some, None, Result, Ok, Err, IfErr}
use Rattle.sqlite.specs.Does.{Does}
use Rattle.sqlite.specs.Effect.{Database, RefusesToRead}
use Rattle.sqlite.specs.Held.{Held, state}
use Rattle.sqlite.specs.Listing.{understood, reads_listing, IsSourceOf}
use Rattle.sqlite.specs.Order.{Row}
use Rattle.sqlite.specs.Schema.{Schema}
use Rattle.sqlite.specs.State.{State, HasCleanDisk, IsNoStatement, is_disk_error, mode_of, text_of}
use Rattle.sqlite.specs.Store.{Ghosts}
use Rattle.sqlite.specs.declared.error.Error.{Error}
use Rattle.sqlite.specs.declared.error.Error.TheVariants.{SqliteFailure}
use Rattle.sqlite.specs.declared.error.ErrorCode.TheVariants.{Closed, OperationInterrupted, OutOfMemory, TooBig}
use Rattle.sqlite_disk.specs.Disk.{MoreFaults}
use Rattle.sqlite_resolve.specs.declared.compiled.Compiled.{Compiled}

-- The error and its cause. A store may report lack of memory at any time; each other error has a cause that
-- can be seen.
pub data FailsFor (Refuses : Error → Type 0) (old new : State) (e : Error) : Type 0 where
  for_memory : e ≡ SqliteFailure OutOfMemory → FailsFor Refuses old new e
  -- the disk failed since the call began
  by_disk : IsTrue (is_disk_error e) → MoreFaults old.faults new.faults → FailsFor Refuses old new e
  -- a fault had shut the connection
  as_shut : e ≡ SqliteFailure Closed → old.is_open ≡ false → FailsFor Refuses old new e
  -- the connection has a limit on the steps of a statement
  at_limit : e ≡ SqliteFailure OperationInterrupted → IsSome old.step_limit → FailsFor Refuses old new e
  -- the request is refused
  as_refused : Refuses e → FailsFor Refuses old new e

-- SQL's rules refuse the statement of the text with these parameters, or one of its rows is too big to be
-- stored
abbrev pub SqlRefuses : List ℕ → Row → State → Error → Type 0
SqlRefuses text params s e =
    (c : Compiled) × (understood s.now.schema text ≡ Ok c)
    × (Does s.step_limit (mode_of s) params s.now (text_of text c) c.returning c.command (Err (Some e))
    ⊎ ((e ≡ SqliteFailure TooBig) × Does s.step_limit (mode_of s) params s.now (text_of text c) c.returning c.command (Err None)))

-- the text is no statement, or SQL's rules refuse its read of the database
abbrev pub SqlRefusesToRead : List ℕ → Row → State → Error → Type 0
SqlRefusesToRead text params s e =
    IsNoStatement s text params e
    ⊎ ((c : Compiled) × (understood s.now.schema text ≡ Ok c) × (db : Database) × IsSourceOf (reads_listing s.now.schema text) s.now db
    × RefusesToRead s.step_limit c.command db params e)

-- no error: nothing is refused
abbrev pub Unrefused : Error → Type 0
Unrefused e = ⊥

module _ (before : Schema) (Refuses : State → Error → Type 0) (old new : State) where
  -- a call that returned an error, over tables of a schema
  abbrev pub FailsOver : {X : Type 0} → Result X Error → Type 0
  FailsOver r = old.now.schema ≡ before → IfErr r (FailsFor (Refuses old) old new)

module _ {S : Type 0} (g : Ghosts S) (old new : Held S) where
  -- a statement that returned an error inside a transaction
  abbrev pub FailsFrom : {X : Type 0} → Schema → (State → Error → Type 0) → Result X Error → Type 0
  FailsFrom before Refuses r = HasCleanDisk (state g new) → IsTrue old.in_transaction → FailsOver before Refuses (state g old) (state g new) r
