-- The contents that reads of files at a path return.
use Rattle.std.proofs.Common.{◌≡◌, ℕ, Bool, List, cond, inl, inr}
use Rattle.sqlite_disk.specs.Events.{Event, replay}
use Rattle.sqlite_wal.specs.Recovery.{Image}
use Rattle.sqlite.specs.declared.error.Error.{Error}
use Rattle.csi_files.specs.Path.{IsNoFile, IsNotGiven, NamesNone, NotGiven, NotSeeded, no_file_error}

abbrev pub image : List ℕ → List ℕ → Image
image log db = record { log = log; db = db }

-- the contents that a read returns of a file that had these contents
abbrev pub read_of : List ℕ → List ℕ → Bool → List Event → List ℕ
read_of log db is_log history = (replay (cond is_log log db) history).seen

-- files that were not opened are no files, for this cause
pub none_given : (path : List ℕ) (e : Error) → IsNotGiven path e → IsNoFile e
none_given path e (inl named) = (NamesNone, named.1)
none_given path e (inr given) = (NotGiven given.1.0, given.1.1)

pub none_seeded : (e : Error) → e ≡ no_file_error NotSeeded → IsNoFile e
none_seeded e is = (NotSeeded, is)
