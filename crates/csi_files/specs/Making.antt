-- The contents of files while a database is made in them.
use Rattle.std.specs.Prelude.{◌≡◌, ◌⊎◌, ◌<◌, ◌≤◌, ◌+◌, ◌==◌, ℕ, List, [], ◌∷◌, ◌++◌, codes, length, slice_index, get_or, IsTrue}
use Rattle.std.specs.List.{list_all}
use Rattle.sqlite_disk.specs.declared.Disk as disk
use Rattle.sqlite_disk.specs.declared.Files.{Files}
use Rattle.sqlite_pages.specs.PageMap.{PageMap}
use Rattle.sqlite_pool.specs.Opening.{IsBlankFile, IsNew}
use Rattle.sqlite_pool.specs.Stored.{Recovers}
use Rattle.sqlite_wal.specs.Files.{outcomes}
use Rattle.sqlite_wal.specs.Reads.{AreClean}
use Rattle.sqlite_wal.specs.Recovery.{Image}
use Rattle.sqlite.specs.Files.{image_of}
use Rattle.std.specs.declared.io.ErrorKind.{ErrorKind}
use Rattle.std.specs.declared.io.ErrorKind.TheVariants as kind
use Rattle.sqlite_pages.specs.declared.error.Error.TheVariants as pages
use Rattle.csi_files.specs.declared.making.NotLaidOut.{NotLaidOut}
use Rattle.csi_files.specs.declared.making.NotLaidOut.TheVariants.{Failed}

-- the page size of a new database, in bytes
abbrev pub page_bytes : ℕ
page_bytes = 1024

-- the size of the smallest WAL with a change: the WAL's header, a frame's header and the smallest page
abbrev pub wal_with_frame_bytes : ℕ
wal_with_frame_bytes = 32 + 24 + 512

-- no database was made yet: the database file is empty, or a stop left its first page unfinished and the WAL
-- has no valid frame
abbrev pub IsUnmade : Image → Type 0
IsUnmade = IsBlankFile page_bytes

-- the database file is empty, and its WAL is long enough for a change
abbrev pub IsLost : Image → Type 0
IsLost image = (length image.db ≡ 0) × (wal_with_frame_bytes ≤ length image.log)

-- the database file is longer than a page
abbrev pub IsLarger : Image → Type 0
IsLarger image = page_bytes < length image.db

-- The beginning of the first page that earlier releases wrote: the magic text, a page size of 1,024 bytes,
-- the file format, one page, schema format 4, UTF-8, the version of SQLite, and a leaf without cells.
abbrev pub first_bytes : List ℕ
first_bytes = codes "SQLite format 3"
    ++ 0 ∷ 4 ∷ 0 ∷ 2 ∷ 2 ∷ 0 ∷ 64 ∷ 32 ∷ 32 ∷ 0 ∷ 0 ∷ 0 ∷ 0 ∷ 0 ∷ 0 ∷ 0 ∷ 1
    ∷ 0 ∷ 0 ∷ 0 ∷ 0 ∷ 0 ∷ 0 ∷ 0 ∷ 0 ∷ 0 ∷ 0 ∷ 0 ∷ 0 ∷ 0 ∷ 0 ∷ 0 ∷ 4
    ∷ 0 ∷ 0 ∷ 0 ∷ 0 ∷ 0 ∷ 0 ∷ 0 ∷ 0 ∷ 0 ∷ 0 ∷ 0 ∷ 1 ∷ 0 ∷ 0 ∷ 0 ∷ 0
    ∷ 0 ∷ 0 ∷ 0 ∷ 0 ∷ 0 ∷ 0 ∷ 0 ∷ 0 ∷ 0 ∷ 0 ∷ 0 ∷ 0 ∷ 0 ∷ 0 ∷ 0 ∷ 0
    ∷ 0 ∷ 0 ∷ 0 ∷ 0 ∷ 0 ∷ 0 ∷ 0 ∷ 0 ∷ 0 ∷ 0 ∷ 0 ∷ 0 ∷ 0 ∷ 0 ∷ 0 ∷ 0
    ∷ 0 ∷ 46 ∷ 118 ∷ 136 ∷ 13 ∷ 0 ∷ 0 ∷ 0 ∷ 0 ∷ 4 ∷ 0 ∷ 0 ∷ []

-- the byte at a position of this first page; 0 after `first_bytes`
abbrev pub page_byte : ℕ → ℕ
page_byte at = get_or first_bytes at 0

-- the bytes are a beginning of this first page
abbrev pub BeginsPage : List ℕ → Type 0
BeginsPage bytes = (i : ℕ) → i < length bytes → slice_index bytes i ≡ page_byte i

-- a stop may have left these bytes of the first page: two or more, and either all 0 or a beginning of the
-- page that is shorter than the page
pub record IsPart (bytes : List ℕ) : Type 0 where
  pub some : 2 ≤ length bytes
  pub fits : length bytes ≤ page_bytes
  pub part : IsTrue (list_all (λ b. b == 0) bytes) ⊎ ((length bytes < page_bytes) × BeginsPage bytes)

-- the database file has only such a part of the first page, and the WAL is empty
abbrev pub IsTorn : Image → Type 0
IsTorn image = (length image.log ≡ 0) × IsPart image.db

-- a database is to be made in files with these contents
abbrev pub IsToMake : Image → Type 0
IsToMake image = IsUnmade image ⊎ IsTorn image

-- a database of one page, without tables
abbrev pub IsMade : Image → Type 0
IsMade image = (pages : PageMap) × Recovers page_bytes image pages × IsNew page_bytes pages

module _ {D : Type 0} (g : disk.Ghosts D) where
  -- reads return the same contents as before, and each outcome of a crash was possible before
  pub record AreAsBefore (before after : Files D) : Type 0 where
    pub seen : image_of g after ≡ image_of g before
    pub crash : (left : Image) → outcomes g after.log after.db left → outcomes g before.log before.db left

  -- each outcome of a crash was possible before, or has no database, or has the new database
  abbrev pub MayMake : Files D → Files D → Type 0
  MayMake before after = (left : Image) → outcomes g after.log after.db left → outcomes g before.log before.db left ⊎ (IsUnmade left ⊎ IsMade left)

  -- A database is made if the contents before are `Wanted`. Otherwise the files are as before.
  pub record IsMadeOf (Wanted : Image → Type 0) (before after : Files D) : Type 0 where
    pub clean : AreClean g after.log after.db → AreClean g before.log before.db
    pub usable : IsTrue (g.is_usable after.log) × IsTrue (g.is_usable after.db)
    pub made : AreClean g after.log after.db → Wanted (image_of g before) → (left : Image) → outcomes g after.log after.db left → IsMade left
    pub shown : AreClean g after.log after.db → Wanted (image_of g before) → IsMade (image_of g after)
    pub kept : AreClean g after.log after.db → ¬ Wanted (image_of g before) → AreAsBefore before after

  -- a database is made in files that had none
  abbrev pub IsCreated : Files D → Files D → Type 0
  IsCreated = IsMadeOf IsUnmade

  -- as `IsCreated`, also in files that a stop of an earlier release left
  abbrev pub IsLaidOut : Files D → Files D → Type 0
  IsLaidOut = IsMadeOf IsToMake

  -- a database was not made, or was made in part
  pub record IsNotCreated (before after : Files D) : Type 0 where
    pub clean : AreClean g after.log after.db → AreClean g before.log before.db
    pub kept : AreClean g after.log after.db → ¬ IsUnmade (image_of g before) → AreAsBefore before after
    pub crash : AreClean g after.log after.db → MayMake before after

  -- As `IsNotCreated`. For files that a stop of an earlier release left, the outcomes of a crash are not
  -- stated.
  pub record IsNotLaidOut (before after : Files D) : Type 0 where
    pub clean : AreClean g after.log after.db → AreClean g before.log before.db
    pub kept : AreClean g after.log after.db → ¬ IsToMake (image_of g before) → AreAsBefore before after
    pub crash : AreClean g after.log after.db → ¬ IsTorn (image_of g before) → MayMake before after

-- the reason why files were not cleared, by the kind of the error
abbrev pub not_cleared : ErrorKind → NotLaidOut
not_cleared kind.OutOfMemory = Failed pages.OutOfMemory
not_cleared _ = Failed pages.Io
