-- The conditions for a copy of a database file and its WAL of a single moment, while another process writes
-- both.
use Rattle.std.specs.Prelude.{◌≡◌, ℕ, List, length, min, take}

-- The header of a WAL, 32 bytes, or the whole of a shorter file. Its salts are new each time the WAL begins
-- again (sqlite.org/fileformat2.html, section 4.1).
abbrev pub header_in : List ℕ → List ℕ
header_in wal = take (min 32 (length wal)) wal

module _ {F : Type 0} (database wal wal_header : F → F → List ℕ → Type 0) where
  -- The database file was the same before and after the WAL was read, and the WAL has the same header after
  -- all that. So the WAL did not begin again in between, and no page of the file was written from it.
  pub record IsOfOneMoment (old new : F) (log db : List ℕ) : Type 0 where
    pub first : F
    pub second : F
    pub third : F
    pub before : database old first db
    pub logged : wal first second log
    pub after : database second third db
    pub header : wal_header third new (header_in log)
