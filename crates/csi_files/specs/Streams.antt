-- The bytes that a run reads and writes.
use Rattle.std.specs.Prelude.{◌≡◌, ℕ, List, Option}

-- The bytes that a reader has left before a run and after it, and the bytes that a writer has taken before
-- the run and after it, as far as they are known.
pub record Streams : Type 0 where
  pub unread : Option (List ℕ)
  pub left : Option (List ℕ)
  pub held : Option (List ℕ)
  pub holds : Option (List ℕ)

abbrev pub streams : Option (List ℕ) → Option (List ℕ) → Option (List ℕ) → Option (List ℕ) → Streams
streams unread left held holds = record { unread = unread; left = left; held = held; holds = holds }

-- nothing was read or written
abbrev pub AreUntouched : Streams → Type 0
AreUntouched bytes = (bytes.left ≡ bytes.unread) × (bytes.holds ≡ bytes.held)
