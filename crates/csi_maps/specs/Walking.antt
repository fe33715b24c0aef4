-- A walk over the attachments in memory, in rising order.
use Rattle.std.specs.Prelude.{◌≡◌, ℕ, ◌<◌, ◌≤◌, ◌==◌, List, [], ◌∷◌, Option, Some, None, filter, ⊤}
use Rattle.std.specs.Borrow.{Bor}
use Rattle.std.specs.FinMap.{entries}
use Rattle.std.specs.List.Sorted.{IsStrictlySortedBy}
use Rattle.std.specs.Map.{keys_of}
use Rattle.std.specs.Map.Iter.{deref_pair}
use Rattle.csi_maps.specs.Rows.{places_of}
use Rattle.csi_keeper.specs.State.{AttachmentKey, attachment_key_cmp}
use Rattle.csi_maps.specs.declared.walk.Walk.{Walk}
use Rattle.csi_keeper.specs.declared.volume.Attachment.{Attachment}

abbrev pub Row : Type 0
Row = AttachmentKey × Attachment

-- the entries of a number
abbrev pub rows_at : ℕ → List Row → List Row
rows_at n es = filter (λ e. e.0.0 == n) es

-- the list with this first entry and the entries after it; empty if there is no first entry
abbrev pub put_back : Option (Bor AttachmentKey × Bor Attachment) → List Row → List Row
put_back None es = []
put_back (Some p) es = deref_pair p ∷ es

-- the entries that the walk still has ahead
abbrev pub ahead : Walk → List Row
ahead w = put_back w.next w.rest

-- the entries ahead are in strictly rising order, and include all attachments of each number greater than
-- `passed`
pub record AreAhead (all es : List Row) (passed : ℕ) : Type 0 where
  pub rise : IsStrictlySortedBy attachment_key_cmp (keys_of es)
  pub whole : (n : ℕ) → passed < n → rows_at n (entries (places_of all)) ≡ rows_at n es

-- the walk is over these attachments
abbrev pub IsOver : List Row → Walk → Type 0
IsOver all w = AreAhead all (ahead w) w.passed

-- the first entry, if there is one, has a number greater than n
abbrev pub BeginsAbove : ℕ → List Row → Type 0
BeginsAbove n [] = ⊤
BeginsAbove n (e ∷ es) = n < e.0.0

-- the first entry is taken, if its number is at most n
abbrev pub TakesUpTo : ℕ → List Row → Option (Bor AttachmentKey × Bor Attachment) → List Row → Type 0
TakesUpTo n es None fs = (fs ≡ es) × BeginsAbove n es
TakesUpTo n es (Some p) fs = (es ≡ deref_pair p ∷ fs) × (p.0.now.0 ≤ n)
