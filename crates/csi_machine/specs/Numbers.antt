-- The numbers of volumes in a State and in a later State.
use Rattle.std.specs.Prelude.{◌≡◌, ◌≤◌, ◌<◌, ℕ, None, Some}
use Rattle.std.specs.FinMap.{get}
use Rattle.csi_keeper.specs.State.{State, with_mutable}
use Rattle.csi_keeper.specs.declared.volume.Volume.{Volume}

-- The next number is no smaller. A number below it that no volume has is never given again. If a number has a
-- volume before and after, it is the same volume, and only its mutable parameters may differ.
pub record NumbersRise (s t : State) : Type 0 where
  pub next : s.next ≤ t.next
  pub gone : (n : ℕ) → n < s.next → get s.volumes n ≡ None → get t.volumes n ≡ None
  pub same : (n : ℕ) (v w : Volume) → get s.volumes n ≡ Some v → get t.volumes n ≡ Some w → w ≡ with_mutable w.mutable v
