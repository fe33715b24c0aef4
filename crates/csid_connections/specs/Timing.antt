-- The time for which a peer is waited for.
use Rattle.std.specs.Prelude.{◌≡◌, ◌+◌, ◌-◌, ◌*◌, ◌<◌, ◌≤◌, ◌⊎◌, ℕ, Option, None, Some, IfSome}
use Rattle.std.specs.Duration.{as_nanos}
use Rattle.std.specs.Time.{instant_nanos}
use Rattle.std.specs.declared.time.Duration.{Duration}
use Rattle.std.specs.declared.time.Instant.{Instant}

-- the nanoseconds of a number of seconds
abbrev pub seconds : ℕ → ℕ
seconds n = n * 1_000_000_000

-- the nanoseconds from a time to a later one
abbrev pub passed : Instant → Instant → ℕ
passed begun now = instant_nanos now - instant_nanos begun

-- the rest at `now` of a time of `longest` nanoseconds that began at `begun`; `None` if it is over
abbrev pub LeftOf : ℕ → Instant → Instant → Option Duration → Type 0
LeftOf longest begun now None = longest ≤ passed begun now
LeftOf longest begun now (Some left) = (as_nanos left + passed begun now ≡ longest) × (0 < as_nanos left)

-- the shorter of the times that are given
abbrev pub IsLeast : Option Duration → Option Duration → Option Duration → Type 0
IsLeast one other None = (one ≡ None) × (other ≡ None)
IsLeast one other (Some least) = ((one ≡ Some least) ⊎ (other ≡ Some least))
    × IfSome one (λ it. as_nanos least ≤ as_nanos it) × IfSome other (λ it. as_nanos least ≤ as_nanos it)
