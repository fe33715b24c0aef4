-- Pauses before further tries.
use Rattle.std.proofs.Common.{ℕ, ◌*◌, ◌≡◌, arith}
use Rattle.std.specs.Prelude.{min}

-- the part that the greatest number of 64 bits cuts off is above 2 s
pub saturated : (p : ℕ) → min (min (min p 18446744073709551615 * 100) 18446744073709551615) 2000 ≡ min (100 * p) 2000
saturated p = omega (arith)
