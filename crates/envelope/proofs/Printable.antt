-- A number in decimal is printable.
use Rattle.std.proofs.Common.{ℕ, zero, suc, ◌+◌, ◌<◌, ◌^◌, ◌%◌, [], ◌∷◌, All, arith}
use Rattle.std.specs.Prelude.{decimal}
use Rattle.std.proofs.lemmas.Fmt.{decimal_by_steps}
use Rattle.std.proofs.lemmas.List.Elements.{All-append}
use Rattle.envelope.specs.Envelope.{IsTextByte}

one_printable : (digit : ℕ) → digit < 10 → All IsTextByte ((48 + digit) ∷ [])
one_printable digit small zero d lt = (omega arith, omega arith)
one_printable digit small (suc k) d lt = absurd (omega arith)

pub decimal_printable : (n : ℕ) → n < 2 ^ 64 → All IsTextByte (decimal n)
decimal_printable n small = decimal_by_steps (λ m ds. All IsTextByte ds) one_printable (λ m ds ten h. All-append IsTextByte ds ((48 + m % 10) ∷ []) h (one_printable (m % 10) (omega arith))) n small
