use Rattle.std.proofs.Common.{◌≡◌, ℕ, Bool, true, false, ◌||◌, nat_lt, arith, refl}
use Rattle.std.proofs.lemmas.Bool.{ltb-false}
use Rattle.csi_files.proofs.serving.finish.Goals as goal

none : (is_down : Bool) (refusals : ℕ) → (is_down || nat_lt 0 refusals) ≡ false → (refusals ≡ 0) × (is_down ≡ false)
none true refusals e = absurd (cc)
none false refusals e = (omega (arith, ltb-false 0 refusals e), refl)

pub returns-in-Ok-clause-none_refused : goal.returns-in-Ok-clause-none_refused
returns-in-Ok-clause-none_refused g c = none c.args.report.is_down c.args.report.refusals c.if-report.false
