use Rattle.std.proofs.Common.{ℕ, ◌*◌, ◌-◌, ◌^◌, ◌∙◌, ap}
use Rattle.std.specs.Prelude.{min}
use Rattle.csi_client.proofs.Pauses.{saturated}
use Rattle.csi_client.proofs.again.longest_pause.Goals as goal

pub returns : goal.returns
returns c =
    let power = c.saturating_pow-doubled.ensures ∙ ap (λ (e : ℕ). min (2 ^ e) 18446744073709551615) c.saturating_sub.ensures in
    let scaled = c.saturating_mul.ensures ∙ ap (λ (p : ℕ). min (p * 100) 18446744073709551615) power in
    c.min.ensures ∙ (ap (λ (m : ℕ). min m 2000) scaled ∙ saturated (2 ^ (c.args.tried - 1)))
