use Rattle.std.proofs.Common.{inr, subst, List, ℕ, Option}
use Rattle.csi_vectors.specs.Running.{EndsAs}
use Rattle.csi_vectors.proofs.Kept.{fresh}
use Rattle.csi_vectors.proofs.running.run_vectors.Goals as goal

pub returns : goal.returns
returns g c =
    let config = c.in-Ok.config in
    let new = c.in-Ok-new in
    let held = g.W.Write.contents c.args.writer.now in
    let same = fresh (λ r. g.R.Read.remaining r.now) new.lines _ new.ensures.inner new.ensures.empty new.ensures.capacity in
    inr (
      config,
      record { plugin = c.in-Ok.ensures.plugin; default = c.in-Ok.ensures.default; greatest = c.in-Ok.ensures.greatest; pools = c.in-Ok.ensures.pools; nodes = c.in-Ok.ensures.nodes },
      subst (λ (unread : Option (List ℕ)). EndsAs config unread held (g.W.Write.contents c.run_lines.new.writer) c.run_lines.result) same c.run_lines.ensures,
    )
