use Rattle.std.proofs.Common.{◌+◌, ◌≤◌, rules, arith}
use Rattle.csi_maps.proofs.WalkLemmas.{begun}
use Rattle.csi_maps.proofs.walk.walk_after.Goals as goal

pub returns : goal.returns
returns c =
    let low : c.saturating_add.result ≤ c.args.after + 1 = omega (arith, c.saturating_add.ensures) in
    begun c.args.attachments.now.entries c.range-rest.result c.next.new.self c.saturating_add.result c.args.after c.next.result low c.range-rest.ensures.ordered (search rules) c.next.ensures.steps
