use Rattle.std.proofs.Common.{rules, ◌≤◌, ◌-◌, length}
use Rattle.envelope.specs.declared.limits.TheConstants.{MAX_BODY_BYTES}
use Rattle.csi_machine.proofs.BodyLemmas.{body_after, said_after}
use Rattle.csi_machine.proofs.body.limit_body.Goals as goal

pub returns-clause-appended : goal.returns-clause-appended
returns-clause-appended c =
    let small : length c.args.out.now.items - c.args.from ≤ MAX_BODY_BYTES = search rules in
    body_after c.args.from c.args.out.now.items small

pub returns-clause-reported : goal.returns-clause-reported
returns-clause-reported c =
    let small : length c.args.out.now.items - c.args.from ≤ MAX_BODY_BYTES = search rules in
    said_after c.args.from c.args.out.now.items small
