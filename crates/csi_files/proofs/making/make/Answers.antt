use Rattle.std.proofs.Common.{subst, sym}
use Rattle.std.proofs.lemmas.Result.{IfOk-weaker}
use Rattle.csi_files.specs.Making.{IsNotCreated}
use Rattle.csi_files.proofs.MakingLemmas.{as_it_was, created, left_alone, not_created, refused}
use Rattle.csi_files.proofs.ResultLemmas.{IfErr-weaker}
use Rattle.csi_files.proofs.making.make.Goals as goal

pub returns-in-Ok-create-clause-created : goal.returns-in-Ok-create-clause-created
returns-in-Ok-create-clause-created g c =
    let made = c.in-Ok-create.ensures in
    IfOk-weaker c.given_back.result _ _
    (λ after it. created g.D.Disk c.in-Ok.pool c.create.new.self c.args.pair after c.in-Ok.ensures.files it.0 c.in-Ok.ensures.size made.honest made.there made.untouched g.met.D.Disk.seen_may_stay (it.1, it.2) made.size made.clean made.made)
    c.given_back.ensures.ok

pub returns-in-Ok-create-clause-not_created : goal.returns-in-Ok-create-clause-not_created
returns-in-Ok-create-clause-not_created g c =
    let made = c.in-Ok-create.ensures in
    IfErr-weaker c.given_back.result _ _
    (λ e it. not_created g.D.Disk c.in-Ok.pool c.create.new.self c.args.pair e.1 c.in-Ok.ensures.files it.1 c.in-Ok.ensures.size made.honest made.there made.untouched made.crash)
    c.given_back.ensures.err

pub returns-in-Err-Corrupt-clause-created : goal.returns-in-Err-Corrupt-clause-created
returns-in-Err-Corrupt-clause-created g c =
    let left = c.in-Err-Corrupt.ensures in
    IfOk-weaker c.given_back-in-Err-Corrupt.result _ _
    (λ after it. left_alone g.D.Disk c.in-Ok.pool c.create.new.self c.args.pair after c.in-Ok.ensures.files it.0 c.in-Ok.ensures.size left.honest left.there left.untouched (it.1, it.2) (λ clean. refused _ _ _ _ c.in-Err-Corrupt.field-0-is (left.cause clean)))
    c.given_back-in-Err-Corrupt.ensures.ok

pub returns-in-Err-Corrupt-clause-not_created : goal.returns-in-Err-Corrupt-clause-not_created
returns-in-Err-Corrupt-clause-not_created g c =
    let left = c.in-Err-Corrupt.ensures in
    IfErr-weaker c.given_back-in-Err-Corrupt.result _ _
    (λ e it. not_created g.D.Disk c.in-Ok.pool c.create.new.self c.args.pair e.1 c.in-Ok.ensures.files it.1 c.in-Ok.ensures.size left.honest left.there left.untouched left.crash)
    c.given_back-in-Err-Corrupt.ensures.err

pub returns-in-Err-create-clause-not_created : goal.returns-in-Err-create-clause-not_created
returns-in-Err-create-clause-not_created g c =
    let left = c.in-Err-create.ensures in
    not_created g.D.Disk c.in-Ok.pool c.create.new.self c.args.pair c.close.result c.in-Ok.ensures.files c.close.ensures c.in-Ok.ensures.size left.honest left.there left.untouched left.crash

pub returns-in-Err-clause-not_created : goal.returns-in-Err-clause-not_created
returns-in-Err-clause-not_created g c = subst (λ left. IsNotCreated g.D.Disk c.args.pair left) (sym c.in-Err.ensures.back) (as_it_was g.D.Disk c.args.pair)
