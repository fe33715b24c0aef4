use Rattle.csi_files.proofs.MakingLemmas.{cleared_first, cleared_then, larger_left, looked_first, looked_then, not_cleared}
use Rattle.csi_files.proofs.StartingLemmas.{laid_out_keeps, not_laid_out_keeps, starts_as}
use Rattle.csi_files.proofs.making.lay_out.Goals as goal

pub returns-in-Err-clear_torn-clause-not_laid_out : goal.returns-in-Err-clear_torn-clause-not_laid_out
returns-in-Err-clear_torn-clause-not_laid_out g c =
    let seen = c.lengths_of.ensures in
    let cut = c.clear_torn.ensures in
    looked_then g.D.Disk c.args.pair c.lengths_of.new.pair seen.log seen.db c.clear_torn.new.pair (not_cleared g.D.Disk c.lengths_of.new.pair c.clear_torn.new.pair cut.clean cut.kept)

pub returns-in-Err-clear_torn-clause-kept : goal.returns-in-Err-clear_torn-clause-kept
returns-in-Err-clear_torn-clause-kept g c =
    not_laid_out_keeps g.D.Disk c.args.pair c.clear_torn.new.pair g.met.D.Disk.seen_may_stay (returns-in-Err-clear_torn-clause-not_laid_out g c)

pub returns-in-Ok-clause-laid_out : goal.returns-in-Ok-clause-laid_out
returns-in-Ok-clause-laid_out g c =
    let seen = c.lengths_of.ensures in
    let cut = c.in_default.ensures in
    looked_first g.D.Disk c.args.pair c.lengths_of.new.pair seen.log seen.db c.in-Ok.pair (cleared_first g.D.Disk c.lengths_of.new.pair c.clear_torn.new.pair cut.clean cut.kept cut.cleared c.in-Ok.pair c.in-Ok.ensures.created)

pub returns-in-Ok-clause-starts : goal.returns-in-Ok-clause-starts
returns-in-Ok-clause-starts g c =
    let laid = returns-in-Ok-clause-laid_out g c in
    (starts_as g.D.Disk c.args.pair c.in-Ok.pair laid, laid_out_keeps g.D.Disk c.args.pair c.in-Ok.pair g.met.D.Disk.seen_may_stay laid)

pub returns-in-Err-make-clause-not_laid_out : goal.returns-in-Err-make-clause-not_laid_out
returns-in-Err-make-clause-not_laid_out g c =
    let seen = c.lengths_of.ensures in
    let cut = c.clear_torn.ensures in
    looked_then g.D.Disk c.args.pair c.lengths_of.new.pair seen.log seen.db c.in-Err-make.pair
    (cleared_then g.D.Disk c.lengths_of.new.pair c.clear_torn.new.pair cut.clean cut.kept c.in-Err-make.pair c.in-Err-make.ensures.not_created)

pub returns-in-Err-make-clause-kept : goal.returns-in-Err-make-clause-kept
returns-in-Err-make-clause-kept g c =
    not_laid_out_keeps g.D.Disk c.args.pair c.in-Err-make.pair g.met.D.Disk.seen_may_stay (returns-in-Err-make-clause-not_laid_out g c)

pub returns-in-Ok-Larger-clause-laid_out : goal.returns-in-Ok-Larger-clause-laid_out
returns-in-Ok-Larger-clause-laid_out g c =
    let seen = c.in-Ok-Larger.ensures in
    larger_left g.D.Disk c.args.pair c.lengths_of.new.pair seen.log seen.db (λ clean. (seen.larger clean).0 c.in-Ok-Larger.field-0-is)

pub returns-in-Ok-Larger-clause-starts : goal.returns-in-Ok-Larger-clause-starts
returns-in-Ok-Larger-clause-starts g c =
    let laid = returns-in-Ok-Larger-clause-laid_out g c in
    (starts_as g.D.Disk c.args.pair c.lengths_of.new.pair laid, laid_out_keeps g.D.Disk c.args.pair c.lengths_of.new.pair g.met.D.Disk.seen_may_stay laid)
