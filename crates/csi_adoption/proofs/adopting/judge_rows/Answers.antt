use Rattle.csi_adoption.proofs.FailingLemmas.{handed_fault, judging_after, reported_if}
use Rattle.csi_adoption.proofs.adopting.judge_rows.Goals as goal

pub returns-clause-failed : goal.returns-clause-failed
returns-clause-failed g c = judging_after g.S.Store c.args.conn.now c.see_row.new.conn c.judge_after.new.conn c.in_ok-meta.meta c.judge_after.result c.in_ok-meta.ensures.scans c.judge_after.ensures.scans.survives c.judge_after.ensures.failed

pub returns-in_err-meta-clause-failed : goal.returns-in_err-meta-clause-failed
returns-in_err-meta-clause-failed g c = handed_fault g.S.Store c.args.conn.now c.see_row.new.conn c.from_residual.result c.in_err-meta.field-0.0 c.from_residual.ensures.1 c.in_err-meta.ensures.failed

pub returns-in_err-meta-clause-open : goal.returns-in_err-meta-clause-open
returns-in_err-meta-clause-open g c = λ clean. reported_if _ c.from_residual.result c.in_err-meta.field-0.0 c.from_residual.ensures.1 (c.in_err-meta.ensures.open clean)

pub returns-clause-open : goal.returns-clause-open
returns-clause-open g c = λ clean. c.judge_after.ensures.open clean
