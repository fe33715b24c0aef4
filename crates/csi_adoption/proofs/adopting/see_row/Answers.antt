use Rattle.csi_adoption.proofs.FailingLemmas.{any_reported, failure_reported, meta_fails, reported_after}
use Rattle.csi_adoption.proofs.adopting.see_row.Goals as goal

pub returns-in_err-rows-clause-failed : goal.returns-in_err-rows-clause-failed
returns-in_err-rows-clause-failed g c = reported_after g.S.Store c.args.conn.now c.see_meta.new.conn c.from_residual.result c.in_err-rows.field-0.0 c.from_residual.ensures.1 c.in_err-rows.ensures.failed

pub returns-clause-failed : goal.returns-clause-failed
returns-clause-failed g c = meta_fails g.S.Store c.args.conn.now c.see_meta.new.conn c.in_ok-rows.rows c.judge_meta.result c.judge_meta.ensures

pub returns-in_err-rows-clause-open : goal.returns-in_err-rows-clause-open
returns-in_err-rows-clause-open g c = λ clean. failure_reported _ c.from_residual.result c.in_err-rows.field-0.0 c.from_residual.ensures.1

pub returns-clause-open : goal.returns-clause-open
returns-clause-open g c = λ clean. any_reported _ c.judge_meta.result (c.in_ok-rows.ensures.scans.same clean).0.is_open
