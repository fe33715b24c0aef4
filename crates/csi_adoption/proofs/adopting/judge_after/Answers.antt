use Rattle.std.proofs.Common.{◌≡◌, sym, subst, Ok, Err}
use Rattle.sqlite.specs.Held.{state}
use Rattle.sqlite.specs.Tree.{Trees}
use Rattle.csi_adoption.specs.Judging.{JudgesRows, JudgesSeen}
use Rattle.csi_adoption.proofs.JudgedLemmas.{judged_failure}
use Rattle.csi_adoption.proofs.FaultLemmas.{is_err}
use Rattle.csi_adoption.proofs.ChainLemmas.{clean_before, ended, failed, same_trees, chained}
use Rattle.csi_adoption.proofs.FailingLemmas.{failure_reported, fault_after, handed_fault, reported_after, reported_if}
use Rattle.csi_adoption.proofs.adopting.judge_after.Goals as goal

pub returns-in_err-tables-clause-judged : goal.returns-in_err-tables-clause-judged
returns-in_err-tables-clause-judged g c = λ clean rows same is.
    judged_failure c.args.config.now (state g.S.Store c.args.conn.now).now.trees c.from_residual.result c.in_err-tables.field-0.0 c.from_residual.ensures.1

pub returns-in_err-judge_seen-clause-scans : goal.returns-in_err-judge_seen-clause-scans
returns-in_err-judge_seen-clause-scans g c =
    failed g.S.Store c.args.conn.now c.judge_seen.new.conn _ c.from_residual-in_err-judge_seen.result c.from_residual-in_err-judge_seen.ensures.0
    (chained g.S.Store c.args.conn.now c.see_tables.new.conn c.judge_seen.new.conn c.in_ok-tables.tables _ c.in_ok-tables.ensures.scans c.in_err-judge_seen.ensures.scans)

pub returns-in_err-judge_seen-clause-judged : goal.returns-in_err-judge_seen-clause-judged
returns-in_err-judge_seen-clause-judged g c = λ clean rows same is.
    let answer : c.from_residual-in_err-judge_seen.result ≡ Err c.in_err-judge_seen.field-0.0 = is_err c.from_residual-in_err-judge_seen.result c.in_err-judge_seen.field-0.0 c.from_residual-in_err-judge_seen.ensures.1 in
    let config = c.args.config.now in
    let db = (state g.S.Store c.args.conn.now).now.trees in
    let before = clean_before g.S.Store c.see_tables.new.conn c.judge_seen.new.conn _ c.in_err-judge_seen.ensures.scans clean in
    let trees = same_trees g.S.Store c.args.conn.now c.see_tables.new.conn (c.in_ok-tables.ensures.scans.same before) in
    let joined = subst (λ (t : Trees). JudgesSeen config t c.args.meta c.in_ok-tables.tables (Err c.in_err-judge_seen.field-0.0)) trees (c.in_err-judge_seen.ensures.judged clean) in
    subst (JudgesRows config db) (sym answer) (joined (c.in_ok-tables.ensures.seen before) rows same is)

pub returns-clause-scans : goal.returns-clause-scans
returns-clause-scans g c =
    ended g.S.Store c.args.conn.now c.judge_seen.new.conn _ _
    (chained g.S.Store c.args.conn.now c.see_tables.new.conn c.judge_seen.new.conn c.in_ok-tables.tables _ c.in_ok-tables.ensures.scans c.in_ok-judge_seen.ensures.scans)

pub returns-clause-judged : goal.returns-clause-judged
returns-clause-judged g c = λ clean rows same is.
    let config = c.args.config.now in
    let before = clean_before g.S.Store c.see_tables.new.conn c.judge_seen.new.conn _ c.in_ok-judge_seen.ensures.scans clean in
    let trees = same_trees g.S.Store c.args.conn.now c.see_tables.new.conn (c.in_ok-tables.ensures.scans.same before) in
    let joined = subst (λ (t : Trees). JudgesSeen config t c.args.meta c.in_ok-tables.tables (Ok tt)) trees (c.in_ok-judge_seen.ensures.judged clean) in
    joined (c.in_ok-tables.ensures.seen before) rows same is

pub returns-in_err-tables-clause-failed : goal.returns-in_err-tables-clause-failed
returns-in_err-tables-clause-failed g c = reported_after g.S.Store c.args.conn.now c.see_tables.new.conn c.from_residual.result c.in_err-tables.field-0.0 c.from_residual.ensures.1 c.in_err-tables.ensures.failed

pub returns-in_err-judge_seen-clause-failed : goal.returns-in_err-judge_seen-clause-failed
returns-in_err-judge_seen-clause-failed g c =
    handed_fault g.S.Store c.args.conn.now c.judge_seen.new.conn c.from_residual-in_err-judge_seen.result c.in_err-judge_seen.field-0.0 c.from_residual-in_err-judge_seen.ensures.1
    (fault_after g.S.Store c.args.conn.now c.see_tables.new.conn c.judge_seen.new.conn c.in_ok-tables.tables c.in_err-judge_seen.field-0.0 c.in_ok-tables.ensures.scans c.in_err-judge_seen.ensures.scans.survives c.in_err-judge_seen.ensures.failed)

pub returns-in_err-tables-clause-open : goal.returns-in_err-tables-clause-open
returns-in_err-tables-clause-open g c = λ clean. failure_reported _ c.from_residual.result c.in_err-tables.field-0.0 c.from_residual.ensures.1

pub returns-in_err-judge_seen-clause-open : goal.returns-in_err-judge_seen-clause-open
returns-in_err-judge_seen-clause-open g c = λ clean.
    let before = clean_before g.S.Store c.see_tables.new.conn c.judge_seen.new.conn _ c.in_err-judge_seen.ensures.scans clean in
    reported_if _ c.from_residual-in_err-judge_seen.result c.in_err-judge_seen.field-0.0 c.from_residual-in_err-judge_seen.ensures.1 (c.in_err-judge_seen.ensures.open (c.in_ok-tables.ensures.scans.same before).0.is_open clean)
