use Rattle.std.proofs.Common.{◌≡◌, ◌∙◌, sym, arith, true, false, true≢false}
use Rattle.sqlite.specs.Held.{state}
use Rattle.sqlite.specs.State.{HasCleanDisk}
use Rattle.csi_adoption.specs.Faults.{failure_of, is_failure}
use Rattle.csi_adoption.specs.Failing.{IsOfShut}
use Rattle.csi_adoption.specs.Judging.{IsFaultOf}
use Rattle.csi_adoption.proofs.FaultLemmas.{error_fails}
use Rattle.csi_adoption.proofs.TakeLemmas.{is_taken, taken_survives}
use Rattle.csi_adoption.proofs.FailingLemmas.{cause_after, format_cause, handed_fault, if_err, ours, reported_after}
use Rattle.csi_adoption.proofs.adopting.judge_and_upgrade.Goals as goal

pub returns-in_err-upgrade-clause-survives : goal.returns-in_err-upgrade-clause-survives
returns-in_err-upgrade-clause-survives g c =
    let judged = c.in_ok-judged.ensures in
    taken_survives g.S.Store c.args.config.now c.args.conn.now c.judge.new.conn c.upgrade.new.conn c.in_ok-judged.judged.format c.in_ok-judged.judged.totals judged.scans.same judged.scans.survives judged.found c.latest.ensures c.upgrade.ensures.survives
    (if_err (λ fault. is_failure fault ≡ true) c.from_residual-in_err-upgrade.result (failure_of c.in_err-upgrade.field-0.0) c.from_residual-in_err-upgrade.ensures.1 (error_fails c.in_err-upgrade.field-0.0))

pub returns-clause-taken : goal.returns-clause-taken
returns-clause-taken g c =
    let judged = c.in_ok-judged.ensures in
    is_taken g.S.Store c.args.config.now c.args.conn.now c.judge.new.conn c.upgrade.new.conn c.in_ok-judged.judged.format c.in_ok-judged.judged.totals judged.scans.same judged.scans.survives judged.found c.latest.ensures c.upgrade.ensures.survives
    c.in_ok-upgrade.ensures.ok c.upgrade.ensures.stays

pub returns-clause-survives : goal.returns-clause-survives
returns-clause-survives g c =
    let judged = c.in_ok-judged.ensures in
    taken_survives g.S.Store c.args.config.now c.args.conn.now c.judge.new.conn c.upgrade.new.conn c.in_ok-judged.judged.format c.in_ok-judged.judged.totals judged.scans.same judged.scans.survives judged.found c.latest.ensures c.upgrade.ensures.survives tt

pub returns-in_err-upgrade-clause-failed : goal.returns-in_err-upgrade-clause-failed
returns-in_err-upgrade-clause-failed g c =
    let judged = c.in_ok-judged.ensures in
    reported_after g.S.Store c.args.conn.now c.upgrade.new.conn c.from_residual-in_err-upgrade.result c.in_err-upgrade.field-0.0 c.from_residual-in_err-upgrade.ensures.1
    (cause_after g.S.Store c.args.conn.now c.judge.new.conn c.upgrade.new.conn c.in_ok-judged.judged c.in_err-upgrade.field-0.0 judged.scans c.upgrade.ensures.survives
    (format_cause g.S.Store c.judge.new.conn c.upgrade.new.conn c.in_err-upgrade.field-0.0 (λ clean.
    let before : HasCleanDisk (state g.S.Store c.judge.new.conn) = omega (arith, clean, c.upgrade.ensures.survives.clean) in
    let same = judged.scans.same before in
    (same.0.is_open, ours g.S.Store c.args.conn.now c.judge.new.conn (judged.found before).schema_is same)) c.in_err-upgrade.ensures.failed))

pub returns-in_err-judged-clause-failed : goal.returns-in_err-judged-clause-failed
returns-in_err-judged-clause-failed g c = handed_fault g.S.Store c.args.conn.now c.judge.new.conn c.from_residual.result c.in_err-judged.field-0.0 c.from_residual.ensures.1 c.in_err-judged.ensures.failed

pub returns-in_err-upgrade-clause-first : goal.returns-in_err-upgrade-clause-first
returns-in_err-upgrade-clause-first g c = λ clean.
    if_err (λ fault. is_failure fault ≡ false → IsFaultOf c.args.config.now (state g.S.Store c.args.conn.now).now fault) c.from_residual-in_err-upgrade.result (failure_of c.in_err-upgrade.field-0.0) c.from_residual-in_err-upgrade.ensures.1
    (λ known. absurd (true≢false (sym (error_fails c.in_err-upgrade.field-0.0) ∙ known)))

pub returns-in_err-judged-clause-shut : goal.returns-in_err-judged-clause-shut
returns-in_err-judged-clause-shut g c = λ clean shut.
    if_err (IsOfShut (state g.S.Store c.judge.new.conn).now.schema) c.from_residual.result c.in_err-judged.field-0.0 c.from_residual.ensures.1 (c.in_err-judged.ensures.shut clean shut)

pub returns-in_err-upgrade-clause-shut : goal.returns-in_err-upgrade-clause-shut
returns-in_err-upgrade-clause-shut g c = λ clean shut.
    if_err (IsOfShut (state g.S.Store c.upgrade.new.conn).now.schema) c.from_residual-in_err-upgrade.result (failure_of c.in_err-upgrade.field-0.0) c.from_residual-in_err-upgrade.ensures.1
    (λ known. absurd (true≢false (sym (error_fails c.in_err-upgrade.field-0.0) ∙ known)))
