use Rattle.std.proofs.Common.{◌≡◌, sym, subst, Err}
use Rattle.sqlite.specs.Held.{state}
use Rattle.csi_adoption.specs.Judging.{JudgesRows, volumes_unless}
use Rattle.csi_adoption.proofs.JudgedLemmas.{judged_err, table_fault}
use Rattle.csi_adoption.proofs.FaultLemmas.{is_err, not_memory}
use Rattle.csi_adoption.proofs.FailingLemmas.{no_store, reported_if}
use Rattle.csi_adoption.proofs.adopting.judge_seen.Goals as goal

pub returns-in_err-check_tables-clause-judged : goal.returns-in_err-check_tables-clause-judged
returns-in_err-check_tables-clause-judged g c = λ clean seen rows same is.
    let answer : c.from_residual.result ≡ Err c.in_err-check_tables.field-0.0 = is_err c.from_residual.result c.in_err-check_tables.field-0.0 c.from_residual.ensures.1 in
    let config = c.args.config.now in
    let tables = c.args.tables.now in
    let db = (state g.S.Store c.args.conn.now).now.trees in
    subst (λ r. JudgesRows config db (volumes_unless tables r)) (sym answer) (judged_err config db c.in_err-check_tables.field-0.0 (λ known.
    table_fault config db c.args.meta rows same is tables seen c.in_err-check_tables.field-0.0 (c.in_err-check_tables.ensures.0 (not_memory c.in_err-check_tables.field-0.0 known))))

pub returns-clause-judged : goal.returns-clause-judged
returns-clause-judged g c = λ clean seen rows same is. c.judge_joined.ensures.judged clean c.args.meta seen c.in_ok-check_tables.ensures rows same is

pub returns-in_err-check_tables-clause-failed : goal.returns-in_err-check_tables-clause-failed
returns-in_err-check_tables-clause-failed g c = no_store g.S.Store c.args.conn.now c.args.conn.now c.from_residual.result c.in_err-check_tables.field-0.0 c.from_residual.ensures.1 c.in_err-check_tables.ensures.2

pub returns-in_err-check_tables-clause-open : goal.returns-in_err-check_tables-clause-open
returns-in_err-check_tables-clause-open g c = λ is_open clean. reported_if _ c.from_residual.result c.in_err-check_tables.field-0.0 c.from_residual.ensures.1 (λ known. is_open)

pub returns-clause-open : goal.returns-clause-open
returns-clause-open g c = λ is_open clean. c.judge_joined.ensures.open clean
