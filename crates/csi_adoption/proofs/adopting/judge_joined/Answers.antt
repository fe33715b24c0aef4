use Rattle.std.proofs.Common.{◌≡◌, sym, subst, map, Err}
use Rattle.sqlite.specs.Held.{state}
use Rattle.csi_sql.specs.Rows.{seen_attachment}
use Rattle.csi_constraints.specs.Scans.{IsInOrder}
use Rattle.csi_adoption.specs.Judging.{JudgesRows, volumes_unless}
use Rattle.csi_adoption.proofs.JudgedLemmas.{counts_fault, joined_failure, judged_err, none_broken, owner_fault}
use Rattle.csi_adoption.proofs.FaultLemmas.{is_err, not_memory}
use Rattle.csi_adoption.proofs.ChainLemmas.{clean_before, ended, failed, shown_after, chained}
use Rattle.csi_adoption.proofs.FailingLemmas.{cause_after, failure_reported, no_store, reported_after, reported_if}
use Rattle.csi_adoption.proofs.adopting.judge_joined.Goals as goal

pub returns-in_err-see_owners-clause-judged : goal.returns-in_err-see_owners-clause-judged
returns-in_err-see_owners-clause-judged g c = λ clean next seen fine rows same is.
    joined_failure c.args.config.now (state g.S.Store c.args.conn.now).now.trees c.args.tables.now c.from_residual.result c.in_err-see_owners.field-0.0 c.from_residual.ensures.1

pub returns-in_err-check_attachment-clause-scans : goal.returns-in_err-check_attachment-clause-scans
returns-in_err-check_attachment-clause-scans g c =
    ended g.S.Store c.args.conn.now c.see_owners.new.conn _ c.from_residual-in_err-check_attachment.result c.in_ok-see_owners.ensures.scans

pub returns-in_err-check_attachment-clause-judged : goal.returns-in_err-check_attachment-clause-judged
returns-in_err-check_attachment-clause-judged g c = λ clean next seen fine rows same is.
    let answer : c.from_residual-in_err-check_attachment.result ≡ Err c.in_err-check_attachment.field-0.0 = is_err c.from_residual-in_err-check_attachment.result c.in_err-check_attachment.field-0.0 c.from_residual-in_err-check_attachment.ensures.1 in
    let config = c.args.config.now in
    let tables = c.args.tables.now in
    let db = (state g.S.Store c.args.conn.now).now.trees in
    let owned = c.in_ok-see_owners.ensures.seen clean in
    subst (λ r. JudgesRows config db (volumes_unless tables r)) (sym answer) (judged_err config db c.in_err-check_attachment.field-0.0 (λ known.
    owner_fault config db next rows same is tables seen owned.0 owned.1 c.in_ok-see_owners.field-0 owned.2 fine c.in_err-check_attachment.field-0.0 (c.in_err-check_attachment.ensures.0 (not_memory c.in_err-check_attachment.field-0.0 known))))

pub returns-in_err-see_apart-clause-scans : goal.returns-in_err-see_apart-clause-scans
returns-in_err-see_apart-clause-scans g c =
    failed g.S.Store c.args.conn.now c.see_apart.new.conn _ c.from_residual-in_err-see_apart.result c.from_residual-in_err-see_apart.ensures.0
    (chained g.S.Store c.args.conn.now c.see_owners.new.conn c.see_apart.new.conn _ _ c.in_ok-see_owners.ensures.scans c.in_err-see_apart.ensures.scans)

pub returns-in_err-see_apart-clause-judged : goal.returns-in_err-see_apart-clause-judged
returns-in_err-see_apart-clause-judged g c = λ clean next seen fine rows same is.
    joined_failure c.args.config.now (state g.S.Store c.args.conn.now).now.trees c.args.tables.now c.from_residual-in_err-see_apart.result c.in_err-see_apart.field-0.0 c.from_residual-in_err-see_apart.ensures.1

pub returns-in_err-check_counts-clause-scans : goal.returns-in_err-check_counts-clause-scans
returns-in_err-check_counts-clause-scans g c =
    ended g.S.Store c.args.conn.now c.see_apart.new.conn _ c.from_residual-in_err-check_counts.result
    (chained g.S.Store c.args.conn.now c.see_owners.new.conn c.see_apart.new.conn _ _ c.in_ok-see_owners.ensures.scans c.in_ok-see_apart.ensures.scans)

pub returns-in_err-check_counts-clause-judged : goal.returns-in_err-check_counts-clause-judged
returns-in_err-check_counts-clause-judged g c = λ clean next seen fine rows same is.
    let answer : c.from_residual-in_err-check_counts.result ≡ Err c.in_err-check_counts.field-0.0 = is_err c.from_residual-in_err-check_counts.result c.in_err-check_counts.field-0.0 c.from_residual-in_err-check_counts.ensures.1 in
    let db = (state g.S.Store c.args.conn.now).now.trees in
    let owned = c.in_ok-see_owners.ensures.seen (clean_before g.S.Store c.see_owners.new.conn c.see_apart.new.conn _ c.in_ok-see_apart.ensures.scans clean) in
    let places = shown_after g.S.Store c.args.conn.now c.see_owners.new.conn c.see_apart.new.conn _ _ (λ db rows. IsInOrder (map seen_attachment (db 3)) rows)
    c.in_ok-see_owners.ensures.scans c.in_ok-see_apart.ensures.scans c.in_ok-see_apart.ensures.seen clean in
    subst (λ r. JudgesRows c.args.config.now db (volumes_unless c.args.tables.now r)) (sym answer) (judged_err c.args.config.now db c.in_err-check_counts.field-0.0 (λ known.
    counts_fault c.args.config.now db next rows same is c.args.tables.now seen owned.0 owned.1 c.in_ok-see_owners.field-0 owned.2 fine places.0 places.1 c.in_ok-see_apart.field-0 places.2 c.in_ok-check_attachment.ensures
    c.in_err-check_counts.field-0.0 (c.in_err-check_counts.ensures.0 (not_memory c.in_err-check_counts.field-0.0 known))))

pub returns-clause-scans : goal.returns-clause-scans
returns-clause-scans g c =
    ended g.S.Store c.args.conn.now c.see_apart.new.conn _ _
    (chained g.S.Store c.args.conn.now c.see_owners.new.conn c.see_apart.new.conn _ _ c.in_ok-see_owners.ensures.scans c.in_ok-see_apart.ensures.scans)

pub returns-clause-judged : goal.returns-clause-judged
returns-clause-judged g c = λ clean next seen fine rows same is.
    let db = (state g.S.Store c.args.conn.now).now.trees in
    let owned = c.in_ok-see_owners.ensures.seen (clean_before g.S.Store c.see_owners.new.conn c.see_apart.new.conn _ c.in_ok-see_apart.ensures.scans clean) in
    let places = shown_after g.S.Store c.args.conn.now c.see_owners.new.conn c.see_apart.new.conn _ _ (λ db rows. IsInOrder (map seen_attachment (db 3)) rows)
    c.in_ok-see_owners.ensures.scans c.in_ok-see_apart.ensures.scans c.in_ok-see_apart.ensures.seen clean in
    none_broken c.args.config.now db next rows same is c.args.tables.now seen owned.0 owned.1 c.in_ok-see_owners.field-0 owned.2 fine places.0 places.1 c.in_ok-see_apart.field-0 places.2 c.in_ok-check_attachment.ensures c.in_ok-check_counts.ensures

pub returns-in_err-see_owners-clause-failed : goal.returns-in_err-see_owners-clause-failed
returns-in_err-see_owners-clause-failed g c = reported_after g.S.Store c.args.conn.now c.see_owners.new.conn c.from_residual.result c.in_err-see_owners.field-0.0 c.from_residual.ensures.1 c.in_err-see_owners.ensures.failed

pub returns-in_err-check_attachment-clause-failed : goal.returns-in_err-check_attachment-clause-failed
returns-in_err-check_attachment-clause-failed g c =
    no_store g.S.Store c.args.conn.now c.see_owners.new.conn c.from_residual-in_err-check_attachment.result c.in_err-check_attachment.field-0.0 c.from_residual-in_err-check_attachment.ensures.1 c.in_err-check_attachment.ensures.2

pub returns-in_err-see_apart-clause-failed : goal.returns-in_err-see_apart-clause-failed
returns-in_err-see_apart-clause-failed g c =
    reported_after g.S.Store c.args.conn.now c.see_apart.new.conn c.from_residual-in_err-see_apart.result c.in_err-see_apart.field-0.0 c.from_residual-in_err-see_apart.ensures.1
    (cause_after g.S.Store c.args.conn.now c.see_owners.new.conn c.see_apart.new.conn _ c.in_err-see_apart.field-0.0 c.in_ok-see_owners.ensures.scans c.in_err-see_apart.ensures.scans.survives c.in_err-see_apart.ensures.failed)

pub returns-in_err-check_counts-clause-failed : goal.returns-in_err-check_counts-clause-failed
returns-in_err-check_counts-clause-failed g c =
    no_store g.S.Store c.args.conn.now c.see_apart.new.conn c.from_residual-in_err-check_counts.result c.in_err-check_counts.field-0.0 c.from_residual-in_err-check_counts.ensures.1 c.in_err-check_counts.ensures.2

pub returns-in_err-see_owners-clause-open : goal.returns-in_err-see_owners-clause-open
returns-in_err-see_owners-clause-open g c = λ clean. failure_reported _ c.from_residual.result c.in_err-see_owners.field-0.0 c.from_residual.ensures.1

pub returns-in_err-check_attachment-clause-open : goal.returns-in_err-check_attachment-clause-open
returns-in_err-check_attachment-clause-open g c = λ clean.
    reported_if _ c.from_residual-in_err-check_attachment.result c.in_err-check_attachment.field-0.0 c.from_residual-in_err-check_attachment.ensures.1 (λ known. (c.in_ok-see_owners.ensures.scans.same clean).0.is_open)

pub returns-in_err-see_apart-clause-open : goal.returns-in_err-see_apart-clause-open
returns-in_err-see_apart-clause-open g c = λ clean. failure_reported _ c.from_residual-in_err-see_apart.result c.in_err-see_apart.field-0.0 c.from_residual-in_err-see_apart.ensures.1

pub returns-in_err-check_counts-clause-open : goal.returns-in_err-check_counts-clause-open
returns-in_err-check_counts-clause-open g c = λ clean.
    reported_if _ c.from_residual-in_err-check_counts.result c.in_err-check_counts.field-0.0 c.from_residual-in_err-check_counts.ensures.1 (λ known. (c.in_ok-see_apart.ensures.scans.same clean).0.is_open)
