use Rattle.std.proofs.Common.{rules, refl, inl, inr, arith, []}
use Rattle.sqlite.specs.State.{HasCleanDisk, FailsToQuery}
use Rattle.sqlite.specs.Held.{state}
use Rattle.sqlite.proofs.Callers.{begun_plain, unchanged_then}
use Rattle.sqlite.proofs.StateLemmas.{survives_then}
use Rattle.csi_sql.specs.Failing.{as_refused, SqlRefusesToRead}
use Rattle.csi_sql.specs.facts.Failing.{fails_weaker, handed, query_fails}
use Rattle.csi_sql.specs.Folding.{RefusesRows}
use Rattle.csi_sql.proofs.StreamLemmas.{behind_rows, dropped, never_ok, one_longer, commits_nothing, fails_keeps, unchanged_keeps, failed_keeps, keeps_then, query_reported, shown_from, reported_after, reported_rows}
use Rattle.csi_sql.proofs.fold.each_row.Goals as goal

pub returns-in_err-rows : goal.returns-in_err-rows
returns-in_err-rows g c =
    let old = state g.S.Store c.args.conn.now in
    let new = state g.S.Store c.query.follows.lender-at-none in
    let e = c.in_err-rows.field-0.0 in
    let r = c.from_residual.result in
    let is = c.from_residual.ensures.1 in
    let refused = rw (c.in_err-rows.was, c.conn.view_is) at c.query.follows.holds-at-none in
    let plain = λ (clean : HasCleanDisk new). c.requires.plain (omega (arith, refused.survives.clean)) in
    record {
      ok = λ clean. never_ok r e _ is;
      failed = λ clean. handed r e _ is (fails_weaker (SqlRefusesToRead c.args.sql.now [] old) (RefusesRows g.S.Store c.args.sql.now c.args.conn.now) old new e (λ why. inl why) (query_fails c.args.sql.now [] old new e (plain clean) (refused.err clean)));
      reported = λ clean. handed r e _ is (reported_rows g.S.Store c.args.sql.now c.args.conn.now new e (query_reported c.args.sql.now old new e (plain clean) (refused.err clean)));
      same = λ clean. never_ok r e _ is;
      kept = λ clean. fails_keeps c.args.sql.now [] old new e (refused.err clean);
      survives = commits_nothing c.args.sql.now [] old new plain refused.survives;
    }

pub rows-init : goal.rows-init
rows-init g c =
    let made = rw c.conn.view_is at c.in_ok-rows.ensures in (
      refl,
      c.in_ok-rows.ensures.mode c.conn.invariant,
      commits_nothing _ _ _ _ (λ clean. c.requires.plain (omega (arith, made.survives.clean))) made.survives,
      λ clean. let b = begun_plain g.S.Store _ _ c.args.conn.now _ (c.requires.plain (omega (arith, made.survives.clean))) (made.begun clean) in ([], b.0, b.1, g.met.F.Fold.starts _, refl),
    )

pub returns-in_err-row : goal.returns-in_err-row
returns-in_err-row g c =
    let old = state g.S.Store c.args.conn.now in
    let mid = state g.S.Store c.rows.rows.conn.now in
    let now = state g.S.Store c.next.follows.lender-at-none.conn.now in
    let moved = c.next.follows.holds-at-none in
    let e = c.in_err-row.field-0.0 in
    let r = c.from_residual-in_err-row.result in
    let is = c.from_residual-in_err-row.ensures.1 in
    let was = λ (clean : HasCleanDisk now). c.rows.invariant.3 (omega (arith, moved.survives.clean)) in
    dropped c.args.sql.now c.next.follows.lender-at-none.conn.now c.drop-rows.new.self.0 c.drop-rows.ensures (search rules) (record {
      ok = λ clean. never_ok r e _ is;
      failed = λ clean.
          let given = was clean in
          let fails : FailsToQuery c.args.sql.now [] mid now e = (rw c.in_err-row.was at (moved.err clean)) c.args.sql.now [] given.0 given.1 in
          let plain = c.requires.plain (omega (arith, clean, moved.survives.clean, c.rows.invariant.2.clean)) in
          handed r e _ is (fails_weaker (SqlRefusesToRead c.args.sql.now [] old) (RefusesRows g.S.Store c.args.sql.now c.args.conn.now) old now e (λ why. inl why) (behind_rows c.args.sql.now old mid now e plain c.rows.invariant.2 given.2 fails));
      reported = λ clean.
          let given = was clean in
          let fails : FailsToQuery c.args.sql.now [] mid now e = (rw c.in_err-row.was at (moved.err clean)) c.args.sql.now [] given.0 given.1 in
          let plain = c.requires.plain (omega (arith, clean, moved.survives.clean, c.rows.invariant.2.clean)) in
          handed r e _ is (reported_rows g.S.Store c.args.sql.now c.args.conn.now now e (reported_after c.args.sql.now old mid now e plain c.rows.invariant.2 given.2 fails));
      same = λ clean. never_ok r e _ is;
      kept = λ clean. keeps_then old mid now (unchanged_keeps old mid (was clean).2) (failed_keeps mid now e (rw c.in_err-row.was at (moved.kept clean)));
      survives = survives_then old mid now (λ _. ⊥) (λ _. ⊥) (λ _. ⊥) (λ _ db none. none) (λ _ db none. none) c.rows.invariant.2 moved.survives;
    })

pub returns-in_default : goal.returns-in_default
returns-in_default g c =
    let old = state g.S.Store c.args.conn.now in
    let mid = state g.S.Store c.rows.rows.conn.now in
    let now = state g.S.Store c.next.follows.lender-at-none.conn.now in
    let moved = c.next.follows.holds-at-none in
    let was = λ (clean : HasCleanDisk now). c.rows.invariant.3 (omega (arith, moved.survives.clean)) in
    let same = λ (clean : HasCleanDisk now). unchanged_then old mid now (was clean).2 (rw c.in_ok-row.was at (moved.same clean)) in
    dropped c.args.sql.now c.next.follows.lender-at-none.conn.now c.drop-rows-in_default.new.self.0 c.drop-rows-in_default.ensures (search rules) (record {
      ok = λ clean.
          let given = was clean in
          let shown = (rw (c.in_ok-row.was, c.in_default.is) at (moved.ok clean)) c.args.sql.now [] given.0 given.1 in
          let plain = c.requires.plain (omega (arith, clean, moved.survives.clean, c.rows.invariant.2.clean)) in
          (given.0, shown_from c.args.sql.now [] old mid now given.0 plain given.2 shown, given.3);
      failed = λ clean. tt;
      reported = λ clean. tt;
      same = same;
      kept = λ clean. unchanged_keeps old now (same clean);
      survives = survives_then old mid now (λ _. ⊥) (λ _. ⊥) (λ _. ⊥) (λ _ db none. none) (λ _ db none. none) c.rows.invariant.2 moved.survives;
    })

pub rows-preserved : goal.rows-preserved
rows-preserved g c =
    let moved = c.next.follows.holds-at-none in (
      search rules,
      moved.mode c.rows.invariant.1,
      survives_then _ _ _ (λ _. ⊥) (λ _. ⊥) (λ _. ⊥) (λ _ db none. none) (λ _ db none. none) c.rows.invariant.2 moved.survives,
      λ clean.
          let was = c.rows.invariant.3 (omega (arith, moved.survives.clean)) in
          let given = (rw (c.in_ok-row.was, c.in-Some.is) at (moved.ok clean)) c.args.sql.now [] was.0 was.1 in
          let same = unchanged_then _ _ _ was.2 (rw c.in_ok-row.was at (moved.same clean)) in
          let took = rw c.in_ok-add_row.was at c.add_row.ensures.folded in
          (_, given, same, took _ was.0 was.3, one_longer was.0 _ _ was.4),
    )

pub returns : goal.returns
returns g c = record {
  ok = search rules;
  failed = λ clean.
      let late : HasCleanDisk (state g.S.Store c.rows.rows.conn.now) = search rules in
      let was = c.rows.invariant.3 late in
      as_refused (inr (refl, c.rows.rows.conn.now, was.0, was.2, was.1, omega (arith, c.rows-test.false, was.4)));
  reported = λ clean.
      let late : HasCleanDisk (state g.S.Store c.rows.rows.conn.now) = search rules in
      let was = c.rows.invariant.3 late in
      inr (inr (refl, c.rows.rows.conn.now, was.0, was.2, was.1, omega (arith, c.rows-test.false, was.4)));
  same = search rules;
  kept = search rules;
  survives = search rules;
}
