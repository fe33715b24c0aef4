use Rattle.std.proofs.Common.{rules, ◌≡◌, ◌∙◌, inl, inr, refl, sym, ap, ap₂, subst, Err, IfErr, true≢false}
use Rattle.sqlite.specs.Held.{state}
use Rattle.csi_sql.specs.Tables.{schema as our_schema}
use Rattle.csi_adoption.specs.Seen.{sums_of}
use Rattle.csi_adoption.specs.declared.fault.AdoptFault.TheVariants.{NoMemory}
use Rattle.csi_adoption.specs.Adopting.{IsNotRefused}
use Rattle.csi_adoption.specs.Failing.{IsOfShut}
use Rattle.csi_adoption.specs.Judging.{total_in}
use Rattle.csi_adoption.proofs.FaultLemmas.{is_err, must_fail}
use Rattle.csi_adoption.proofs.ChainLemmas.{ended}
use Rattle.csi_adoption.proofs.FailingLemmas.{handed_fault, if_err, no_store}
use Rattle.csi_adoption.proofs.adopting.judge.Goals as goal

pub returns-in_err-volumes-clause-other : goal.returns-in_err-volumes-clause-other
returns-in_err-volumes-clause-other g c = λ clean others.
    let ours : c.args.conn.now.schema ≡ our_schema = search rules in
    absurd (others ours)

pub returns-in_err-volumes-clause-sound : goal.returns-in_err-volumes-clause-sound
returns-in_err-volumes-clause-sound g c = λ clean.
    let fault = c.in_err-volumes.field-0.0 in
    let answer : c.from_residual.result ≡ Err fault = is_err c.from_residual.result fault c.from_residual.ensures.1 in
    let db = (state g.S.Store c.args.conn.now).now in
    subst (λ r. IfErr r (IsNotRefused c.args.config.now db)) (sym answer) (λ s _ rows invariant. must_fail fault (λ known. elim (c.in_err-volumes.ensures.judged clean known) [
      | inl it ↦ c.rows_report.ensures.no_meta_fault db.trees s rows invariant fault it
      | inr it ↦ c.rows_report.ensures.no_fault db.trees s rows invariant fault it
    ]))

pub returns-in_err-totals-clause-scans : goal.returns-in_err-totals-clause-scans
returns-in_err-totals-clause-scans g c = ended g.S.Store c.args.conn.now c.judge_rows.new.conn c.in_ok-volumes.volumes c.from_residual-in_err-totals.result c.in_ok-volumes.ensures.scans

pub returns-in_err-totals-clause-other : goal.returns-in_err-totals-clause-other
returns-in_err-totals-clause-other g c = λ clean others.
    let ours : c.args.conn.now.schema ≡ our_schema = search rules in
    absurd (others ours)

pub returns-clause-found : goal.returns-clause-found
returns-clause-found g c = λ clean.
    let ours : c.args.conn.now.schema ≡ our_schema = search rules in
    let db = (state g.S.Store c.args.conn.now).now in
    record {
      schema_is = ours;
      found = λ sound.
          let it = c.rows_report.ensures.found db.trees c.in_ok-volumes.volumes sound (c.in_ok-volumes.ensures.judged clean) in (
            it.known,
            it.state,
            it.rows,
            it.invariant,
            λ pool. c.in_ok-totals.ensures pool
                ∙ ap (λ ps. total_in ps (sums_of c.as_slice.result.now) (sums_of c.as_slice-2.result.now) pool) c.pools.ensures
                ∙ ap₂ (λ a b. total_in c.args.config.now.pools (sums_of a) (sums_of b) pool) c.as_slice.ensures.value c.as_slice-2.ensures.value
                ∙ it.totals pool,
          );
    }

pub returns-in_err-totals-clause-failed : goal.returns-in_err-totals-clause-failed
returns-in_err-totals-clause-failed g c = no_store g.S.Store c.args.conn.now c.judge_rows.new.conn c.from_residual-in_err-totals.result NoMemory c.from_residual-in_err-totals.ensures.1 refl

pub returns-in_err-volumes-clause-failed : goal.returns-in_err-volumes-clause-failed
returns-in_err-volumes-clause-failed g c = handed_fault g.S.Store c.args.conn.now c.judge_rows.new.conn c.from_residual.result c.in_err-volumes.field-0.0 c.from_residual.ensures.1 c.in_err-volumes.ensures.failed

pub returns-in_err-volumes-clause-shut : goal.returns-in_err-volumes-clause-shut
returns-in_err-volumes-clause-shut g c = λ clean shut.
    if_err (IsOfShut (state g.S.Store c.judge_rows.new.conn).now.schema) c.from_residual.result c.in_err-volumes.field-0.0 c.from_residual.ensures.1
    (λ known. absurd (true≢false (sym (c.in_err-volumes.ensures.open clean known) ∙ shut)))

pub returns-in_err-totals-clause-shut : goal.returns-in_err-totals-clause-shut
returns-in_err-totals-clause-shut g c = λ clean shut.
    if_err (IsOfShut (state g.S.Store c.judge_rows.new.conn).now.schema) c.from_residual-in_err-totals.result NoMemory c.from_residual-in_err-totals.ensures.1 (λ known. absurd (true≢false known))
