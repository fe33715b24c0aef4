use Rattle.std.proofs.Common.{◌≡◌, ◌∙◌, ap, sym, true≢false}
use Rattle.csi_sql.specs.Tables.{no_schema}
use Rattle.csi_adoption.specs.Faults.{is_failure}
use Rattle.csi_adoption.proofs.FaultLemmas.{error_fails}
use Rattle.csi_adoption.proofs.AdoptLemmas.{is_adopted, is_made, is_refused, is_settled, is_unmade, stands}
use Rattle.csi_adoption.proofs.FailingLemmas.{settled_cause, tables_cause}
use Rattle.csi_adoption.proofs.adopting.adopt_into.Goals as goal

pub returns-in-Ok-clause-adopted : goal.returns-in-Ok-clause-adopted
returns-in-Ok-clause-adopted g c =
    let settled = is_settled g.S.Store c.args.conn c.set_step_limit.new.self c.roll_back.new.conn c.set_step_limit.ensures c.roll_back.ensures.undone c.roll_back.ensures.survives in
    let blank : c.roll_back.new.conn.schema ≡ no_schema = sym c.schema.ensures.value ∙ c.is_blank.ensures.0 c.if-is_blank.true in
    is_made g.S.Store c.args.config.now c.args.conn c.roll_back.new.conn settled blank c.rows_report.ensures.new c.in-Ok.tables c.in-Ok.ensures.made c.in-Ok.ensures.was_open

pub returns-in-Err-clause-unadopted : goal.returns-in-Err-clause-unadopted
returns-in-Err-clause-unadopted g c =
    let settled = is_settled g.S.Store c.args.conn c.set_step_limit.new.self c.roll_back.new.conn c.set_step_limit.ensures c.roll_back.ensures.undone c.roll_back.ensures.survives in
    let blank : c.roll_back.new.conn.schema ≡ no_schema = sym c.schema.ensures.value ∙ c.is_blank.ensures.0 c.if-is_blank.true in
    is_unmade g.S.Store c.args.config.now c.args.conn c.roll_back.new.conn settled blank c.in-Err.field-0.conn c.from.result c.in-Err.ensures.idle (ap is_failure c.from.ensures ∙ error_fails c.in-Err.field-0.error) c.in-Err.ensures.undone c.in-Err.ensures.survives
    (settled_cause g.S.Store c.args.conn c.set_step_limit.new.self c.roll_back.new.conn c.in-Err.field-0.conn c.from.result c.set_step_limit.ensures c.roll_back.ensures.undone c.roll_back.ensures.survives c.in-Err.ensures.survives
    (λ clean is_open. (c.in-Err.ensures.undone clean).was_open is_open)
    (tables_cause g.S.Store c.roll_back.new.conn c.in-Err.field-0.conn c.in-Err.field-0.error c.from.result c.from.ensures blank (λ clean. c.in-Err.ensures.failed clean blank)))

pub over-requires : goal.over-requires
over-requires g c =
    let settled = is_settled g.S.Store c.args.conn c.set_step_limit.new.self c.roll_back.new.conn c.set_step_limit.ensures c.roll_back.ensures.undone c.roll_back.ensures.survives in
    let it = rw c.new-conn.ensures at c.in-Ok-judge_and_upgrade.ensures in
    record { stands = stands g.S.Store c.args.config.now c.args.conn c.roll_back.new.conn c.judge_and_upgrade.new.conn c.in-Ok-judge_and_upgrade.totals settled c.schema.ensures.live it.survives it.taken }

pub returns-in-Ok-judge_and_upgrade-clause-adopted : goal.returns-in-Ok-judge_and_upgrade-clause-adopted
returns-in-Ok-judge_and_upgrade-clause-adopted g c =
    let settled = is_settled g.S.Store c.args.conn c.set_step_limit.new.self c.roll_back.new.conn c.set_step_limit.ensures c.roll_back.ensures.undone c.roll_back.ensures.survives in
    let it = rw c.new-conn.ensures at c.in-Ok-judge_and_upgrade.ensures in
    is_adopted g.S.Store c.args.config.now c.args.conn c.roll_back.new.conn c.judge_and_upgrade.new.conn c.in-Ok-judge_and_upgrade.totals settled c.schema.ensures.live it.survives it.taken
    c.one_state.ensures g.met.S.Store.settled c.over.result c.over.ensures.value c.over.ensures.fresh

pub returns-in-Err-judge_and_upgrade-clause-unadopted : goal.returns-in-Err-judge_and_upgrade-clause-unadopted
returns-in-Err-judge_and_upgrade-clause-unadopted g c =
    let settled = is_settled g.S.Store c.args.conn c.set_step_limit.new.self c.roll_back.new.conn c.set_step_limit.ensures c.roll_back.ensures.undone c.roll_back.ensures.survives in
    let it = rw c.new-conn.ensures at c.in-Err-judge_and_upgrade.ensures in
    let back = c.into_connection-conn.ensures.value in
    let some = λ (none : c.roll_back.new.conn.schema ≡ no_schema). true≢false (sym (c.is_blank.ensures.1 (c.schema.ensures.value ∙ none)) ∙ c.if-is_blank.false) in
    rw back (is_refused g.S.Store c.args.config.now c.args.conn c.roll_back.new.conn c.judge_and_upgrade.new.conn c.in-Err-judge_and_upgrade.fault settled c.schema.ensures.live (rw back at c.into_connection-conn.ensures.idle)
    (settled_cause g.S.Store c.args.conn c.set_step_limit.new.self c.roll_back.new.conn c.judge_and_upgrade.new.conn c.in-Err-judge_and_upgrade.fault c.set_step_limit.ensures c.roll_back.ensures.undone c.roll_back.ensures.survives it.survives (λ clean is_open. (it.kept clean).was_open is_open) it.failed)
    it.kept it.survives it.first it.other it.sound some it.shut)
