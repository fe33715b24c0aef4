use Rattle.std.proofs.Common.{rules, ◌∙◌, Err}
use Rattle.csi_tables.proofs.KeepLemmas.{on_ok_so}
use Rattle.csi_tables.proofs.TablesLemmas.{is_answer, keeps_applied, stays_down}
use Rattle.csi_tables.proofs.RefusalLemmas.{reported_refused}
use Rattle.csi_tables.proofs.tables.TablesKeeper.apply.Goals as goal

pub returns-in-Err-clause-applies : goal.returns-in-Err-clause-applies
returns-in-Err-clause-applies g c = record {
  changes = stays_down g.S.Store (c.args.self.now.conn, c.args.self.now.totals) c.args.self.now.health c.start_call.new.self c.args.change.now (Err c.in-Err.fault) c.in-Err.ensures.fault c.start_call.ensures.stays;
  count = search rules;
  down = search rules;
}

pub returns-clause-applies : goal.returns-clause-applies
returns-clause-applies g c = record {
  changes = keeps_applied g.S.Store (c.args.self.now.conn, c.args.self.now.totals) (c.make-answer.new.conn, c.make-answer.new.totals) c.args.self.now.health c.finish_change.new.self c.args.change.now c.make-answer.result c.finish_change.result (is_answer c.make-answer.result _ _ c.store_answer.ensures c.finish_change.ensures.answers)
      c.make-answer.ensures.made c.make-answer.ensures.failed (on_ok_so (λ stays. stays ∙ c.start_call.ensures.stays) c.finish_change.result c.finish_change.ensures.stays);
  count = search rules;
  down = search rules;
}

pub returns-clause-refused : goal.returns-clause-refused
returns-clause-refused g c clean is = c.make-answer.ensures.refused clean (reported_refused c.make-answer.result c.finish_change.result (is_answer c.make-answer.result _ _ c.store_answer.ensures c.finish_change.ensures.answers) is)

pub returns-clause-limit : goal.returns-clause-limit
returns-clause-limit g c = c.make-answer.ensures.limit
