use Rattle.std.proofs.Common.{rules, ◌≡◌, ◌∙◌, Err}
use Rattle.csi_through.proofs.StoppedLemmas.{not_made}
use Rattle.csi_through.proofs.through.ThroughKeeper.apply_owned.Goals as goal

pub returns-in_err-finish_change-clause-applies : goal.returns-in_err-finish_change-clause-applies
returns-in_err-finish_change-clause-applies g c =
    let is : c.from_residual-in_err-finish_change.result ≡ Err c.in_err-finish_change.field-0.0 = search rules in
    let is_answer : c.from_residual-in_err-finish_change.result ≡ c.finish_change.result = search rules in
    record {
      changes = not_made g.M.Keeper.model g.D.ChangeStore.model c.args.self.now c.commit-made.new.self c.finish_change.new.self c.args.change
          c.commit-made.result _ c.in_err-finish_change.field-0.0 is (is_answer ∙ c.finish_change.ensures.answers) c.commit-made.ensures;
      count = search rules;
      down = search rules;
    }
