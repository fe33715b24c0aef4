use Rattle.csi_tables.proofs.TablesLemmas.{is_answer, keeps_read, reported_if}
use Rattle.csi_tables.proofs.tables.TablesKeeper.by_name.Goals as goal

pub returns : goal.returns
returns g c =
    let it = keeps_read c.args.self.now.totals c.in_ok-start_call.ensures c.by_name-answer.ensures.reads c.store_answer.ensures c.finish_call.ensures in
    record { reads = it.reads; exact = reported_if c.by_name-answer.result c.finish_call.result (is_answer c.by_name-answer.result _ _ c.store_answer.ensures c.finish_call.ensures.answers) (λ x reported. reported) c.by_name-answer.ensures.exact; refused = it.refused; limit = it.limit }
