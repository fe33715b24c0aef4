use Rattle.std.proofs.Common.{◌∙◌, arith}
use Rattle.csi_tables.proofs.TablesLemmas.{is_answer, keeps_none, keeps_read, no_nodes, no_page, reported_if}
use Rattle.csi_tables.proofs.tables.TablesKeeper.page_with_nodes.Goals as goal

pub returns-then-after-ge-NUMBERS-clause-reads : goal.returns-then-after-ge-NUMBERS-clause-reads
returns-then-after-ge-NUMBERS-clause-reads g c =
    keeps_none g.S.Store c.args.self.now.conn c.args.self.now.totals _ c.in_ok-start_call.ensures
    (λ s stored. record {
      volumes = c.new.ensures ∙ no_page s c.args.after c.args.count c.if-after-ge-NUMBERS.true stored;
      nodes = c.new-then-after-ge-NUMBERS.ensures ∙ no_nodes s c.args.after c.args.count c.if-after-ge-NUMBERS.true stored;
    })

pub returns-then-after-ge-NUMBERS-clause-exact : goal.returns-then-after-ge-NUMBERS-clause-exact
returns-then-after-ge-NUMBERS-clause-exact g c = record {
  small = λ near. absurd (omega (arith, near, c.if-after-ge-NUMBERS.true));
  large = λ far i. record { volumes = c.new.ensures i; nodes = c.new-then-after-ge-NUMBERS.ensures i };
}

pub returns : goal.returns
returns g c =
    let it = keeps_read c.args.self.now.totals c.in_ok-start_call.ensures c.page_with_nodes-answer.ensures.reads c.store_answer.ensures c.finish_call.ensures in
    record { reads = it.reads; exact = reported_if c.page_with_nodes-answer.result c.finish_call.result (is_answer c.page_with_nodes-answer.result _ _ c.store_answer.ensures c.finish_call.ensures.answers) (λ x reported. record { small = λ near. reported; large = λ far. absurd (omega (arith, far, c.if-after-ge-NUMBERS.false)) }) c.page_with_nodes-answer.ensures.exact; refused = it.refused; limit = it.limit; error_only_if = λ far. absurd (omega (arith, far, c.if-after-ge-NUMBERS.false)) }
