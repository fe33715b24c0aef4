use Rattle.std.proofs.Common.{sym, arith, refl}
use Rattle.csi_tables.proofs.RowLemmas.{no_volume}
use Rattle.csi_tables.proofs.TablesLemmas.{is_answer, keeps_none, keeps_read, reported_if}
use Rattle.csi_tables.proofs.tables.TablesKeeper.by_number.Goals as goal

pub returns-then-number-ge-NUMBERS-clause-reads : goal.returns-then-number-ge-NUMBERS-clause-reads
returns-then-number-ge-NUMBERS-clause-reads g c = keeps_none g.S.Store c.args.self.now.conn c.args.self.now.totals _ c.in_ok-start_call.ensures (λ s stored. sym (no_volume s c.args.number c.if-number-ge-NUMBERS.true stored))

pub returns-then-number-ge-NUMBERS-clause-exact : goal.returns-then-number-ge-NUMBERS-clause-exact
returns-then-number-ge-NUMBERS-clause-exact g c = record { small = λ near. absurd (omega (arith, near, c.if-number-ge-NUMBERS.true)); large = λ far. refl }

pub returns : goal.returns
returns g c =
    let it = keeps_read c.args.self.now.totals c.in_ok-start_call.ensures c.by_number-answer.ensures.reads c.store_answer.ensures c.finish_call.ensures in
    record { reads = it.reads; exact = reported_if c.by_number-answer.result c.finish_call.result (is_answer c.by_number-answer.result _ _ c.store_answer.ensures c.finish_call.ensures.answers) (λ x reported. record { small = λ near. reported; large = λ far. absurd (omega (arith, far, c.if-number-ge-NUMBERS.false)) }) c.by_number-answer.ensures.exact; refused = it.refused; limit = it.limit; error_only_if = λ far. absurd (omega (arith, far, c.if-number-ge-NUMBERS.false)) }
