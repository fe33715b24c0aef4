use Rattle.std.proofs.Common.{ap, ◌∙◌, ◌++◌, sym, ◌-◌, length}
use Rattle.pbwire.specs.Writing.{minimal}
use Rattle.pbwire.proofs.VarintLemmas.{writes_more, minimal_last}
use Rattle.pbwire.proofs.writing.push_varint.Goals as goal

pub loop-rest-preserved : goal.loop-rest-preserved
loop-rest-preserved c = writes_more c.args.out.now.items c.loop-rest.out.items (c.args.out.now.items ++ minimal 9 c.args.number) c.push.new.self.items c.loop-rest.rest c.loop-rest.invariant c.loop-rest-test.true c.push.ensures.items

pub returns : goal.returns
returns c =
    c.push-2.ensures.items
    ∙ ap (λ bs. c.loop-rest.out.items ++ bs) (sym (minimal_last (9 - (length c.loop-rest.out.items - length c.args.out.now.items)) c.loop-rest.rest c.loop-rest-test.false))
    ∙ c.loop-rest.invariant.spelled
