use Rattle.std.proofs.Common.{rules, subst, ℕ, List}
use Rattle.csid_connections.specs.Waiting.{Waits}
use Rattle.csid_connections.specs.declared.pending.Pending.{Pending}
use Rattle.csid_connections.proofs.WaitingLemmas.{emptied, gives_next, looks_more}
use Rattle.csid_connections.proofs.waiting.Waiting.next.Goals as goal

pub returns-in-Some-clause-next : goal.returns-in-Some-clause-next
returns-in-Some-clause-next c =
    let so = c.loop.invariant in
    gives_next _ _ c.look.new.self.pending.items _ _ _ _
    (looks_more _ c.loop.self.idle _ c.loop.self.pending.items _ _ c.loop.self.left c.look.new.self.left _ c.in_ok-now.now so.2 so.1 c.look.ensures.looks (search rules))
    c.in-Some.ensures.taken (λ none. absurd cc)

pub returns-then-is_empty-clause-next : goal.returns-then-is_empty-clause-next
returns-then-is_empty-clause-next c =
    let so = c.loop.invariant in
    gives_next _ _ c.look.new.self.pending.items _ _ _ _
    (looks_more _ c.loop.self.idle _ c.loop.self.pending.items _ _ c.loop.self.left c.look.new.self.left _ c.in_ok-now.now so.2 so.1 c.look.ensures.looks (search rules))
    c.in_default.ensures.taken (λ none. (search rules, emptied _ (search rules)))

pub loop-preserved : goal.loop-preserved
loop-preserved c =
    let so = c.loop.invariant in (
      search rules,
      search rules,
      subst (λ (pending : List Pending). (looks : ℕ) × Waits c.args.self.now.idle looks c.args.self.now.pending.items pending c.args.self.now.left c.wait.new.self.left) (search rules)
          (looks_more _ c.loop.self.idle _ c.loop.self.pending.items c.look.new.self.pending.items _ c.loop.self.left c.look.new.self.left _ c.in_ok-now.now so.2 so.1 c.look.ensures.looks (search rules)),
    )
