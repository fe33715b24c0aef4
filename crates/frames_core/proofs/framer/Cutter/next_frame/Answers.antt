use Rattle.std.proofs.Common.{◌≡◌, ◌+◌, ℕ, List, [], length, sym, ap, subst, arith}
use Rattle.std.specs.Prelude.{false}
use Rattle.envelope.specs.Grammar.{IsFrame}
use Rattle.frames_core.specs.Holding.{Holds, Marks}
use Rattle.frames_core.proofs.Framing.{given_up, none_unfinished, nothing_marked}
use Rattle.frames_core.proofs.framer.Cutter.next_frame.Goals as goal

pub invariant_of-self : goal.invariant_of-self
invariant_of-self g c =
    let F = g.F.Fault in
    let i = c.self.inside in
    let held : i.buffer.items ≡ c.args.self.now.held = ap (λ s. s.held) c.self.view_is in
    let f = subst (λ (x : List ℕ). IsFrame F.kind x) (sym held) (c.whole_frame.ensures.frame (sym c.if-is_some.ensures)) in
    let h = given_up F.kind F.wrong_part F.place i.past i.buffer.items i.known c.self.invariant.1 f in
    let sum : i.past + length i.buffer.items ≡ i.past + c.len.result = omega (arith, c.len.ensures, i.buffer.ok.0) in
    let none : c.clear.new.self.items ≡ [] = c.clear.ensures.items in (
      omega (arith, c.clear.ensures.capacity, c.self.invariant.0),
      subst (λ (x : List ℕ). Holds F.kind F.wrong_part F.place (i.past + c.len.result) x i.known) (sym none)
          (subst (λ (n : ℕ). Holds F.kind F.wrong_part F.place n [] i.known) sum h.0),
      subst (λ (x : List ℕ). Marks F.kind x i.known false) (sym none) (nothing_marked F.kind i.known),
    )

pub returns-then-is_some-clause-open : goal.returns-then-is_some-clause-open
returns-then-is_some-clause-open g c = λ f. none_unfinished g.F.Fault.kind c.clear.new.self.items c.clear.ensures.items
