use Rattle.std.proofs.Common.{◌≡◌, ◌+◌, ℕ, List, [], None, length, ap, subst, sym, rules}
use Rattle.std.specs.Prelude.{IsNone}
use Rattle.envelope.specs.Grammar.{IsUnbroken}
use Rattle.envelope.specs.Head.{IsShort}
use Rattle.frames_core.proofs.Framing.{cut_unmarked, holds_cut}
use Rattle.frames_core.proofs.framer.Cutter.end.Goals as goal

pub invariant_of-self : goal.invariant_of-self
invariant_of-self g c =
    let F = g.F.Fault in
    let i = c.self.inside in
    let held : c.args.self.now.held ≡ i.buffer.items = sym (ap (λ s. s.held) c.self.view_is) in
    let none : IsNone c.whole_frame.result = search rules in
    let unknown : c.args.self.now.fault ≡ None = search rules in
    let open_ = c.whole_frame.ensures.short none unknown in
    let some : i.buffer.items ≡ [] → ⊥ = search rules in
    let place : F.place c.of.result ≡ i.past + length i.buffer.items = search rules in
    let short = subst (λ (x : List ℕ). IsShort F.kind x) held open_.1 in
    let unbroken = subst (λ (x : List ℕ). IsUnbroken F.kind x) held open_.0 in
    let few = c.self.invariant.1.few in (
      c.self.invariant.0,
      holds_cut F.kind F.wrong_part F.place i.past i.buffer.items c.of.result few some unbroken short c.of.ensures.part place,
      cut_unmarked F.kind i.buffer.items i.known c.of.result i.whole short c.self.invariant.2,
    )
