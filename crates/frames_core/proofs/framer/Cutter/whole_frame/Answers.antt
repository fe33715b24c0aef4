use Rattle.std.proofs.Common.{◌≡◌, List, ℕ, ap, sym, subst}
use Rattle.std.specs.Prelude.{IsTrue, false}
use Rattle.envelope.specs.Grammar.{BeginsFrame, IsFrame}
use Rattle.envelope.specs.facts.Frames.{IsBytes}
use Rattle.frames_core.proofs.Framing.{marked, unmarked}
use Rattle.frames_core.proofs.framer.Cutter.whole_frame.Goals as goal

pub returns-then-not-self-clause-none : goal.returns-then-not-self-clause-none
returns-then-not-self-clause-none g c e begins =
    let F = g.F.Fault in
    let i = c.self.inside in
    let held : i.buffer.items ≡ c.args.self.now.held = ap (λ s. s.held) c.self.view_is in
    let off : i.whole ≡ false = c.if-not-self.true in
    let inv = c.self.invariant in
    let here = subst (λ (x : List ℕ). BeginsFrame F.kind x) (sym held) begins in
    unmarked F.kind F.wrong_part F.place i.past i.buffer.items i.known i.whole inv.1 inv.2 off here

pub returns-clause-frame : goal.returns-clause-frame
returns-clause-frame g c t =
    let F = g.F.Fault in
    let i = c.self.inside in
    let held : i.buffer.items ≡ c.args.self.now.held = ap (λ s. s.held) c.self.view_is in
    let on : IsTrue i.whole = c.if-not-self.false in
    let fits = subst (λ (x : List ℕ). IsBytes x) c.as_slice-held.ensures.value c.each_fits.ensures in
    let inv = c.self.invariant in
    let is = marked F.kind F.wrong_part F.place i.past i.buffer.items i.known i.whole inv.1 inv.2 on fits in
    subst (λ (x : List ℕ). IsFrame F.kind x) held is
