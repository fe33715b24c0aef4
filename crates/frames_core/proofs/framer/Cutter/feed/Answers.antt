use Rattle.std.proofs.Common.{◌≡◌, ◌≤◌, Option, length, vec_capacity, sym, ap, subst, arith, inl}
use Rattle.envelope.specs.declared.kind.FrameKind.{FrameKind}
use Rattle.envelope.specs.declared.kind.Part.{Part}
use Rattle.envelope.specs.Grammar.{BreaksFirst}
use Rattle.envelope.specs.Head.{most_frame}
use Rattle.envelope.specs.declared.head.Flaw.{Flaw}
use Rattle.frames_core.specs.Prefix.{Stands, TakesPrefix}
use Rattle.envelope.specs.facts.Breaking.{Breaks_within}
use Rattle.frames_core.proofs.Framing.{broke, fault_unmarked, holds_broken, known_break, marks_then, open_few, settled_whole}
use Rattle.envelope.specs.facts.Frames.{breaks_has, is_unfinished}
use Rattle.frames_core.specs.facts.Feeding.{not_settled}
use Rattle.frames_core.proofs.framer.Cutter.feed.Goals as goal

pub of-requires : goal.of-requires
of-requires g c =
    let b = broke c.kind.result g.F.Fault.kind c.self.inside.past c.self.inside.buffer.items c.args.piece.now c.take_prefix-prefix.new.buffer.items c.take_prefix-prefix.result c.in-Some.flaw c.kind.ensures (omega (arith, ap (λ s. s.past) c.self.view_is, ap (λ s. length s.held) c.self.view_is, c.requires.room)) c.take_prefix-prefix.ensures.takes c.in-Some.is in
    breaks_has g.F.Fault.kind c.take_prefix-prefix.new.buffer.items c.in-Some.flaw.part c.in-Some.flaw.at b.breaks.breaks

pub overflow_add-self-inside : goal.overflow_add-self-inside
overflow_add-self-inside g c =
    let b = broke c.kind.result g.F.Fault.kind c.self.inside.past c.self.inside.buffer.items c.args.piece.now c.take_prefix-prefix.new.buffer.items c.take_prefix-prefix.result c.in-Some.flaw c.kind.ensures (omega (arith, ap (λ s. s.past) c.self.view_is, ap (λ s. length s.held) c.self.view_is, c.requires.room)) c.take_prefix-prefix.ensures.takes c.in-Some.is in
    omega (arith, b.few, Breaks_within g.F.Fault.kind c.take_prefix-prefix.new.buffer.items c.in-Some.flaw.part c.in-Some.flaw.at b.breaks.breaks)

pub invariant_of-self : goal.invariant_of-self
invariant_of-self g c =
    let F = g.F.Fault in
    let new = c.take_prefix-prefix.new.buffer.items in
    let b = broke c.kind.result F.kind c.self.inside.past c.self.inside.buffer.items c.args.piece.now new c.take_prefix-prefix.result c.in-Some.flaw c.kind.ensures (omega (arith, ap (λ s. s.past) c.self.view_is, ap (λ s. length s.held) c.self.view_is, c.requires.room)) c.take_prefix-prefix.ensures.takes c.in-Some.is in
    let named = subst (λ (q : Part). BreaksFirst F.kind new q c.in-Some.flaw.at) (sym c.of.ensures.part) b.breaks in
    let room = subst (λ (k : FrameKind). most_frame k ≤ vec_capacity c.take_prefix-prefix.new.buffer) (let same : c.kind.result ≡ F.kind = c.kind.ensures in same) c.take_prefix-prefix.ensures.room in
    let prefix = c.take_prefix-prefix.result in
    let taken = c.take_prefix-prefix.ensures.takes in
    let marks = marks_then c.kind.result F.kind c.self.inside.buffer.items c.args.piece.now new prefix c.kind.ensures taken in (
      room,
      holds_broken F.kind F.wrong_part F.place c.self.inside.past new c.of.result c.in-Some.flaw.at b.few named c.of.ensures.place,
      fault_unmarked F.kind new prefix.flaw c.in-Some.flaw c.of.result prefix.whole c.in-Some.is marks,
    )

pub returns-in-Some-clause-known : goal.returns-in-Some-clause-known
returns-in-Some-clause-known g c unknown =
    let F = g.F.Fault in
    let new = c.take_prefix-prefix.new.buffer.items in
    let b = broke c.kind.result F.kind c.self.inside.past c.self.inside.buffer.items c.args.piece.now new c.take_prefix-prefix.result c.in-Some.flaw c.kind.ensures (omega (arith, ap (λ s. s.past) c.self.view_is, ap (λ s. length s.held) c.self.view_is, c.requires.room)) c.take_prefix-prefix.ensures.takes c.in-Some.is in
    let named = subst (λ (q : Part). BreaksFirst F.kind new q c.in-Some.flaw.at) (sym c.of.ensures.part) b.breaks in
    known_break F.kind c.self.inside.past new (F.wrong_part c.of.result) c.in-Some.flaw.at (F.place c.of.result) named c.of.ensures.place

pub returns-in-Some-clause-settled : goal.returns-in-Some-clause-settled
returns-in-Some-clause-settled g c settled =
    let open_ = c.is_settled.ensures.open c.if-is_settled.false in
    absurd (not_settled g.F.Fault.kind c.args.self.now open_.0 (is_unfinished g.F.Fault.kind c.args.self.now.held open_.1 open_.2) settled)

pub returns-in_default-clause-all : goal.returns-in_default-clause-all
returns-in_default-clause-all g c = λ less.
    let new = c.take_prefix-prefix.new.buffer.items in
    let t = subst (λ (k : FrameKind). TakesPrefix k c.self.inside.buffer.items c.args.piece.now new c.take_prefix-prefix.result) (let same : c.kind.result ≡ g.F.Fault.kind = c.kind.ensures in same) c.take_prefix-prefix.ensures.takes in
    let bytes = c.each_fits.ensures in
    let is = c.as_slice.ensures.value in
    inl (settled_whole g.F.Fault.kind c.self.inside.buffer.items c.args.piece.now new c.take_prefix-prefix.result t c.in_default.is (λ k. rw is at (bytes k)) less)

pub returns-in_default-clause-bounded : goal.returns-in_default-clause-bounded
returns-in_default-clause-bounded g c = λ unknown open_.
    let new = c.take_prefix-prefix.new.buffer.items in
    let t = subst (λ (k : FrameKind). TakesPrefix k c.self.inside.buffer.items c.args.piece.now new c.take_prefix-prefix.result) (let same : c.kind.result ≡ g.F.Fault.kind = c.kind.ensures in same) c.take_prefix-prefix.ensures.takes in
    let bytes = c.each_fits.ensures in
    let is = c.as_slice.ensures.value in
    let P : Option Flaw → Type 0 = λ o. Stands g.F.Fault.kind new o in
    open_few g.F.Fault.kind new (λ k. rw is at (bytes k)) (subst P c.in_default.is t.stands) open_

pub returns-in_default-clause-settled : goal.returns-in_default-clause-settled
returns-in_default-clause-settled g c settled =
    let open_ = c.is_settled.ensures.open c.if-is_settled.false in
    absurd (not_settled g.F.Fault.kind c.args.self.now open_.0 (is_unfinished g.F.Fault.kind c.args.self.now.held open_.1 open_.2) settled)
