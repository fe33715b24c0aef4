use Rattle.std.proofs.Common.{◌≡◌, ℕ, List, length, take, drop, refl, sym, ap, subst, arith}
use Rattle.std.proofs.lemmas.List.{take-append-drop}
use Rattle.std.proofs.lemmas.Grind.{common_steps}
use Rattle.envelope.specs.declared.kind.FrameKind.{FrameKind}
use Rattle.envelope.specs.declared.kind.Part.{Part}
use Rattle.envelope.specs.declared.kind.Part.TheVariants.{Missing}
use Rattle.envelope.specs.Grammar.{BreaksFirst, FaultAt, HasPart}
use Rattle.envelope.specs.facts.Breaking.{nil_unbroken, BreaksFirst-longer}
use Rattle.envelope.specs.facts.Frames.{breaks_has, is_unfinished, fault_of_break}
use Rattle.envelope.proofs.taken.first_frame.Goals as goal

pub look_at-requires-clause-prefix : goal.look_at-requires-clause-prefix
look_at-requires-clause-prefix g c = nil_unbroken c.kind.result

pub of-requires : goal.of-requires
of-requires g c =
    let f = c.in-Broken.flaw in
    let same : c.kind.result ≡ g.F.Fault.kind = c.kind.ensures in
    let b = c.in-Broken.ensures in
    subst (λ (k : FrameKind). HasPart k f.part) same (breaks_has c.kind.result (take c.in-Broken.field-1 c.args.bytes.now) f.part f.at b.breaks.breaks)

pub returns-in-Broken : goal.returns-in-Broken
returns-in-Broken g c =
    let F = g.F.Fault in
    let bytes = c.args.bytes.now in
    let f = c.in-Broken.flaw in
    let n = c.in-Broken.field-1 in
    let same : c.kind.result ≡ F.kind = c.kind.ensures in
    let b = subst (λ (k : FrameKind). BreaksFirst k (take n bytes) f.part f.at) same c.in-Broken.ensures.breaks in
    let whole = subst (λ (x : List ℕ). BreaksFirst F.kind x f.part f.at) (take-append-drop n bytes) (BreaksFirst-longer F.kind (take n bytes) (drop n bytes) f.part f.at b) in
    subst (λ (part : Part). FaultAt F.kind bytes part (F.place c.of.result)) (sym c.of.ensures.part)
    (subst (λ (at : ℕ). FaultAt F.kind bytes f.part at) (sym c.of.ensures.place) (fault_of_break F.kind bytes f.part f.at whole))

pub returns-in-Short : goal.returns-in-Short
returns-in-Short g c =
    let F = g.F.Fault in
    let bytes = c.args.bytes.now in
    let same : c.kind.result ≡ F.kind = c.kind.ensures in
    let short = c.in-Short.ensures in
    let fault : FaultAt c.kind.result bytes Missing (length bytes) = (refl, ((λ none. let len : length bytes ≡ 0 = ap length none in grind (arith, common_steps)), is_unfinished c.kind.result bytes short.0 short.1)) in
    subst (λ (part : Part). FaultAt F.kind bytes part (F.place c.of-in-Short.result)) (sym c.of-in-Short.ensures.part)
    (subst (λ (at : ℕ). FaultAt F.kind bytes Missing at) (sym c.of-in-Short.ensures.place) (subst (λ (k : FrameKind). FaultAt k bytes Missing (length bytes)) same fault))
