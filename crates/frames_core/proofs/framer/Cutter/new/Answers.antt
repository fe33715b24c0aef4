use Rattle.std.proofs.Common.{◌≡◌, ℕ, List, [], None, sym, ap, subst, arith}
use Rattle.std.specs.Prelude.{false}
use Rattle.envelope.specs.Head.{most_frame}
use Rattle.frames_core.specs.Holding.{Holds, Marks}
use Rattle.frames_core.proofs.Framing.{empty_holds, none_unfinished, nothing_marked}
use Rattle.frames_core.proofs.framer.Cutter.new.Goals as goal

pub invariant_of-result : goal.invariant_of-result
invariant_of-result g c =
    let F = g.F.Fault in
    let same : c.kind.result ≡ F.kind = c.kind.ensures in
    let e : c.in_ok-buffer.buffer.items ≡ [] = c.in_ok-buffer.ensures.items in (
      omega (arith, c.in_ok-buffer.ensures.capacity, c.most_frame.ensures, ap most_frame same),
      subst (λ (x : List ℕ). Holds F.kind F.wrong_part F.place 0 x None) (sym e) (empty_holds F.kind F.wrong_part F.place 0 (omega arith)),
      subst (λ (x : List ℕ). Marks F.kind x None false) (sym e) (nothing_marked F.kind None),
    )

pub returns-clause-open : goal.returns-clause-open
returns-clause-open g c = none_unfinished g.F.Fault.kind c.in_ok-buffer.buffer.items c.in_ok-buffer.ensures.items
