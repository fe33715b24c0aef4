use Rattle.std.proofs.Common.{◌∙◌, ◌++◌, ap, append_assoc, sym, List, [], ◌∷◌, ℕ}
use Rattle.std.specs.Char.Iter.{escape_rest}
use Rattle.command_line.proofs.LineLemmas.{one_more}
use Rattle.command_line.proofs.lines.push_shown.Goals as goal

pub loop-escaped-preserved : goal.loop-escaped-preserved
loop-escaped-preserved c = record {
  written = one_more _ _ _ _ _ c.loop-escaped.invariant.written c.in_ok-push.ensures.bytes;
  whole = append_assoc c.loop-escaped.yielded (c.in-Some.escaped ∷ []) (escape_rest c.next.new.self) ∙ (ap (λ (x : List ℕ). c.loop-escaped.yielded ++ x) (sym c.in-Some.ensures.steps.1.0) ∙ c.loop-escaped.invariant.whole);
}
