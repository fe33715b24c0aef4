use Rattle.std.proofs.Common.{◌≡◌, ◌∙◌, [], ap, arith, inl, length, sym, rules, tests, take}
use Rattle.std.specs.FinMap.{entries, len-entries}
use Rattle.std.specs.List.{list_any}
use Rattle.std.proofs.lemmas.Iterator.Consumers.{YieldsList-from_rest, YieldsList-from_enumerate}
use Rattle.std.proofs.lemmas.Iterator.Search.{any_from_yields_List}
use Rattle.csi_types.specs.Topology.{alike}
use Rattle.csi_types.proofs.PairLemmas.{some_two_before, or_false}
use Rattle.csi_types.proofs.topology.has_alike_pair.Goals as goal

pub any-requires-clause-can : goal.any-requires-clause-can
any-requires-clause-can c =
    let whole : c.enumerate.result.iter ≡ entries c.args.topology.now = c.enumerate.ensures.source ∙ c.iter.ensures in
    let long = ap length whole in
    let all = len-entries c.args.topology.now in
    (tt, tt, inl (omega (arith, long, all, c.enumerate.ensures.count, c.len-count.ensures, c.len-count.type_inv)))

pub returns : goal.returns
returns c =
    any_from_yields_List (λ p. list_any (λ e. alike e.0 p.1.0) (take p.0 (entries c.args.topology.now))) _ _ _ c.any.ensures.ran
    (YieldsList-from_enumerate (YieldsList-from_rest (entries c.args.topology.now) cc) cc) (λ x b q k. search (rules, tests))
    ∙ sym (or_false _)
    ∙ some_two_before (λ e f. alike e.0 f.0) [] (entries c.args.topology.now)
