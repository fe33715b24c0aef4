use Rattle.std.proofs.Common.{◌≡◌, sym, ◌∙◌, false, rules, tests, eqb}
use Rattle.std.specs.FinMap.{entries, len-entries}
use Rattle.csi_types.proofs.Maps.{apart_by_length}
use Rattle.csi_types.proofs.map.MapPartialEq.eq.Goals as goal

pub returns-else-len : goal.returns-else-len
returns-else-len c =
    let differ : eqb c.len.result c.len-2.result ≡ false = search (tests, rules) in
    let ours = c.len.ensures ∙ len-entries c.args.self.now in
    let theirs = c.len-2.ensures ∙ len-entries c.args.other.now in
    differ ∙ sym (apart_by_length _ (entries c.args.self.now) (entries c.args.other.now) (λ e. c.if-len.false (ours ∙ e ∙ sym theirs)))
