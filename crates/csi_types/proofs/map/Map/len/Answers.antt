use Rattle.std.proofs.Common.{◌++◌, ap, length, arith}
use Rattle.std.specs.FinMap as map
use Rattle.std.proofs.lemmas.List.{length-append}
use Rattle.csi_types.proofs.Maps.{entries_of}
use Rattle.csi_types.proofs.map.Map.len.Goals as goal

pub returns : goal.returns
returns c =
    let listed = c.self.inside.listed in
    let held = ap length (entries_of (listed.items ++ c.self.inside.tree.entries) c.args.self.now c.self.invariant c.self.view_is) in
    let both = length-append listed.items c.self.inside.tree.entries in
    let all = map.len-entries c.args.self.now in
    let as_long = listed.ok.0 in
    omega (arith, held, both, all, as_long, c.len.ensures, c.len-2.ensures.len)
