use Rattle.std.proofs.Common.{sym, ◌∙◌}
use Rattle.std.proofs.lemmas.List.Sorted.{list_any-IsPermutation}
use Rattle.csi_types.proofs.topology.is_found.Goals as goal

pub returns-then-is_among : goal.returns-then-is_among
returns-then-is_among c =
    c.if-is_among.true ∙ sym (list_any-IsPermutation _ _ _ c.requires ∙ c.is_among.ensures c.if-is_among.true)
