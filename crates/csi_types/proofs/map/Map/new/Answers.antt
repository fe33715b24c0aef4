use Rattle.std.proofs.Common.{◌++◌, [], ap, ◌∙◌}
use Rattle.std.specs.FinMap.{from_sorted}
use Rattle.csi_types.proofs.Maps.{none_held, text_cmp}
use Rattle.csi_types.proofs.map.Map.new.Goals as goal

pub returns : goal.returns
returns c =
    ap (λ es. from_sorted {R = text_cmp} (es ++ c.new-2.result.entries)) c.new.ensures.items
    ∙ ap (λ es. from_sorted {R = text_cmp} ([] ++ es)) c.new-2.ensures.empty
    ∙ none_held
