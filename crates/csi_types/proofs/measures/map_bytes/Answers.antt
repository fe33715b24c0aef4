use Rattle.std.proofs.Common.{rules, ◌≡◌, ◌^◌, ◌-◌, ◌+◌, ◌∙◌, min, sym, ap, length, sum_by}
use Rattle.std.specs.FinMap.{entries, len, len-entries}
use Rattle.std.proofs.lemmas.List.{nil_from_length}
use Rattle.csi_types.proofs.measures.map_bytes.Goals as goal

pub returns-then-is_empty : goal.returns-then-is_empty
returns-then-is_empty c =
    let m = c.args.map.now in
    let none : len m ≡ 0 = search rules in
    ap (λ es. min (sum_by (λ e. length e.0 + length e.1) es) (2 ^ 64 - 1)) (sym (nil_from_length (entries m) (sym (len-entries m) ∙ none)))
