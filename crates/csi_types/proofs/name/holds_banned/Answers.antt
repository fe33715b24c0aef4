use Rattle.std.proofs.Common.{rules, tests, sym, ap, not, ◌∙◌}
use Rattle.std.specs.List.{list_all}
use Rattle.std.proofs.lemmas.Iterator.{YieldsList-from_chars}
use Rattle.std.proofs.lemmas.Iterator.Search.{any_from_yields_List}
use Rattle.csi_types.specs.Names.{is_banned, is_plain}
use Rattle.csi_types.proofs.NameLemmas.{plain_clear}
use Rattle.csi_types.proofs.name.holds_banned.Goals as goal

pub returns-then-not-is_plain : goal.returns-then-not-is_plain
returns-then-not-is_plain c =
    any_from_yields_List is_banned _ _ _ c.any.ensures.ran (YieldsList-from_chars c.args.text.now c.utf8.text cc) (λ x b q k. search (rules, tests))

pub returns-else-not-is_plain : goal.returns-else-not-is_plain
returns-else-not-is_plain c =
    ap not c.if-not-is_plain.false
    ∙ sym (plain_clear c.args.text.now (ap (list_all is_plain) (sym c.as_bytes.ensures.value) ∙ sym c.is_plain.ensures ∙ c.if-not-is_plain.false))
