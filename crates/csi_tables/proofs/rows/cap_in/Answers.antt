use Rattle.std.proofs.Common.{◌∙◌, ◌==◌, sym, ap, subst}
use Rattle.sqlite.specs.Order.{column}
use Rattle.csi_tables.specs.Reading.{HasKeys}
use Rattle.csi_tables.proofs.ReadingLemmas.{alone, empty_items}
use Rattle.csi_tables.proofs.rows.cap_in.Goals as goal

pub returns-in-Some-clause-exact : goal.returns-in-Some-clause-exact
returns-in-Some-clause-exact c =
    subst (HasKeys (column c.args.row.now c.args.at)) (sym c.into_vec-keys.ensures ∙ alone _ _ c.pop.result c.in-Some.key c.pop.ensures.items c.in-Some.is (empty_items c.pop.new.self.items (ap (λ n. n == 0) (sym c.pop.new.self.ok.0) ∙ sym c.is_empty.ensures ∙ c.if-is_empty.true))) c.in_ok-caps_in.ensures.exact
