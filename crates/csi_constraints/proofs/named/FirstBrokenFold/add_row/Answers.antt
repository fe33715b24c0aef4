use Rattle.std.proofs.Common.{◌≡◌, ◌∙◌, sym, ap, subst, not, None, true≢false, [], ◌∷◌}
use Rattle.std.specs.Option.{is_some}
use Rattle.sqlite_trees.proofs.ListLemmas.{all-append}
use Rattle.csi_constraints.proofs.NamedLemmas.{found_now, found_stays, not_found}
use Rattle.csi_constraints.proofs.named.FirstBrokenFold.add_row.Goals as goal

pub returns-in_ok-self-clause-folded : goal.returns-in_ok-self-clause-folded
returns-in_ok-self-clause-folded g c = λ first rows h.
    let none : c.args.self.now.found ≡ None = not_found c.args.self.now.found (c.is_none.ensures ∙ ap not c.if-is_none.true) in
    record {
      test = h.test;
      number = h.number;
      text = h.text;
      found = found_now first.number first.text (g.T.RowTrial.accepts first.test) first.found rows c.args.row.now c.args.self.now.found (c.is_none.ensures ∙ ap not c.if-is_none.true) h.found
          c.args.self.now.number c.args.self.now.text (g.T.RowTrial.accepts c.args.self.now.test) h.number h.text (ap g.T.RowTrial.accepts h.test) c.in_ok-self.field-0 c.in_ok-self.ensures.value;
      known = λ now. all-append (g.T.RowTrial.knows first.test) rows (c.args.row.now ∷ []) (h.known none) (subst (λ t. g.T.RowTrial.knows t c.args.row.now) h.test (c.in_ok-self.ensures.known now), tt);
    }

pub returns-else-is_none-clause-folded : goal.returns-else-is_none-clause-folded
returns-else-is_none-clause-folded g c = λ first rows h. record {
  test = h.test;
  number = h.number;
  text = h.text;
  found = found_stays first.number first.text (g.T.RowTrial.accepts first.test) first.found rows c.args.row.now c.args.self.now.found (c.is_none.ensures ∙ ap not c.if-is_none.false) h.found;
  known = λ none. absurd (true≢false (sym (c.is_none.ensures ∙ ap not c.if-is_none.false) ∙ ap is_some none));
}
