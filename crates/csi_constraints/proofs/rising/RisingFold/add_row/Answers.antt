use Rattle.std.proofs.Common.{rules, ◌≡◌, ◌∙◌, sym, subst, Some, None}
use Rattle.sqlite.specs.Order.{column}
use Rattle.csi_constraints.specs.Folds.{as_integer}
use Rattle.csi_constraints.proofs.RisingLemmas.{goes_on, has_none, is_low}
use Rattle.csi_constraints.proofs.rising.RisingFold.add_row.Goals.{in_default-via-in-Some+else-is_above_last, in_default-via-in_default}
use Rattle.csi_constraints.proofs.rising.RisingFold.add_row.Goals as goal

pub returns-in-Some-clause-folded : goal.returns-in-Some-clause-folded
returns-in-Some-clause-folded c first rows h =
    let row = c.args.row.now in
    let is = subst (λ k. as_integer (column row k) ≡ Some c.in-Some.integer) h.0 (sym c.integer_at.ensures ∙ c.in-Some.is) in
    let on = goes_on first.column first.good first.last rows _ _ row h.1 c.in-Some.integer is in
    search (rules, on)

pub returns-in_default-clause-folded : goal.returns-in_default-clause-folded
returns-in_default-clause-folded c first rows h =
    let row = c.args.row.now in
    elim c.in_default.branch [
      | in_default-via-in-Some+else-is_above_last w ↦
          let is = subst (λ k. as_integer (column row k) ≡ Some w.in-Some.integer) h.0 (sym c.integer_at.ensures ∙ w.in-Some.is) in
          let low = is_low first.column first.good first.last rows _ _ row h.1 w.in-Some.integer is in
          search (rules, low)
      | in_default-via-in_default w ↦
          let none = subst (λ k. as_integer (column row k) ≡ None) h.0 (sym c.integer_at.ensures ∙ w.in_default.is) in
          (h.0, has_none first.column first.good first.last rows _ _ row h.1 none)
    ]
