use Rattle.std.proofs.Common.{◌∙◌, sym, ap, true, false, true≢false, Option, Some, None}
use Rattle.std.specs.Option.{is_some}
use Rattle.csi_constraints.specs.declared.named.RowName.{RowName}
use Rattle.csi_constraints.proofs.ApartLemmas.{apart_from_one, fall_front, goes_on, led_is, led_without, no_number, not_led, now_apart, still_apart}
use Rattle.csi_constraints.proofs.NamedLemmas.{not_found}
use Rattle.csi_constraints.proofs.apart.FirstApartFold.add_row.Goals as goal

some_none : (name : RowName) → Path (Option RowName) (Some name) None → ⊥
some_none name e = absurd (cc)

pub returns-then-is_some-clause-folded : goal.returns-then-is_some-clause-folded
returns-then-is_some-clause-folded c = λ first rows h none begun order.
    let was = h none begun (fall_front rows c.args.row.now order).0 in (
      still_apart rows c.args.row.now c.args.self.now.found (sym c.is_some.ensures ∙ c.if-is_some.true) was.0,
      λ e. absurd (true≢false (sym (sym c.is_some.ensures ∙ c.if-is_some.true) ∙ ap is_some e)),
    )

pub returns-in_default-clause-folded : goal.returns-in_default-clause-folded
returns-in_default-clause-folded c = λ first rows h none begun order.
    let row = c.args.row.now in
    let falls = fall_front rows row order in
    let was = h none begun falls.0 in
    let without = not_led row (sym c.in_ok-next.ensures.value ∙ c.in_default.is) in
    let still = not_found c.args.self.now.found (sym c.is_some.ensures ∙ c.if-is_some.false) in (
      still ∙ now_apart rows row false (sym still ∙ was.0) (no_number rows row without),
      λ none. led_without c.args.self.now.last rows row without (was.1 none),
    )

pub returns-then-not-admits-clause-folded : goal.returns-then-not-admits-clause-folded
returns-then-not-admits-clause-folded c = λ first rows h none begun order.
    let row = c.args.row.now in
    let falls = fall_front rows row order in
    let was = h none begun falls.0 in
    let is = led_is row c.in-Some.next (sym c.in_ok-next.ensures.value ∙ c.in-Some.is) in
    let still = not_found c.args.self.now.found (sym c.is_some.ensures ∙ c.if-is_some.false) in (
      ap Some c.in_ok-name_at.ensures
          ∙ now_apart rows row true (sym still ∙ was.0) (apart_from_one rows row c.in-Some.next is.0 is.1 falls.1 c.args.self.now.last (was.1 still) (sym c.admits.ensures ∙ c.if-not-admits.true)),
      λ e. absurd (some_none c.in_ok-name_at.field-0 e),
    )

pub returns-then-not-covers-clause-folded : goal.returns-then-not-covers-clause-folded
returns-then-not-covers-clause-folded c = λ first rows h none begun order.
    goes_on rows c.args.row.now c.in-Some.next c.args.self.now.found c.args.self.now.last order (h none begun) (sym c.in_ok-next.ensures.value ∙ c.in-Some.is)
    (not_found c.args.self.now.found (sym c.is_some.ensures ∙ c.if-is_some.false)) (sym c.admits.ensures ∙ c.if-not-admits.false) false (sym c.covers.ensures ∙ c.if-not-covers.true)

pub returns-else-not-covers-clause-folded : goal.returns-else-not-covers-clause-folded
returns-else-not-covers-clause-folded c = λ first rows h none begun order.
    goes_on rows c.args.row.now c.in-Some.next c.args.self.now.found c.args.self.now.last order (h none begun) (sym c.in_ok-next.ensures.value ∙ c.in-Some.is)
    (not_found c.args.self.now.found (sym c.is_some.ensures ∙ c.if-is_some.false)) (sym c.admits.ensures ∙ c.if-not-admits.false) true (sym c.covers.ensures ∙ c.if-not-covers.false)
