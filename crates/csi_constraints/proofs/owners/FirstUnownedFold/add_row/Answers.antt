use Rattle.std.proofs.Common.{◌∙◌, sym, ap, cond, refl, Some, None}
use Rattle.csi_constraints.specs.Joins.{is_owned}
use Rattle.csi_constraints.specs.Named.{name_of}
use Rattle.csi_constraints.proofs.NamedLemmas.{found_now, found_stays, not_found}
use Rattle.csi_constraints.proofs.owners.FirstUnownedFold.add_row.Goals as goal

pub returns-then-is_some-clause-folded : goal.returns-then-is_some-clause-folded
returns-then-is_some-clause-folded c = λ first rows h known.
    let was = h known in
    (was.0, found_stays 0 1 is_owned first.found rows c.args.row.now c.args.self.now.found (sym c.is_some.ensures ∙ c.if-is_some.true) was.1)

pub returns-in_ok-name_at-clause-folded : goal.returns-in_ok-name_at-clause-folded
returns-in_ok-name_at-clause-folded c = λ first rows h known.
    let was = h known in
    let not_owned = sym (c.in_ok-is_owned.ensures.exact was.0) ∙ c.if-not-branch.true in (
      c.in_ok-is_owned.ensures.known was.0,
      found_now 0 1 is_owned first.found rows c.args.row.now c.args.self.now.found (sym c.is_some.ensures ∙ c.if-is_some.false) was.1 0 1 is_owned refl refl refl (Some c.in_ok-name_at.field-0)
          (ap Some c.in_ok-name_at.ensures ∙ sym (ap (λ b. cond b None (Some (name_of 0 1 c.args.row.now))) not_owned)),
    )

pub returns-else-not-branch-clause-folded : goal.returns-else-not-branch-clause-folded
returns-else-not-branch-clause-folded c = λ first rows h known.
    let was = h known in
    let owned = sym (c.in_ok-is_owned.ensures.exact was.0) ∙ c.if-not-branch.false in
    let none = sym c.is_some.ensures ∙ c.if-is_some.false in (
      c.in_ok-is_owned.ensures.known was.0,
      found_now 0 1 is_owned first.found rows c.args.row.now c.args.self.now.found none was.1 0 1 is_owned refl refl refl c.args.self.now.found
          (not_found c.args.self.now.found none ∙ sym (ap (λ b. cond b None (Some (name_of 0 1 c.args.row.now))) owned)),
    )
