use Rattle.std.proofs.Common.{◌≡◌, ◌<◌, ap, get_or, length, sym, subst, ◌∙◌, rules, None, Some}
use Rattle.std.specs.FinMap as map
use Rattle.std.specs.FinMap.{find}
use Rattle.csi_types.specs.Maps.{IsRising}
use Rattle.std.specs.declared.cmp.Ordering.TheVariants.{Equal}
use Rattle.std.proofs.lemmas.Fn.{always_returns_same}
use Rattle.csi_types.proofs.Maps.{find_none, front_rises, got_in_tree, got_listed, text_cmp}
use Rattle.csi_types.proofs.map.Map.get.Goals as goal

pub returns-in-Ok : goal.returns-in-Ok
returns-in-Ok c =
    let key = c.args.key.now in
    let listed = c.self.inside.listed.items in
    let tree = c.self.inside.tree.entries in
    let entry = c.index.result.now in
    let found = c.in-Ok.ensures.position (λ e. text_cmp e.0 key) (always_returns_same _ _ _ (λ a r g called. (search rules, search rules))) in
    let equal : text_cmp (get_or listed c.in-Ok.place entry).0 key ≡ Equal = subst (λ es. text_cmp (get_or es c.in-Ok.place entry).0 key ≡ Equal) c.deref.ensures.value (found entry) in
    let within : c.in-Ok.place < length listed = subst (λ es. c.in-Ok.place < length es) c.deref.ensures.value c.in-Ok.ensures.bound in
    let is : entry ≡ get_or listed c.in-Ok.place entry = search rules in
    ap (λ e. Some e.1) is
    ∙ sym (ap (λ m. map.get m key) (sym c.self.view_is) ∙ got_listed key listed tree c.in-Ok.place entry c.self.invariant within equal)

pub returns-in-Err : goal.returns-in-Err
returns-in-Err c =
    let key = c.args.key.now in
    let listed = c.self.inside.listed.items in
    let tree = c.self.inside.tree.entries in
    let missed = c.in-Err.ensures.position (λ e. text_cmp e.0 key) (always_returns_same _ _ _ (λ a r g called. (search rules, search rules))) in
    let none = find_none key c.deref.result.now c.in-Err.field-0 (subst (λ es. IsRising es) (sym c.deref.ensures.value) (front_rises listed tree c.self.invariant)) missed in
    c.get.ensures.value
    ∙ sym (ap (λ m. map.get m key) (sym c.self.view_is) ∙ got_in_tree key listed tree c.self.invariant (subst (λ es. find text_cmp key es ≡ None) c.deref.ensures.value none))
