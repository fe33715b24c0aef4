use Rattle.std.proofs.Common.{◌≡◌, ◌++◌, ◌∷◌, [], ap, sym, ◌∙◌, append-nil, rules}
use Rattle.std.specs.FinMap.{put}
use Rattle.csi_types.specs.Maps.{AreBelow}
use Rattle.csi_types.proofs.Maps.{put_beyond, tree_puts, text_cmp, zero_long}
use Rattle.csi_types.proofs.map.entering.enter.Goals as goal

pub returns-in_ok-append-clause-ok : goal.returns-in_ok-append-clause-ok
returns-in_ok-append-clause-ok c =
    let key = c.args.key in
    let value = c.args.value in
    let listed = c.args.listed.now.items in
    let tree = c.args.tree.now.entries in
    let none : tree ≡ [] = search (rules, zero_long) in
    let below : AreBelow key listed = search rules in
    ap (λ es. es ++ tree) c.in_ok-append.ensures.ok ∙ ap (λ ts. (listed ++ (key, value) ∷ []) ++ ts) none ∙ append-nil (listed ++ (key, value) ∷ [])
    ∙ sym (ap (λ ts. put text_cmp key value (listed ++ ts)) none ∙ put_beyond key value listed [] below)

pub returns-in_ok-insert-clause-ok : goal.returns-in_ok-insert-clause-ok
returns-in_ok-insert-clause-ok c =
    let key = c.args.key in
    let value = c.args.value in
    let listed = c.move_from.new.listed.items in
    let tree = c.move_from.new.tree.entries in
    ap (λ ts. listed ++ ts) (c.in_ok-insert.ensures.entries ∙ tree_puts key value tree)
    ∙ sym (put_beyond key value listed tree c.in_ok-move_from.ensures.ok) ∙ ap (put text_cmp key value) c.move_from.ensures.unchanged
