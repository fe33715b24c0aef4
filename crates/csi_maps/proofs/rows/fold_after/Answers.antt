use Rattle.std.proofs.Common.{rules, arith, ap, subst, map, ◌≡◌, ◌∙◌, ◌++◌, ◌∷◌, [], length-append, ℕ}
use Rattle.std.specs.Borrow.{Bor}
use Rattle.std.specs.Map.Iter.{deref_pair}
use Rattle.std.proofs.lemmas.Map.Iter.{rest_so_far}
use Rattle.csi_keeper.specs.Listing.{listed_at, row_reported}
use Rattle.csi_maps.specs.Rows.{listed_in}
use Rattle.csi_maps.specs.Stored.{as_volume}
use Rattle.csi_maps.specs.declared.stored.StoredVolume.{StoredVolume}
use Rattle.csi_maps.specs.facts.Listing.{page_first, page_more}
use Rattle.csi_maps.proofs.rows.fold_after.Goals as goal

pub returns-then-left-eq0-clause-folded : goal.returns-then-left-eq0-clause-folded
returns-then-left-eq0-clause-folded g c =
    let low = c.loop-number.invariant.left in
    let none = c.if-left-eq0.true in
    subst (λ reported. g.F.PageFold.folds c.args.fold.now reported c.loop-number.fold)
    (page_first deref_pair (λ e. listed_in c.args.attachments.now.entries (as_volume e.0 e.1)) _ c.loop-number.yielded _ c.args.count (search rules ∙ rest_so_far deref_pair c.loop-number.yielded _ _ c.loop-number.yielded_by) (omega (arith, low, none)))
    c.loop-number.invariant.folded

pub loop-number-preserved : goal.loop-number-preserved
loop-number-preserved g c =
    let reported = λ (e : ℕ × StoredVolume). listed_in c.args.attachments.now.entries (as_volume e.0 e.1) in
    let row : Bor ℕ × Bor StoredVolume = (c.in-Some.number, c.in-Some.volume) in
    let is : row_reported c.listed_at.result ≡ reported (deref_pair row) = c.listed_at.ensures ∙ ap (listed_at (as_volume c.in-Some.number.now c.in-Some.volume.now)) c.in_ok-go_to.ensures.nodes in
    record {
      folded =
          subst (λ rows. g.F.PageFold.folds c.args.fold.now rows c.add.new.self)
          (ap (λ r. map reported (map deref_pair c.loop-number.yielded) ++ r ∷ []) is ∙ page_more deref_pair reported c.loop-number.yielded row)
          (c.in_ok-add.ensures.folded c.args.fold.now _ c.loop-number.invariant.folded);
      kept = c.in_ok-add.ensures.kept c.args.fold.now c.loop-number.invariant.kept;
      left = omega (arith, length-append c.loop-number.yielded (row ∷ []), c.loop-number.invariant.left, c.if-left-eq0.false);
      over = search rules;
    }
