use Rattle.std.proofs.Common.{◌≡◌, ◌∙◌, ◌++◌, ◌∷◌, [], List, length, get_or, sym, ap, subst, arith, take, drop, ◌<◌}
use Rattle.std.proofs.lemmas.List.{length-set}
use Rattle.std.proofs.Math.Seq.{take-append_seam}
use Rattle.sqlite.specs.Order.{Row as Values}
use Rattle.csi_constraints.specs.Folds.{HasSome}
use Rattle.csi_constraints.proofs.EachLemmas.{asks_at, kept_above, moved_below, on_err, zip_moved}
use Rattle.csi_constraints.proofs.each.FoldEachFold.add_row.Goals as goal

pub loop-part-preserved : goal.loop-part-preserved
loop-part-preserved g c =
    let items = c.loop-part.part-items in
    let at = c.loop-part.part-index in
    let Moved = λ (a b : g.row.F.Denot). (first : g.row.F.Denot) (rows : List Values) → g.F.Fold.folds first rows a → g.F.Fold.folds first (rows ++ c.args.row.now ∷ []) b in
    let t = c.loop-part-test.true in
    let low : at < length items = omega (arith, t, c.loop-part.invariant.0) in
    let step = rw c.in_ok-add_row.was at c.add_row.ensures.folded in (
      length-set items at c.add_row.new.self ∙ c.loop-part.invariant.0,
      moved_below Moved c.deref_mut-part-items.result.now items at c.add_row.new.self low c.loop-part.invariant.1 c.loop-part.invariant.2 _ step,
      kept_above Moved c.deref_mut-part-items.result.now items at c.add_row.new.self low c.loop-part.invariant.2,
    )

pub returns-clause-folded : goal.returns-clause-folded
returns-clause-folded g c first rows all =
    let items = c.loop-part.part-items in
    let olds = c.args.self.now.parts.items in
    let is = c.deref_mut-part-items.ensures.value in
    let done = c.loop-part-test.false in
    let len : length items ≡ length olds = c.loop-part.invariant.0 ∙ ap length is in
    let whole = zip_moved (λ a b. g.F.Fold.folds a rows b) (λ a b. g.F.Fold.folds a (rows ++ c.args.row.now ∷ []) b) first.parts.items olds items len
    (λ k d below a h. c.loop-part.invariant.1 k d (omega (arith, below, done, ap length is)) a rows (subst (λ xs. g.F.Fold.folds a rows (get_or xs k d)) (sym is) h)) all in
    let many : c.args.self.now.parts.len ≡ length items = omega (arith, c.deref_mut-part-items.ensures.len, c.loop-part.invariant.0) in
    subst (λ n. Rattle.std.specs.List.AllZip (λ a b. g.F.Fold.folds a (rows ++ c.args.row.now ∷ []) b) first.parts.items (take n (items ++ drop (length items) olds))) (sym many)
    (subst (Rattle.std.specs.List.AllZip (λ a b. g.F.Fold.folds a (rows ++ c.args.row.now ∷ []) b) first.parts.items) (sym (take-append_seam items (drop (length items) olds))) whole)

pub returns-in_err-add_row-clause-error_only_if : goal.returns-in_err-add_row-clause-error_only_if
returns-in_err-add_row-clause-error_only_if g c =
    let Asks = λ (part : g.row.F.Denot). g.F.Fold.takes_memory part c.args.row.now in
    let low : c.loop-part.part-index < length c.loop-part.part-items = omega (arith, c.loop-part-test.true, c.loop-part.invariant.0) in
    on_err c.from_residual.result (subst (HasSome Asks) c.deref_mut-part-items.ensures.value
    (asks_at Asks c.deref_mut-part-items.result.now c.loop-part.part-items c.loop-part.part-index low c.loop-part.invariant.0 c.loop-part.invariant.2 _ c.in_err-add_row.ensures.error_only_if))
