use Rattle.std.proofs.Common.{◌≡◌, ◌∙◌, sym, ap, subst, arith, ◌+◌, ◌<◌, ◌≤◌, ℕ, List, [], ◌∷◌, ◌++◌, get_or, take, length, IsUtf8}
use Rattle.std.specs.List.{AllByRecursion}
use Rattle.csi_keeper.specs.State.{AttachmentKey}
use Rattle.sqlite.specs.Order.{Row, column}
use Rattle.sqlite.specs.declared.types.Value.TheVariants.{Text as Words}
use Rattle.csi_sql.specs.Rows.{number_value}
use Rattle.csi_tables.specs.Places.{nodes_at, place_row}
use Rattle.csi_tables.specs.Reading.{ShowNodes}
use Rattle.csi_tables.specs.declared.fault.TablesFault.TheVariants.{Refused}
use Rattle.csi_tables.proofs.CellLemmas.{entry_at, handed_on}
use Rattle.csi_tables.proofs.PlaceLemmas.{place_at, one_more_place, number_at, text_at, nodes_more, nodes_same, all_more, split_nodes, split_rest, stopped, none_left, as_many, below_whole}
use Rattle.csi_tables.proofs.ReadingLemmas.{nodes_kept, nodes_next}
use Rattle.csi_tables.proofs.nodes.nodes_of.Goals as goal
use Rattle.csi_tables.proofs.nodes.nodes_of.Goals.{then-at-number-2+in_ok-text_in+in_ok-push, else-at-number-2}

pub returns-then-at-number-clause-nodes : goal.returns-then-at-number-clause-nodes
returns-then-at-number-clause-nodes c ps up are =
    let i = c.loop-passed.passed in
    let beyond = stopped c.args.places.now ps i c.index-places-passed.result (omega arith) are c.index-places-passed.is c.in_ok-at.at c.in_ok-at.ensures.ok c.args.number c.if-at-number.true up in
    (c.loop-passed.invariant.0 ps are).0 ∙ split_nodes c.args.number ps i beyond

pub returns-then-at-number-clause-passed : goal.returns-then-at-number-clause-passed
returns-then-at-number-clause-passed c ps up are =
    let i = c.loop-passed.passed in
    let beyond = stopped c.args.places.now ps i c.index-places-passed.result (omega arith) are c.index-places-passed.is c.in_ok-at.at c.in_ok-at.ensures.ok c.args.number c.if-at-number.true up in
    split_rest c.args.number ps i (c.loop-passed.invariant.0 ps are).1 beyond

pub loop-passed-preserved : goal.loop-passed-preserved
loop-passed-preserved c = (
  λ ps are.
      let rows = c.args.places.now in
      let i = c.loop-passed.passed in
      let d = c.index-places-passed.result in
      let low : i < length rows = omega arith in
      let n = c.args.number in
      let p = place_at rows ps i d low are in
      let is = number_at rows ps i d low are c.index-places-passed.is c.in_ok-at.at c.in_ok-at.ensures.ok in
      let more = one_more_place rows ps i d low are in
      let before = c.loop-passed.invariant.0 ps are in
      let below : p.0 ≤ n = let h = c.if-at-number.false in omega (arith, h, is) in
      let all = subst (λ (xs : List AttachmentKey). AllByRecursion (λ q. q.0 ≤ n) xs) (sym more) (all_more n (take i ps) p below before.1) in
      elim c.if-at-number-2.branch [
        | then-at-number-2+in_ok-text_in+in_ok-push w ↦
            let text = text_at rows ps i d low are c.index-places-passed.is w.in_ok-text_in.field-0 w.in_ok-text_in.ensures.ok in
            let here : p.0 ≡ n = let h = w.if-at-number-2.true in omega (arith, h, is) in
            (w.nodes-is ∙ w.in_ok-push.ensures.ok ∙ ap (λ x. c.loop-passed.nodes ++ x ∷ []) (sym text) ∙ nodes_more n (take i ps) p c.loop-passed.nodes here before.0 ∙ ap (λ xs. nodes_at xs n) (sym more), all)
        | else-at-number-2 w ↦
            let far : p.0 ≡ n → ⊥ = λ e. let h = w.if-at-number-2.false in h (sym is ∙ e) in
            (w.nodes-is ∙ nodes_same n (take i ps) p c.loop-passed.nodes far before.0 ∙ ap (λ xs. nodes_at xs n) (sym more), all)
      ],
  (let rows = c.args.places.now in
      let i = c.loop-passed.passed in
      let d = c.index-places-passed.result in
      let low : i < length rows = omega arith in
      let here : column (get_or rows i d) 0 ≡ number_value c.in_ok-at.at = subst (λ (r : Row). column r 0 ≡ number_value c.in_ok-at.at) c.index-places-passed.is c.in_ok-at.ensures.ok in
      elim c.if-at-number-2.branch [
        | then-at-number-2+in_ok-text_in+in_ok-push w ↦
            subst (ShowNodes c.args.number (take (i + 1) rows)) (sym (w.nodes-is ∙ w.in_ok-push.ensures.ok))
            (nodes_next c.args.number rows i d c.loop-passed.nodes c.in_ok-at.at low here c.loop-passed.invariant.1 w.in_ok-text_in.field-0 (let same = w.if-at-number-2.true in omega (arith, same))
            (subst (λ (r : Row). column r 1 ≡ Words w.in_ok-text_in.field-0) c.index-places-passed.is w.in_ok-text_in.ensures.ok))
        | else-at-number-2 w ↦ subst (ShowNodes c.args.number (take (i + 1) rows)) (sym w.nodes-is) (nodes_kept c.args.number rows i d c.loop-passed.nodes c.in_ok-at.at low here c.loop-passed.invariant.1 (λ e. let h = w.if-at-number-2.false in h e))
      ]),
)

pub returns-then-at-number-clause-exact : goal.returns-then-at-number-clause-exact
returns-then-at-number-clause-exact c = c.loop-passed.invariant.1

pub returns-clause-exact : goal.returns-clause-exact
returns-clause-exact c = subst (λ (n : ℕ). ShowNodes c.args.number (take n c.args.places.now) c.loop-passed.nodes) (omega arith) c.loop-passed.invariant.1

pub returns-clause-passed : goal.returns-clause-passed
returns-clause-passed c ps up are =
    let many = as_many c.args.places.now ps are in
    split_rest c.args.number ps (length c.args.places.now) (below_whole c.args.number ps c.loop-passed.passed (length c.args.places.now) (omega arith) many (c.loop-passed.invariant.0 ps are).1) (none_left c.args.number ps (length c.args.places.now) many)

pub returns-in_err-at-clause-refused : goal.returns-in_err-at-clause-refused
returns-in_err-at-clause-refused c is ps all are =
    let e = entry_at place_row (λ (p : AttachmentKey). IsUtf8 p.1) c.args.places.now ps c.loop-passed.passed c.index-places-passed.result (omega arith) all are in
    c.number_in.ensures.refused (handed_on c.from_residual.result c.number_in.result c.in_err-at.field-0.0 Refused c.from_residual.ensures.1 is c.in_err-at.was) e.0.0 (ap (λ (r : Row). column r 0) (c.index-places-passed.is ∙ e.2))

pub returns-in_err-text_in-clause-refused : goal.returns-in_err-text_in-clause-refused
returns-in_err-text_in-clause-refused c is ps all are =
    let e = entry_at place_row (λ (p : AttachmentKey). IsUtf8 p.1) c.args.places.now ps c.loop-passed.passed c.index-places-passed.result (omega arith) all are in
    c.text_in.ensures.refused (handed_on c.from_residual-in_err-text_in.result c.text_in.result c.in_err-text_in.field-0.0 Refused c.from_residual-in_err-text_in.ensures.1 is c.in_err-text_in.was) e.0.1 e.1 (ap (λ (r : Row). column r 1) (c.index-places-passed.is ∙ e.2))
