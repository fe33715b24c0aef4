use Rattle.std.proofs.Common.{◌∙◌, ap, arith, ◌<◌, ◌≤◌, drop, map, length, get_or, nat_lt, filter, IsUtf8}
use Rattle.sqlite_trees.proofs.ListLemmas.{all-filter, ascending-filter}
use Rattle.csi_keeper.specs.State.{AttachmentKey}
use Rattle.csi_tables.specs.Places.{place_row}
use Rattle.csi_tables.specs.declared.fault.TablesFault.TheVariants.{Refused}
use Rattle.csi_tables.proofs.CellLemmas.{handed_on}
use Rattle.csi_tables.proofs.PlaceLemmas.{drop_row, each_more, later_same}
use Rattle.csi_tables.proofs.ReadingLemmas.{nodes_then, nodes_whole}
use Rattle.csi_tables.proofs.nodes.nodes_of_each.Goals as goal

pub loop-number-preserved : goal.loop-number-preserved
loop-number-preserved c = (
  λ ps up rising are.
      let ns = c.args.numbers.now in
      let i = c.loop-number.number-index in
      let low : i < length ns = omega arith in
      let n = get_or ns i 0 in
      let it = c.loop-number.invariant.0 ps up rising are in
      let qs = it.1.0 in
      let later = later_same ps qs ns i rising low it.1.3 in
      let behind = c.in_ok-nodes.ensures.passed qs it.1.1 it.1.2 in (
        c.in_ok-push.ensures.ok ∙ each_more ps ns i c.loop-number.all c.in_ok-nodes.nodes low it.0 (c.in_ok-nodes.ensures.nodes qs it.1.1 it.1.2 ∙ later.0),
        (
          filter (λ (p : AttachmentKey). nat_lt n p.0) qs,
          ascending-filter (λ a b. a.0 ≤ b.0) (λ p. nat_lt n p.0) qs it.1.1,
          c.split_at.ensures.back ∙ ap (drop c.in_ok-nodes.passed) it.1.2 ∙ drop_row place_row c.in_ok-nodes.passed qs ∙ ap (map place_row) behind,
          later.1,
          λ texts. all-filter (λ (p : AttachmentKey). IsUtf8 p.1) (λ p. nat_lt n p.0) qs (it.1.4 texts),
        ),
      ),
  nodes_then c.args.numbers.now c.loop-number.number-index c.args.places.now c.loop-number.rest.now _ c.loop-number.all c.in_ok-nodes.nodes _ c.in_ok-nodes.passed (omega arith) c.in_ok-nodes.ensures.exact c.split_at.ensures.back c.in_ok-push.ensures.ok c.loop-number.invariant.1,
)

pub returns-in_err-nodes-clause-refused : goal.returns-in_err-nodes-clause-refused
returns-in_err-nodes-clause-refused c is ps up rising texts are =
    let it = (c.loop-number.invariant.0 ps up rising are).1 in
    c.nodes_of.ensures.refused (handed_on c.from_residual.result c.nodes_of.result c.in_err-nodes.field-0.0 Refused c.from_residual.ensures.1 is c.in_err-nodes.was) it.0 (it.4 texts) it.2

pub returns-clause-exact : goal.returns-clause-exact
returns-clause-exact c = nodes_whole c.args.numbers.now c.loop-number.number-index c.args.places.now c.loop-number.rest.now c.loop-number.all (omega arith) c.loop-number.invariant.1
