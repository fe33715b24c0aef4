use Rattle.std.proofs.Common.{rules, ◌≡◌, ◌<◌, ◌∙◌, ap, arith, subst, sym, map, []}
use Rattle.csi_memory.specs.Holding.{Holds}
use Rattle.csi_keeper.specs.State.{page, published, published_of_page}
use Rattle.csi_keeper.specs.facts.Reads.{quiet_then}
use Rattle.csi_through.specs.Copying.{AreNext, AreNodes}
use Rattle.csi_through.proofs.CopyLemmas.{ends, last_given, page_next}
use Rattle.csi_through.proofs.FaultLemmas.{of_read, ok_count, on_err, rises, reported_later}
use Rattle.csi_through.proofs.copying.restore_all.Goals as goal

pub returns-then-is_empty-clause-copied : goal.returns-then-is_empty-clause-copied
returns-then-is_empty-clause-copied g c clean config s held inv had =
    let old = c.loop-turn.invariant in
    let before : (g.K.Keeper.model c.loop-turn.keeper).doubt ≡ 0 = omega (arith, clean, c.page_with_nodes.ensures.quiet.clean) in
    let so = old.copies before config s held inv had in
    let read = (c.in_ok-volumes.ensures.value clean s (old.quiet.state before s held)).volumes in
    let none : c.in_ok-volumes.field-0.volumes ≡ [] = search rules in
    (c.loop-turn.after, so.0, subst (Holds c.loop-turn.memory) (ends config s inv c.loop-turn.after 1000 (omega arith) (sym read ∙ none)) so.1)

pub loop-turn-preserved : goal.loop-turn-preserved
loop-turn-preserved g c =
    let old = c.loop-turn.invariant in
    let after = c.loop-turn.after in
    let volumes = c.in_ok-volumes.field-0.volumes in
    let nodes = c.as_slice.result.now in
    record {
      quiet = quiet_then (quiet_then old.quiet c.page_with_nodes.ensures.quiet) c.restore_page.ensures.keeper_unchanged;
      refusals = search rules;
      rises = λ clean config s held inv.
          let second : (g.K.Keeper.model c.page_with_nodes.new.self).doubt ≡ 0 = omega (arith, clean, c.restore_page.ensures.keeper_unchanged.clean) in
          let first : (g.K.Keeper.model c.loop-turn.keeper).doubt ≡ 0 = omega (arith, second, c.page_with_nodes.ensures.quiet.clean) in
          let so = old.rises first config s held inv in
          let read : volumes ≡ page s after 1000 = (c.in_ok-volumes.ensures.value second s (old.quiet.state first s held)).volumes in
          let next : AreNext s after volumes = subst (AreNext s after) (sym read) (page_next config s inv after 1000) in
          let last = c.in_ok-after.ensures.last in
          let more = rises s after volumes (λ none. search rules) next in
          let low = last_given config s inv after volumes so.1 next in
          (omega (arith, so.0, last, more), omega (arith, last, low));
      copies = λ clean config s held inv had.
          let second : (g.K.Keeper.model c.page_with_nodes.new.self).doubt ≡ 0 = omega (arith, clean, c.restore_page.ensures.keeper_unchanged.clean) in
          let first : (g.K.Keeper.model c.loop-turn.keeper).doubt ≡ 0 = omega (arith, second, c.page_with_nodes.ensures.quiet.clean) in
          let so = old.copies first config s held inv had in
          let now = old.quiet.state first s held in
          let page_is = c.in_ok-volumes.ensures.value second s now in
          let reported : nodes ≡ published_of_page s after 1000 = c.as_slice.ensures ∙ page_is.nodes in
          let next : AreNext s after volumes = subst (AreNext s after) (sym page_is.volumes) (page_next config s inv after 1000) in
          let are : AreNodes s volumes nodes = reported ∙ ap (map (λ v. published s v.number)) (sym page_is.volumes) in
          let more = c.in_ok-after.ensures.copies clean config s (c.page_with_nodes.ensures.quiet.state second s now) inv next are so.1 in
          (subst (λ n. n < s.next) (sym more.0) (last_given config s inv after volumes so.0 next), more.1);
    }

pub returns-in_err-volumes-clause-why : goal.returns-in_err-volumes-clause-why
returns-in_err-volumes-clause-why g c =
    let model = g.K.Keeper.model in
    let old = c.loop-turn.invariant in
    let fault = c.in_err-volumes.field-0.0 in
    on_err _ c.from_residual.result fault (search rules)
    (reported_later (model c.args.keeper.now) (model c.loop-turn.keeper) (model c.page_with_nodes.new.self) fault old.quiet c.page_with_nodes.ensures.quiet.clean old.refusals (λ d config s held inv any. any)
    (of_read (model c.loop-turn.keeper) (model c.page_with_nodes.new.self) c.page_with_nodes.result fault (search rules) c.page_with_nodes.ensures.count c.page_with_nodes.ensures.down.0))

pub returns-in_err-after-clause-why : goal.returns-in_err-after-clause-why
returns-in_err-after-clause-why g c =
    let model = g.K.Keeper.model in
    let old = c.loop-turn.invariant in
    let after = c.loop-turn.after in
    let volumes = c.in_ok-volumes.field-0.volumes in
    let fault = c.in_err-after.field-0.0 in
    let same : (model c.page_with_nodes.new.self).refusals ≡ (model c.args.keeper.now).refusals =
    ok_count (model c.loop-turn.keeper).refusals (model c.page_with_nodes.new.self).refusals c.page_with_nodes.result c.in_ok-volumes.field-0 (search rules) c.page_with_nodes.ensures.count ∙ old.refusals in
    let quiet = quiet_then old.quiet c.page_with_nodes.ensures.quiet in
    on_err _ c.from_residual-in_err-after.result fault (search rules)
    (reported_later (model c.args.keeper.now) (model c.page_with_nodes.new.self) (model c.restore_page.new.keeper) fault quiet c.restore_page.ensures.keeper_unchanged.clean same (λ d config s held inv any.
    let begun : (model c.loop-turn.keeper).doubt ≡ 0 = omega (arith, d, c.page_with_nodes.ensures.quiet.clean) in
    let read : volumes ≡ page s after 1000 = (c.in_ok-volumes.ensures.value d s (old.quiet.state begun s held)).volumes in
    subst (AreNext s after) (sym read) (page_next config s inv after 1000))
    c.in_err-after.ensures.why)
