use Rattle.std.proofs.Common.{rules, ◌≡◌, ◌∙◌, ◌+◌, ◌++◌, ap, append_assoc, arith, length, length-append, subst, sym, get_or, false, [], ◌∷◌}
use Rattle.std.specs.List.{AllByRecursion}
use Rattle.std.specs.Vec.Iter.{into_iter_items}
use Rattle.csi_memory.specs.Holding.{Holds}
use Rattle.csi_keeper.specs.State.{attached}
use Rattle.csi_keeper.specs.facts.Reads.{quiet_then}
use Rattle.csi_through.specs.Copying.{AreNext, IsHeld, last_number, up_to}
use Rattle.csi_through.proofs.CopyLemmas.{all_given, held_more, last_more, next_more, none_attached, restores, stands_at}
use Rattle.csi_through.proofs.FaultLemmas.{next_at, of_memory, of_read, ok_count, on_err, reported_later, within}
use Rattle.csi_through.proofs.copying.restore_page.Goals as goal

pub loop-volume-preserved : goal.loop-volume-preserved
loop-volume-preserved g c =
    let old = c.loop-volume.invariant in
    let after = c.args.after in
    let volume = c.in-Some.volume in
    let done = c.loop-volume.yielded in
    let left = into_iter_items c.next.new.self in
    let whole : done ++ volume ∷ left ≡ c.args.volumes = ap (λ r. done ++ r) (sym c.in-Some.ensures.steps.0) ∙ old.rest in
    let last : last_number after (done ++ volume ∷ []) ≡ volume.number = last_more after done volume in
    record {
      quiet = quiet_then old.quiet c.attachments_of.ensures.keeper_unchanged;
      refusals = ok_count (g.K.Keeper.model c.loop-volume.keeper).refusals (g.K.Keeper.model c.attachments_of.new.keeper).refusals c.attachments_of.result c.in_ok-attachments.attachments (search rules) c.attachments_of.ensures.count ∙ old.refusals;
      rest = append_assoc done (volume ∷ []) left ∙ whole;
      size = let less = c.in-Some.ensures.steps.1 in let had = old.size in omega (arith, length-append done (volume ∷ []), less, had);
      index = ap (λ i. i + 1) old.index ∙ sym (length-append done (volume ∷ []));
      last = sym last;
      held = held_more done volume old.held c.in_ok-restore.ensures.held;
      copies = λ clean config s held inv next are had.
          let before : (g.K.Keeper.model c.loop-volume.keeper).doubt ≡ 0 = omega (arith, clean, c.attachments_of.ensures.keeper_unchanged.clean) in
          let two = next_more s after done volume next in
          let at = stands_at done left c.args.volumes volume whole in
          let none : c.is_published-published.result ≡ false → attached s volume.number ≡ [] = λ out.
          let nowhere = c.is_published-published.ensures out in
          none_attached s c.args.volumes c.args.nodes.now (length done) volume are at.0 at.1
          (ap (λ i. get_or c.args.nodes.now i []) (sym old.index) ∙ nowhere.1) in
          let theirs = c.in_ok-attachments.ensures.value clean s (old.quiet.state before s held) none in
          let all = restores config s (last_number after done) volume inv two.1 c.in_ok-attachments.attachments theirs in
          subst (λ n. Holds c.restore.new.memory (up_to s n)) (sym last)
          (subst (Holds c.restore.new.memory) all.2 (c.in_ok-restore.ensures.given _ (old.copies before config s held inv two.0 are had) all.0 all.1));
    }

pub returns-in_err-attachments-clause-why : goal.returns-in_err-attachments-clause-why
returns-in_err-attachments-clause-why g c =
    let model = g.K.Keeper.model in
    let old = c.loop-volume.invariant in
    let fault = c.in_err-attachments.field-0.0 in
    on_err _ c.from_residual.result fault (search rules)
    (reported_later (model c.args.keeper.now) (model c.loop-volume.keeper) (model c.attachments_of.new.keeper) fault old.quiet c.attachments_of.ensures.keeper_unchanged.clean old.refusals (λ d config s held inv next. next)
    (of_read (model c.loop-volume.keeper) (model c.attachments_of.new.keeper) c.attachments_of.result fault (search rules) c.attachments_of.ensures.count c.attachments_of.ensures.down))

pub returns-in_err-restore-clause-why : goal.returns-in_err-restore-clause-why
returns-in_err-restore-clause-why g c =
    let model = g.K.Keeper.model in
    let old = c.loop-volume.invariant in
    let volume = c.in-Some.volume in
    let done = c.loop-volume.yielded in
    let left = into_iter_items c.next.new.self in
    let whole : done ++ volume ∷ left ≡ c.args.volumes = ap (λ r. done ++ r) (sym c.in-Some.ensures.steps.0) ∙ old.rest in
    let at = stands_at done left c.args.volumes volume whole in
    let fault = c.in_err-restore.field-0.0 in
    let same : (model c.attachments_of.new.keeper).refusals ≡ (model c.args.keeper.now).refusals =
    ok_count (model c.loop-volume.keeper).refusals (model c.attachments_of.new.keeper).refusals c.attachments_of.result c.in_ok-attachments.attachments (search rules) c.attachments_of.ensures.count ∙ old.refusals in
    on_err _ c.from_residual-in_err-restore.result fault (search rules)
    (of_memory (model c.args.keeper.now) (model c.attachments_of.new.keeper) fault c.in_err-restore.ensures.up same (λ config s inv next.
    c.in_err-restore.ensures.fault (within config s _ volume inv (next_at s c.args.after c.args.volumes (length done) volume at.0 at.1 next))))

pub returns-clause-held : goal.returns-clause-held
returns-clause-held g c =
    let none = c.in-None.ensures.steps.0 in
    let size = c.loop-volume.invariant.size in
    let whole : c.loop-volume.yielded ≡ c.args.volumes = all_given c.loop-volume.yielded _ c.args.volumes c.loop-volume.invariant.rest (omega (arith, none, size)) in
    subst (AllByRecursion IsHeld) whole c.loop-volume.invariant.held

pub returns-clause-copies : goal.returns-clause-copies
returns-clause-copies g c clean config s held inv next are had =
    let old = c.loop-volume.invariant in
    let none = c.in-None.ensures.steps.0 in
    let size = c.loop-volume.invariant.size in
    let whole : c.loop-volume.yielded ≡ c.args.volumes = all_given c.loop-volume.yielded _ c.args.volumes c.loop-volume.invariant.rest (omega (arith, none, size)) in (
      old.last ∙ ap (last_number c.args.after) whole,
      subst (λ n. Holds c.loop-volume.memory (up_to s n)) (sym old.last) (old.copies clean config s held inv (subst (AreNext s c.args.after) (sym whole) next) are had),
    )
