use Rattle.std.proofs.Common.{◌≡◌, ◌∙◌, ap, map, sym, subst, subst₂, List, ℕ, Result, Err, refl}
use Rattle.sqlite.specs.Held.{state}
use Rattle.csi_keeper.specs.declared.volume.Volume.{Volume}
use Rattle.sqlite.specs.Order.{Row}
use Rattle.csi_tables.specs.Reading.{AreNodesOf, AreReadOf, ShowsVolume}
use Rattle.csi_tables.specs.Places.{nodes_at, AreRising}
use Rattle.csi_tables.specs.declared.fault.TablesFault.TheVariants.{NoMemory, Refused}
use Rattle.csi_tables.proofs.PageLemmas.{page_with_nodes_rows}
use Rattle.csi_tables.proofs.ShownLemmas.{page_readable}
use Rattle.csi_tables.proofs.CellLemmas.{handed_on}
use Rattle.csi_tables.proofs.RefusalLemmas.{failed_after, read_as, unread}
use Rattle.csi_tables.proofs.read.page_with_nodes.Goals as goal

pub returns-clause-reads : goal.returns-clause-reads
returns-clause-reads g c =
    read_as _ c.in_ok-page.ensures
    (λ s shows what.
    let it = page_with_nodes_rows s (state g.S.Store c.args.conn.now).now.trees shows.rows c.args.after c.args.count c.in_ok-page.page.volumes.items c.in_ok-page.page.places.items what.shown what.placed in
    let read = c.in_ok-volumes.ensures.ok it.stored it.are_stored (c.deref.ensures.value ∙ it.volumes_are) in
    let ns = c.deref-2.ensures.value ∙ c.in_ok-numbers.ensures ∙ ap (map (λ (v : Volume). v.number)) (c.as_slice.ensures ∙ read) in
    record {
      volumes = read ∙ it.page_is;
      nodes = c.in_ok-nodes.ensures.nodes it.placed it.risen (subst AreRising (sym ns) it.rising) (c.deref-3.ensures.value ∙ it.places_are) ∙ ap (map (nodes_at it.placed)) ns ∙ it.nodes_are;
    })
    (λ s shows known what is. absurd (cc (is)))

pub returns-in_err-nodes-clause-reads : goal.returns-in_err-nodes-clause-reads
returns-in_err-nodes-clause-reads g c =
    failed_after c.from_residual-in_err-nodes.result c.in_err-nodes.field-0.0 c.in_ok-page.ensures c.from_residual-in_err-nodes.ensures.1
    (λ s shows known what is.
    let it = page_with_nodes_rows s (state g.S.Store c.args.conn.now).now.trees shows.rows c.args.after c.args.count c.in_ok-page.page.volumes.items c.in_ok-page.page.places.items what.shown what.placed in
    let read = c.in_ok-volumes.ensures.ok it.stored it.are_stored (c.deref.ensures.value ∙ it.volumes_are) in
    let ns = c.deref-2.ensures.value ∙ c.in_ok-numbers.ensures ∙ ap (map (λ (v : Volume). v.number)) (c.as_slice.ensures ∙ read) in
    c.nodes_of_each.ensures.refused (handed_on c.from_residual-in_err-nodes.result c.nodes_of_each.result c.in_err-nodes.field-0.0 Refused c.from_residual-in_err-nodes.ensures.1 is c.in_err-nodes.was)
    it.placed it.risen (subst AreRising (sym ns) it.rising) it.texts (c.deref-3.ensures.value ∙ it.places_are))

pub returns-in_err-numbers-clause-reads : goal.returns-in_err-numbers-clause-reads
returns-in_err-numbers-clause-reads g c =
    failed_after c.from_residual-in_err-numbers.result NoMemory c.in_ok-page.ensures c.from_residual-in_err-numbers.ensures.1
    (λ s shows known what is. let no : ◌≡◌ {A = Result ℕ _} (Err NoMemory) (Err Refused) = handed_on c.from_residual-in_err-numbers.result (Err NoMemory) NoMemory Refused c.from_residual-in_err-numbers.ensures.1 is refl in absurd (cc (no)))

pub returns-in_err-volumes-clause-reads : goal.returns-in_err-volumes-clause-reads
returns-in_err-volumes-clause-reads g c =
    failed_after c.from_residual-in_err-volumes.result c.in_err-volumes.field-0.0 c.in_ok-page.ensures c.from_residual-in_err-volumes.ensures.1
    (λ s shows known what is.
    let it = page_readable s (state g.S.Store c.args.conn.now).now.trees shows.rows known c.args.after c.args.count c.in_ok-page.page.volumes.items what.shown in
    c.volumes_from.ensures.refused (handed_on c.from_residual-in_err-volumes.result c.volumes_from.result c.in_err-volumes.field-0.0 Refused c.from_residual-in_err-volumes.ensures.1 is c.in_err-volumes.was) it.0 it.1 (c.deref.ensures.value ∙ it.2))

pub returns-in_err-page-clause-reads : goal.returns-in_err-page-clause-reads
returns-in_err-page-clause-reads g c = unread c.from_residual.result c.in_err-page.field-0.0 (λ s shows none. none) c.in_err-page.ensures c.from_residual.ensures.1

pub returns-clause-exact : goal.returns-clause-exact
returns-clause-exact g c =
    let page = c.in_ok-page.page in
    let volumes = c.in_ok-volumes.volumes in
    let nodes = c.in_ok-nodes.nodes in
    let ns = c.deref-2.ensures.value ∙ c.in_ok-numbers.ensures ∙ ap (map (λ (v : Volume). v.number)) c.as_slice.ensures in
    record {
      rows = (page.volumes.items, page.places.items);
      shown = λ clean ours. (c.in_ok-page.ensures.ok clean).what ours;
      read = record {
        volumes = subst (λ (rows : List Row). AreReadOf ShowsVolume rows volumes) c.deref.ensures.value c.in_ok-volumes.ensures.exact;
        nodes = subst₂ (λ (xs : List ℕ) (rows : List Row). AreNodesOf xs rows nodes) ns c.deref-3.ensures.value c.in_ok-nodes.ensures.exact;
      };
    }
