use Rattle.std.proofs.Common.{rules, ◌≡◌, Some, to_z, of_z, w32}
use Rattle.csi_rules.specs.Size.{whole}
use Rattle.csi_machine.specs.calls.Listing.{start_of}
use Rattle.csi_machine.proofs.PageLemmas.{page_then}
use Rattle.csi_machine.proofs.calls.listing.append_page.Goals as goal

pub returns-in-Some-clause-finds : goal.returns-in-Some-clause-finds
returns-in-Some-clause-finds g c =
    let r = c.args.request.now in
    let from : Some c.in-Some.after ≡ start_of c.in_ok-next.next r.token = search rules in
    let most : whole (to_z w32 (of_z w32 r.max_entries)) ≡ whole r.max_entries = search rules in
    page_then c.args.config.now r _ c.in-Some.after c.in_ok-next.next _ _ _ _ _ _ c.in_ok-next.ensures from most c.append_after.ensures.finds
