use Rattle.std.proofs.Common.{rules, ◌≡◌, length, [], subst, to_z, of_z, w32}
use Rattle.csi_rules.specs.Size.{whole}
use Rattle.csi_rules.specs.facts.Finding.{found_so}
use Rattle.csi_machine.specs.Pages.{IsPage}
use Rattle.csi_machine.proofs.PageLemmas.{page_reported}
use Rattle.csi_machine.proofs.calls.listing.append_after.Goals as goal

pub returns-clause-finds : goal.returns-clause-finds
returns-clause-finds g c =
    let at : c.len-from.result ≡ length c.args.out.now.items = search rules in
    let none : c.new.result.items ≡ [] = search rules in
    let most : whole (to_z w32 (of_z w32 c.args.most)) ≡ whole c.args.most = search rules in
    let stood : c.replace.result.items ≡ c.args.out.now.items = search rules in
    found_so c.in_default.ensures.finds (λ s written.
    page_reported c.args.config.now s (whole c.args.most) c.args.after c.len-from.result c.args.out.now.items c.write_page-written.new.page.body.items _ c.limit_body.result at
    (subst (λ old. IsPage c.args.config.now s c.args.after (whole c.args.most) old c.write_page-written.new.page.body.items) stood
    (subst (λ count. IsPage c.args.config.now s c.args.after count c.replace.result.items c.write_page-written.new.page.body.items) most (written none))) c.limit_body.ensures.reported)
