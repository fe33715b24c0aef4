use Rattle.std.proofs.Common.{rules}
use Rattle.csi_rules.specs.Size.{whole}
use Rattle.csi_machine.proofs.PageLemmas.{page_finds}
use Rattle.csi_machine.proofs.calls.listing.write_page.Goals as goal

pub returns-clause-finds : goal.returns-clause-finds
returns-clause-finds g c =
    page_finds (whole c.args.most) c.entries_for.result _ _ _ c.args.page.now c.fold_page.new.fold c.fold_page-2.new.fold.is_any c.put_token.new.out.items
    (search rules) c.in_ok-fold_page.ensures.folded c.in_ok-fold_page-2.ensures.folded c.in_ok-put_token.ensures.ok
