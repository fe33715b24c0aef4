use Rattle.std.proofs.Common.{refl}
use Rattle.csi_keeper.specs.Listing.{row_reported}
use Rattle.csi_machine.proofs.PageLemmas.{written_more}
use Rattle.csi_machine.proofs.page.PagePageFold.add.Goals as goal

pub returns-clause-folded : goal.returns-clause-folded
returns-clause-folded c first rows before placed =
    let was = before placed in
    written_more first c.args.self.now _ rows (row_reported c.args.row.now) was refl refl (c.in_ok-put_row.ensures.placed was.placed) (c.in_ok-put_row.ensures.ok was.placed)
