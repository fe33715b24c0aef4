use Rattle.std.proofs.Common.{◌≡◌, ◌∙◌, rules, pos, of_z, to_z}
use Rattle.std.proofs.lemmas.Int.{to_z-of_z}
use Rattle.std.specs.Int.{w32}
use Rattle.pbmessage.specs.Canon.{row_fields, FitsI32}
use Rattle.pbmessage.specs.facts.Writing.{wrote_then}
use Rattle.csi_columns.proofs.encoding.BorrowedKeyWrittenBorrowed.write.Goals as goal

pub returns-clause-ok : goal.returns-clause-ok
unfolding row_fields
returns-clause-ok c =
    let number = c.from.result in
    let fits : FitsI32 number = search rules in
    let mode : to_z w32 (of_z w32 number) ≡ pos c.args.self.now.key.now.mode =
    to_z-of_z w32 number fits ∙ c.from.ensures in
    wrote_then c.put_message.result _ _ _ _ _ c.in_ok-put_kind.ensures.ok (rw mode at c.put_message.ensures.ok)
