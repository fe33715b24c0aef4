use Rattle.csi_columns.specs.facts.Writing.{mount_alone}
use Rattle.csi_columns.proofs.encoding.BorrowedMountWrittenBorrowed.write.Goals as goal

pub returns-clause-ok : goal.returns-clause-ok
returns-clause-ok c = rw (mount_alone c.args.self.now.fs_type.now) c.put_text.ensures.ok
