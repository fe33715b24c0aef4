use Rattle.std.proofs.Common.{◌∙◌, ◌↔◌, IsTrue, subst}
use Rattle.csi_files.specs.Making.{IsPart}
use Rattle.csi_files.proofs.MakingLemmas.{whole_file}
use Rattle.csi_files.proofs.making.reads_torn.Goals as goal

pub returns-clause-value : goal.returns-clause-value
returns-clause-value g c clean full some =
    let seen = g.D.Disk.seen c.args.file.now in
    subst (λ bytes. IsTrue c.is_torn.result ↔ IsPart bytes) (whole_file seen c.read_at.new.buf (c.in_ok-read_at.ensures.read clean some) (c.read_at.auto.buf ∙ full)) c.is_torn.ensures
