use Rattle.std.proofs.Common.{rules, ◌≡◌, ◌↔◌, ◌<◌, ℕ, IfOk, IsTrue, length, subst}
use Rattle.csi_files.specs.Making.{IsPart}
use Rattle.csi_files.proofs.making.has_torn.Goals as goal

pub returns-clause-value : goal.returns-clause-value
returns-clause-value g c =
    let seen = g.D.Disk.seen c.args.file.now in
    let full : length c.as_mut_slice.result.now ≡ c.args.len = search rules in
    subst (λ (n : ℕ). IfOk c.reads_torn.result (λ is. IsTrue (g.D.Disk.is_clean c.reads_torn.new.file) → n ≡ length seen → 0 < n → (IsTrue is ↔ IsPart seen))) full c.reads_torn.ensures.value
