use Rattle.std.proofs.Common.{subst}
use Rattle.csi_tables.specs.Reading.{AreKeysOf}
use Rattle.csi_tables.proofs.ReadingLemmas.{one_blob}
use Rattle.csi_tables.proofs.rows.caps_in.Goals as goal

pub returns-in-Some-clause-unread : goal.returns-in-Some-clause-unread
returns-in-Some-clause-unread c is ks has = c.read_caps.ensures.unread is ks (subst (λ bytes. AreKeysOf bytes ks) (one_blob _ c.in-Some.bytes.now has.0 c.in-Some.ensures has.1) has.2)
