use Rattle.std.proofs.Common.{subst}
use Rattle.csi_tables.specs.Reading.{AreParamsOf}
use Rattle.csi_tables.proofs.ReadingLemmas.{one_blob}
use Rattle.csi_tables.proofs.rows.params_in.Goals as goal

pub returns-in-Some-clause-unread : goal.returns-in-Some-clause-unread
returns-in-Some-clause-unread c is params has = c.read_params.ensures.unread is params (subst (λ bytes. AreParamsOf bytes params) (one_blob _ c.in-Some.bytes.now has.0 c.in-Some.ensures has.1) has.2)
