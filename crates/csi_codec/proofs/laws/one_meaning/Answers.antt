use Rattle.csi_codec.specs.Methods.{MeansRequest, MeansResponse}
use Rattle.pbmessage.specs.facts.Fields.{one_value}
use Rattle.csi_codec.proofs.laws.one_meaning.Goals as goal

pub returns-clause-requests : goal.returns-clause-requests
unfolding MeansRequest
returns-clause-requests c = λ m bytes r s a b. one_value (record { exactly = c.spelled.ensures.exactly; shorter = c.spelled.ensures.shorter }) a b

pub returns-clause-responses : goal.returns-clause-responses
unfolding MeansResponse
returns-clause-responses c = λ m bytes r s a b. one_value (record { exactly = c.spelled.ensures.exactly; shorter = c.spelled.ensures.shorter }) a b
