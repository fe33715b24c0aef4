use Rattle.csi_codec.specs.Methods.{IsNoRequest, IsNoResponse}
use Rattle.pbmessage.specs.facts.Offsets.{same_offset}
use Rattle.csi_codec.proofs.laws.one_offset.Goals as goal

pub returns-clause-requests : goal.returns-clause-requests
unfolding IsNoRequest
returns-clause-requests c = λ m bytes a b p q. same_offset p.0 q.0

pub returns-clause-responses : goal.returns-clause-responses
unfolding IsNoResponse
returns-clause-responses c = λ m bytes a b p q. same_offset p.0 q.0
