use Rattle.csi_codec.proofs.MethodsLemmas.{request_rises, response_rises}
use Rattle.csi_codec.proofs.laws.rising.Goals as goal

pub returns-clause-requests : goal.returns-clause-requests
returns-clause-requests c = request_rises

pub returns-clause-responses : goal.returns-clause-responses
returns-clause-responses c = response_rises
