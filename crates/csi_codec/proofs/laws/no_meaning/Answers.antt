use Rattle.csi_codec.specs.Methods.{MeansRequest, IsNoRequest, MeansResponse, IsNoResponse}
use Rattle.csi_codec.proofs.laws.no_meaning.Goals as goal

pub returns-clause-requests : goal.returns-clause-requests
unfolding MeansRequest IsNoRequest
returns-clause-requests c = λ m bytes at no r is. no.1 (record { fields = is.fields; whole = is.whole; each = is.each })

pub returns-clause-responses : goal.returns-clause-responses
unfolding MeansResponse IsNoResponse
returns-clause-responses c = λ m bytes at no r is. no.1 (record { fields = is.fields; whole = is.whole; each = is.each })
