use Rattle.std.proofs.Common.{refl}
use Rattle.pbmessage.specs.Views.{value_of}
use Rattle.csi_codec.specs.Methods.{MeansRequest, IsGoodRequest, request_in, MeansResponse, IsGoodResponse, response_in}
use Rattle.csi_codec.proofs.laws.a_meaning.Goals as goal

pub returns-clause-requests : goal.returns-clause-requests
unfolding MeansRequest IsGoodRequest
returns-clause-requests c = λ m bytes g. (value_of (request_in m) g.fields, record { fields = g.fields; whole = g.whole; each = g.each; is = refl })

pub returns-clause-responses : goal.returns-clause-responses
unfolding MeansResponse IsGoodResponse
returns-clause-responses c = λ m bytes g. (value_of (response_in m) g.fields, record { fields = g.fields; whole = g.whole; each = g.each; is = refl })
