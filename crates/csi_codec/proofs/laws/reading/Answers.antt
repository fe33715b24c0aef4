use Rattle.csi_codec.specs.Methods.{request_schema, request_in, MeansRequest, IsNoRequest, response_schema, response_in, MeansResponse, IsNoResponse}
use Rattle.csi_codec.specs.Reading.{read_request, read_response}
use Rattle.csi_codec.proofs.ReadingLemmas.{message_read}
use Rattle.csi_codec.proofs.laws.reading.Goals as goal

pub returns-clause-requests : goal.returns-clause-requests
unfolding read_request MeansRequest IsNoRequest
returns-clause-requests c = λ m bytes. message_read (record { exactly = c.spelled.ensures.exactly; shorter = c.spelled.ensures.shorter }) (request_schema m) (request_in m) bytes

pub returns-clause-responses : goal.returns-clause-responses
unfolding read_response MeansResponse IsNoResponse
returns-clause-responses c = λ m bytes. message_read (record { exactly = c.spelled.ensures.exactly; shorter = c.spelled.ensures.shorter }) (response_schema m) (response_in m) bytes
