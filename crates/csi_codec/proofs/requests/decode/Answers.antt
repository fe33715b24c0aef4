use Rattle.csi_codec.specs.Methods.{request_schema, request_in, MeansRequest, IsNoRequest, IsGoodRequest}
use Rattle.csi_codec.specs.Reading.{read_request}
use Rattle.csi_codec.proofs.ReadingLemmas.{decodes}
use Rattle.csi_codec.proofs.requests.decode.Goals as goal

pub returns-clause-exact : goal.returns-clause-exact
unfolding read_request MeansRequest IsNoRequest IsGoodRequest
returns-clause-exact c = decodes (record { exactly = c.spelled.ensures.exactly; shorter = c.spelled.ensures.shorter }) (request_schema c.args.method) (request_in c.args.method) c.args.bytes.now c.decode_by_method.result c.decode_by_method.ensures.ok c.decode_by_method.ensures.err
