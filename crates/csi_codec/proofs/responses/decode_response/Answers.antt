use Rattle.csi_codec.specs.Methods.{response_schema, response_in, MeansResponse, IsNoResponse, IsGoodResponse}
use Rattle.csi_codec.specs.Reading.{read_response}
use Rattle.csi_codec.proofs.ReadingLemmas.{decodes}
use Rattle.csi_codec.proofs.responses.decode_response.Goals as goal

pub returns-clause-exact : goal.returns-clause-exact
unfolding read_response MeansResponse IsNoResponse IsGoodResponse
returns-clause-exact c = decodes (record { exactly = c.spelled.ensures.exactly; shorter = c.spelled.ensures.shorter }) (response_schema c.args.method) (response_in c.args.method) c.args.bytes.now c.decode_by_method.result c.decode_by_method.ensures.ok c.decode_by_method.ensures.err
