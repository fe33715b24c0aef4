use Rattle.csi_codec.specs.Methods.{MeansRequest, IsNoRequest, MeansResponse, IsNoResponse}
use Rattle.csi_codec.specs.Reading.{read_request, read_response}
use Rattle.csi_codec.proofs.ReadingLemmas.{read_ok, read_err}
use Rattle.csi_codec.proofs.laws.read_as_meant.Goals as goal

pub returns-clause-requests : goal.returns-clause-requests
returns-clause-requests c = λ m bytes r is. read_ok {Is = MeansRequest m bytes} {No = IsNoRequest m bytes} (read_request m bytes) r (c.one_meaning.ensures.requests m bytes) (c.no_meaning.ensures.requests m bytes) (c.reading.ensures.requests m bytes) is

pub returns-clause-no_request : goal.returns-clause-no_request
returns-clause-no_request c = λ m bytes at is. read_err {Is = MeansRequest m bytes} {No = IsNoRequest m bytes} (read_request m bytes) at (c.one_offset.ensures.requests m bytes) (c.no_meaning.ensures.requests m bytes) (c.reading.ensures.requests m bytes) is

pub returns-clause-responses : goal.returns-clause-responses
returns-clause-responses c = λ m bytes r is. read_ok {Is = MeansResponse m bytes} {No = IsNoResponse m bytes} (read_response m bytes) r (c.one_meaning.ensures.responses m bytes) (c.no_meaning.ensures.responses m bytes) (c.reading.ensures.responses m bytes) is

pub returns-clause-no_response : goal.returns-clause-no_response
returns-clause-no_response c = λ m bytes at is. read_err {Is = MeansResponse m bytes} {No = IsNoResponse m bytes} (read_response m bytes) at (c.one_offset.ensures.responses m bytes) (c.no_meaning.ensures.responses m bytes) (c.reading.ensures.responses m bytes) is
