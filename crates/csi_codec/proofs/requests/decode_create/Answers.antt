use Rattle.csi_codec.specs.Reading.{read_request}
use Rattle.csi_codec.proofs.ReadingLemmas.{creates}
use Rattle.csi_codec.proofs.requests.decode_create.Goals as goal

pub returns : goal.returns
unfolding read_request
returns c = creates (record { exactly = c.spelled.ensures.exactly; shorter = c.spelled.ensures.shorter }) c.args.bytes.now c.decode_message.result c.decode_message.ensures.ok c.decode_message.ensures.err
