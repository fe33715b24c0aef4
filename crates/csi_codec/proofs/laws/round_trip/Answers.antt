use Rattle.csi_codec.proofs.MethodsLemmas.{request_again, response_again}
use Rattle.csi_codec.proofs.laws.round_trip.Goals as goal

pub returns-clause-requests : goal.returns-clause-requests
returns-clause-requests c = request_again (record { fields = record { exactly = c.spelled.ensures.exactly; shorter = c.spelled.ensures.shorter }; again = c.written.ensures.again; map_entries = c.map_entries.ensures })

pub returns-clause-responses : goal.returns-clause-responses
returns-clause-responses c = response_again (record { fields = record { exactly = c.spelled.ensures.exactly; shorter = c.spelled.ensures.shorter }; again = c.written.ensures.again; map_entries = c.map_entries.ensures })
