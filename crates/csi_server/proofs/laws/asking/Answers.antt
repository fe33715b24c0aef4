use Rattle.csi_server.proofs.TriesLemmas.{asked_answers, asked_is, is_asked, spelled_asks, unasked_stays}
use Rattle.csi_server.proofs.laws.asking.Goals as goal

pub returns : goal.returns
returns c = record { exact = λ call r. (asked_is call r, is_asked call r); answered = asked_answers; no_request = unasked_stays; spelled = spelled_asks c.round_trip.ensures.requests c.read_as_meant.ensures.requests }
