use Rattle.csi_adoption.proofs.SumLemmas.{count_reported, room_kept, room_reported}
use Rattle.csi_adoption.proofs.laws.sums_reported.Goals as goal

pub returns : goal.returns
returns c = record { counts = count_reported; rooms = λ at text weight rows most low. (λ reported. room_reported at text weight rows most reported low, room_kept at text weight rows most) }
