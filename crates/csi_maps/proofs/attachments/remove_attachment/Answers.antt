use Rattle.csi_maps.specs.facts.Spots.{spotted_less}
use Rattle.csi_maps.proofs.attachments.remove_attachment.Goals as goal

pub returns-clause-spotted : goal.returns-clause-spotted
returns-clause-spotted c = spotted_less _ _ _ _ c.args.place c.remove_place.ensures c.drop_spot.ensures.gone c.drop_spot.ensures.full
