-- DeleteVolume (CSI specification, 'DeleteVolume').
use Rattle.std.specs.Prelude.{ℕ, List, [], ◌∷◌, Option, Some, None}
use Rattle.csi_types.specs.declared.reason.Reason.TheVariants.{VolumeInUse}
use Rattle.csi_types.specs.declared.requests.DeleteVolume.{DeleteVolume}
use Rattle.csi_types.specs.declared.responses.Response.TheVariants as response
use Rattle.csi_keeper.specs.declared.change.Change.TheVariants.{RemoveVolume}
use Rattle.csi_machine.specs.declared.plan.Plan.{Plan}
use Rattle.csi_keeper.specs.declared.volume.Attachment.{Attachment}
use Rattle.csi_keeper.specs.declared.volume.Volume.{Volume}
use Rattle.csi_rules.specs.Finding.{volume_at}
use Rattle.csi_rules.specs.Ids.{number_of_id}
use Rattle.csi_machine.specs.Plan.{refuse, respond, make}
use Rattle.csi_keeper.specs.State.{State, attached}

-- a volume that is attached is in use
abbrev pub delete_volume : ℕ → List Attachment → Plan
delete_volume n [] = make response.Delete (RemoveVolume n)
delete_volume n (a ∷ attachments) = refuse VolumeInUse

-- the delete of an unknown volume succeeds
abbrev pub delete_found : State → Option (ℕ × Volume) → Plan
delete_found s None = respond response.Delete
delete_found s (Some found) = delete_volume found.0 (attached s found.0)

abbrev pub delete : State → DeleteVolume → Plan
delete s r = delete_found s (volume_at s (number_of_id r.volume_id))
