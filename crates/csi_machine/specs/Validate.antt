-- ValidateVolumeCapabilities (CSI specification, 'ValidateVolumeCapabilities').
use Rattle.std.specs.Prelude.{ℕ, ◌==◌, ◌&&◌, ◌||◌, [], Option, Some, None, codes, if◌then◌else◌}
use Rattle.std.specs.FinMap.{empty, len}
use Rattle.csi_types.specs.Maps.{same_map}
use Rattle.csi_types.specs.declared.reason.Reason.TheVariants.{VolumeNotFound}
use Rattle.csi_types.specs.declared.requests.Validate.{Validate}
use Rattle.csi_types.specs.declared.responses.Response.TheVariants as response
use Rattle.csi_machine.specs.declared.plan.Plan.{Plan}
use Rattle.csi_keeper.specs.declared.volume.Volume.{Volume}
use Rattle.csi_keeper.specs.Capability.{have_keys}
use Rattle.csi_rules.specs.Finding.{volume_at}
use Rattle.csi_rules.specs.Ids.{number_of_id}
use Rattle.csi_machine.specs.Plan.{refuse, respond}
use Rattle.csi_keeper.specs.State.{State}

-- the request's own capabilities and parameters; a volume's context is not confirmed
abbrev pub confirm : Validate → Plan
confirm r = respond (response.Validate (Some (record { context = empty; capabilities = r.capabilities; parameters = r.parameters })) [])

abbrev pub deny : Plan
deny = respond (response.Validate None (codes "capabilities or parameters are not supported"))

-- parameters that are not given are not checked
abbrev pub validate_volume : Validate → Volume → Plan
validate_volume r v =
    if have_keys v.caps r.capabilities && (len r.parameters == 0 || same_map v.params r.parameters) then confirm r else deny

abbrev pub validate_found : Validate → Option (ℕ × Volume) → Plan
validate_found r None = refuse VolumeNotFound
validate_found r (Some found) = validate_volume r found.1

abbrev pub validate : State → Validate → Plan
validate s r = validate_found r (volume_at s (number_of_id r.volume_id))
