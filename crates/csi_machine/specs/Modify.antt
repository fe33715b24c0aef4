-- ControllerModifyVolume (CSI specification, 'ControllerModifyVolume').
use Rattle.std.specs.Prelude.{ℕ, nat_lt, Option, Some, None, if◌then◌else◌}
use Rattle.csi_types.specs.Checks.{map_bytes}
use Rattle.csi_types.specs.Maps.{TextMap}
use Rattle.csi_types.specs.Overlays.{has_each, laid_over}
use Rattle.csi_types.specs.declared.limits.TheConstants.{MAX_MAP_BYTES}
use Rattle.csi_types.specs.declared.reason.Reason.TheVariants.{VolumeNotFound, MutableTooLarge}
use Rattle.csi_types.specs.declared.requests.Modify.{Modify}
use Rattle.csi_types.specs.declared.responses.Response.TheVariants as response
use Rattle.csi_keeper.specs.declared.change.Change.TheVariants.{SetMutable}
use Rattle.csi_keeper.specs.declared.volume.Volume.{Volume}
use Rattle.csi_machine.specs.declared.plan.Plan.{Plan}
use Rattle.csi_rules.specs.Finding.{volume_at}
use Rattle.csi_rules.specs.Ids.{number_of_id}
use Rattle.csi_machine.specs.Plan.{refuse, respond, make}
use Rattle.csi_keeper.specs.State.{State}

-- a map that is too large is refused; if the volume has the given parameters already, nothing changes
abbrev pub modify_to : ℕ → TextMap → TextMap → TextMap → Plan
modify_to n own given laid =
    if nat_lt MAX_MAP_BYTES (map_bytes laid) then refuse MutableTooLarge
    else (if has_each own given then respond response.Modify else make response.Modify (SetMutable n laid))

-- the given parameters are laid over the volume's own
abbrev pub modify_own : ℕ → TextMap → TextMap → Plan
modify_own n own given = modify_to n own given (laid_over own given)

abbrev pub modify_found : Modify → Option (ℕ × Volume) → Plan
modify_found r None = refuse VolumeNotFound
modify_found r (Some found) = modify_own found.0 found.1.mutable r.mutable

abbrev pub modify : State → Modify → Plan
modify s r = modify_found r (volume_at s (number_of_id r.volume_id))
