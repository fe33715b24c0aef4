-- CreateVolume (CSI specification, 'CreateVolume').
use Rattle.std.specs.Prelude.{ℕ, ◌&&◌, nat_le, Bool, List, Option, Some, None, if◌then◌else◌}
use Rattle.csi_types.specs.Maps.{TextMap, same_map}
use Rattle.csi_types.specs.Overlays.{has_each}
use Rattle.csi_types.specs.declared.limits.TheConstants.{MAX_VOLUMES, MAX_NUMBER}
use Rattle.csi_types.specs.declared.reason.Reason.TheVariants.{VolumeNotCompatible, NoRoom, TooManyVolumes, NumbersUsedUp, OutOfRange}
use Rattle.csi_types.specs.declared.requests.CreateVolume.{CreateVolume}
use Rattle.csi_types.specs.declared.responses.Response.TheVariants as response
use Rattle.csi_config.specs.declared.config.Config.{Config}
use Rattle.csi_config.specs.declared.pools.Pool.{Pool}
use Rattle.csi_keeper.specs.declared.change.Change.TheVariants.{AddVolume}
use Rattle.csi_machine.specs.declared.plan.Plan.{Plan}
use Rattle.csi_keeper.specs.declared.volume.Volume.{Volume}
use Rattle.csi_keeper.specs.Capability.{have_keys, keys_of}
use Rattle.csi_rules.specs.Choice.{Room, rooms, choice, count}
use Rattle.csi_rules.specs.Info.{segments_at, info_at}
use Rattle.csi_machine.specs.Plan.{refuse, respond, make}
use Rattle.csi_rules.specs.Size.{size, has_size}
use Rattle.csi_keeper.specs.State.{State, named}
use Rattle.csi_rules.specs.Topology.{is_reachable, terms}

-- a volume with the name exists

-- the existing volume, whose pool has these segments, fits the request; a mutable parameter that is given
-- must be as it is now
abbrev pub is_compatible : TextMap → Volume → CreateVolume → Bool
is_compatible segments v r =
    is_reachable segments r.topology && has_size v.bytes r.range && have_keys v.caps r.capabilities && same_map v.params r.parameters
    && has_each v.mutable r.mutable

abbrev pub again_at : TextMap → CreateVolume → Volume → Plan
again_at segments r v =
    if is_compatible segments v r then respond (response.Create (Some (info_at segments v))) else refuse VolumeNotCompatible

abbrev pub again : Config → CreateVolume → Volume → Plan
again config r v = again_at (segments_at config v.pool) r v

-- no volume with the name exists

abbrev pub made : CreateVolume → ℕ → ℕ → Pool → Volume
made r number bytes pool = record {
  number = number;
  name = r.name;
  bytes = bytes;
  pool = pool.name;
  caps = keys_of r.capabilities;
  params = r.parameters;
  mutable = r.mutable;
}

abbrev pub place_in : CreateVolume → ℕ → ℕ → Option Pool → Plan
place_in r number bytes None = refuse NoRoom
place_in r number bytes (Some pool) =
    make (response.Create (Some (info_at pool.segments (made r number bytes pool)))) (AddVolume (made r number bytes pool))

abbrev pub place : List Room → ℕ → CreateVolume → Option ℕ → Plan
place rs next r None = refuse OutOfRange
place rs next r (Some bytes) =
    if nat_le MAX_VOLUMES (count rs) then refuse TooManyVolumes
    else (if nat_le MAX_NUMBER next then refuse NumbersUsedUp else place_in r next bytes (choice rs (terms r.topology) bytes))

abbrev pub fresh : Config → List Room → ℕ → CreateVolume → Plan
fresh config rs next r = place rs next r (size config.sizes r.range)

abbrev pub create_named : Config → State → CreateVolume → Option Volume → Plan
create_named config s r (Some v) = again config r v
create_named config s r None = fresh config (rooms config s) s.next r

abbrev pub create : Config → State → CreateVolume → Plan
create config s r = create_named config s r (named s r.name)
