-- The capabilities and parameters that bytes mean: the bytes must be their canonical bytes.
use Rattle.std.specs.Prelude.{ℕ, ◌==◌, Bool, true, ◌&&◌, ◌||◌, not, nat_le, bytes_eq, List, [], ◌∷◌, Option, None, Some, Result, Ok, IsOk}
use Rattle.std.specs.FinMap.{len}
use Rattle.std.specs.List.{list_all}
use Rattle.std.specs.Option.{option_and_then, option_map}
use Rattle.std.specs.Ordering.{is_lt}
use Rattle.csi_types.specs.Checks.{map_bytes}
use Rattle.csi_types.specs.Maps.{TextMap}
use Rattle.csi_types.specs.Names.{is_empty}
use Rattle.csi_types.specs.declared.capability.Capability.{Capability}
use Rattle.csi_types.specs.declared.limits.TheConstants.{MAX_MAP_BYTES}
use Rattle.csi_types.specs.declared.method.Method.TheVariants as method
use Rattle.csi_types.specs.declared.requests.CreateVolume as message
use Rattle.csi_types.specs.declared.requests.Request.{Request}
use Rattle.csi_types.specs.declared.requests.Request.TheVariants.{Create}
use Rattle.csi_codec.specs.Reading.{read_request}
use Rattle.csi_keeper.specs.Capability.{is_supported_key, key_cmp, key_of}
use Rattle.csi_keeper.specs.declared.capability.CapKey.{CapKey}
use Rattle.csi_sql.specs.declared.formats.TheConstants.{FIRST_FORMAT}
use Rattle.csi_columns.specs.Encoding.{caps_bytes, params_bytes}
use Rattle.csi_constraints.specs.Values.{if_passes}

-- ---- reading

abbrev pub created : Result Request ℕ → Option message.CreateVolume
created (Ok (Create v)) = Some v
created _ = None

-- the CreateVolumeRequest that bytes mean
abbrev pub message_in : List ℕ → Option message.CreateVolume
message_in bytes = created (read_request method.CreateVolume bytes)

-- bytes that mean a CreateVolumeRequest, which takes memory to read
abbrev pub MeansMessage : List ℕ → Type 0
MeansMessage bytes = IsOk (read_request method.CreateVolume bytes)

abbrev pub in_front : Option CapKey → Option (List CapKey) → Option (List CapKey)
in_front (Some key) (Some «keys») = Some (key ∷ «keys»)
in_front (Some key) None = None
in_front None rest = None

-- the keys of capabilities, if each has one
abbrev pub each_key : List Capability → Option (List CapKey)
each_key [] = Some []
each_key (c ∷ cs) = in_front (key_of c) (each_key cs)

-- ---- the meaning of bytes

-- the keys whose canonical bytes these are, if there are such keys
abbrev pub keys_in : List ℕ → Option (List CapKey)
keys_in bytes = if_passes (λ ks. bytes_eq (caps_bytes ks) bytes) (option_and_then (λ v. each_key v.capabilities) (message_in bytes))

abbrev pub only : List CapKey → Option CapKey
only (key ∷ []) = Some key
only _ = None

-- the one key whose canonical bytes these are, if there is one
abbrev pub key_in : List ℕ → Option CapKey
key_in bytes = option_and_then only (keys_in bytes)

-- the parameters and mutable parameters whose canonical bytes these are, if there are such parameters
abbrev pub params_in : List ℕ → Option (TextMap × TextMap)
params_in bytes = if_passes (λ ms. bytes_eq (params_bytes ms.0 ms.1) bytes) (option_map (λ v. (v.parameters, v.mutable)) (message_in bytes))

-- ---- constraints on the values

abbrev pub is_before : CapKey → CapKey → Bool
is_before a b = is_lt (key_cmp a b)

-- each key is before all keys after it
abbrev pub rise : List CapKey → Bool
rise [] = true
rise (k ∷ ks) = list_all (is_before k) ks && rise ks

-- at least one, in order, each supported
abbrev pub are_keys : List CapKey → Bool
are_keys ks = not (is_empty ks) && rise ks && list_all is_supported_key ks

-- a map of at most 4,096 bytes
abbrev pub is_small : TextMap → Bool
is_small m = nat_le (map_bytes m) MAX_MAP_BYTES

-- parameters and mutable parameters, each of at most 4,096 bytes; format 1 has no mutable ones
abbrev pub are_params : ℕ → TextMap × TextMap → Bool
are_params format ms = is_small ms.0 && is_small ms.1 && (not (format == FIRST_FORMAT) || len ms.1 == 0)
