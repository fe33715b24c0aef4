-- The bytes of capabilities and parameters in a column: the canonical bytes of a CreateVolumeRequest that has
-- nothing else.
use Rattle.std.specs.Prelude.{◌≡◌, ℕ, pos, true, false, List, [], None, Some, Ok, map}
use Rattle.std.specs.List.{AllByRecursion}
use Rattle.std.specs.FinMap.{empty}
use Rattle.csi_types.specs.Checks.{is_known_mode}
use Rattle.csi_types.specs.Maps.{TextMap}
use Rattle.csi_types.specs.declared.capability.Capability.{Capability}
use Rattle.csi_types.specs.declared.requests.Request.{Request}
use Rattle.csi_types.specs.declared.requests.Request.TheVariants as request
use Rattle.csi_codec.specs.Methods.{request_method, request_bytes, FitsRequest}
use Rattle.csi_codec.specs.Reading.{read_request}
use Rattle.csi_keeper.specs.Capability.{capability_of}
use Rattle.csi_keeper.specs.declared.capability.CapKey.{CapKey}

-- a request that has only these capabilities (field 3), parameters (field 4) and mutable parameters (field 8)
abbrev pub create_with : List Capability → TextMap → TextMap → Request
create_with capabilities parameters mutable = request.Create (record {
  name = [];
  range = None;
  capabilities = capabilities;
  parameters = parameters;
  secrets = empty;
  source = false;
  topology = None;
  mutable = mutable;
})

-- a request with the capabilities of these keys, without mount flags and mount group
abbrev pub with_caps : List CapKey → Request
with_caps keys = create_with (map capability_of keys) empty empty

-- a request with the parameters and the mutable parameters of a volume; if there are no mutable parameters,
-- their field is absent
abbrev pub with_params : TextMap → TextMap → Request
with_params params mutable = create_with [] params mutable

unfoldable pub caps_bytes : List CapKey → List ℕ
caps_bytes keys = request_bytes (with_caps keys)

unfoldable pub params_bytes : TextMap → TextMap → List ℕ
params_bytes params mutable = request_bytes (with_params params mutable)

-- keys and parameters whose bytes can be read again
unfoldable pub FitCaps : List CapKey → Type 0
FitCaps keys = FitsRequest (with_caps keys)

unfoldable pub FitParams : TextMap → TextMap → Type 0
FitParams params mutable = FitsRequest (with_params params mutable)

-- the modes are known, so that the capability of each key has that key
abbrev pub AreKnown : List CapKey → Type 0
AreKnown keys = AllByRecursion (λ key. is_known_mode (Some (pos key.mode)) ≡ true) keys

-- the encoding of a request is read as that request
abbrev pub ReadsBack : Type 0
ReadsBack = (r : Request) → FitsRequest r → read_request (request_method r) (request_bytes r) ≡ Ok r
