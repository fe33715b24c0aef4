-- Which message each method takes and answers (CSI specification, 'RPC Interface').
use Rattle.std.specs.Prelude.{ℕ, List}
use Rattle.csi_types.specs.declared.method.Method.{Method}
use Rattle.csi_types.specs.declared.method.Method.TheVariants as method
use Rattle.csi_types.specs.declared.requests.Request.{Request}
use Rattle.csi_types.specs.declared.requests.Request.TheVariants as request
use Rattle.csi_types.specs.declared.responses.Response.{Response}
use Rattle.csi_types.specs.declared.responses.Response.TheVariants as response
use Rattle.pbmessage.specs.Fields.{AreGood, IsRefusedAt, Means}
use Rattle.pbmessage.specs.declared.message.DecodeFault.{DecodeFault}
use Rattle.pbmessage.specs.declared.message.DecodeFault.TheVariants as fault
use Rattle.pbmessage.specs.Views.{Views, value_of}
use Rattle.pbmessage.specs.Schema.{Schema, AnyPayload, Good, GoodField}
use Rattle.pbmessage.specs.Canon.{Rows, bytes_of, Start, FitsMap, FitsOption}
use Rattle.csi_codec.specs.messages.Single.{bool_value_in, canon_bool_value, FitsBoolValue, only_schema, only_in, canon_only, types_in, types_schema}
use Rattle.csi_codec.specs.messages.Single.{canon_types, FitsTypes}
use Rattle.csi_codec.specs.messages.Topology.{map_in, map_schema, canon_map}
use Rattle.csi_codec.specs.messages.Volume.{volume_in, volume_schema, canon_volume, FitsVolume}
use Rattle.csi_codec.specs.messages.VolumeRequests.{create_in, create_schema, canon_create, FitsCreate, delete_in, delete_schema, canon_delete}
use Rattle.csi_codec.specs.messages.VolumeRequests.{FitsDelete, modify_in, modify_schema, canon_modify, FitsModify}
use Rattle.csi_codec.specs.messages.PublishRequests.{publish_in, publish_schema, canon_publish, FitsPublish, unpublish_in, unpublish_schema}
use Rattle.csi_codec.specs.messages.PublishRequests.{canon_unpublish, FitsUnpublish}
use Rattle.csi_codec.specs.messages.QueryRequests.{validate_in, validate_schema, canon_validate, FitsValidate, list_in, list_schema, canon_list}
use Rattle.csi_codec.specs.messages.QueryRequests.{FitsList, capacity_in, capacity_schema, canon_capacity, FitsCapacity}
use Rattle.csi_codec.specs.declared.messages.responses.PluginInfo.{PluginInfo}
use Rattle.csi_codec.specs.declared.messages.responses.Validation.{Validation}
use Rattle.csi_codec.specs.declared.messages.responses.Listing.{Listing}
use Rattle.csi_codec.specs.declared.messages.responses.FreeCapacity.{FreeCapacity}
use Rattle.csi_codec.specs.messages.ResponseParts.{info_in, info_schema, canon_info, FitsInfo, validation_in, validation_schema, canon_validation}
use Rattle.csi_codec.specs.messages.ResponseParts.{FitsValidation, listing_in, listing_schema, canon_listing, FitsListing, free_in, free_schema}
use Rattle.csi_codec.specs.messages.ResponseParts.{canon_free, FitsFree}

-- ---- requests

abbrev pub request_schema : Method → Schema
request_schema method.GetPluginInfo = AnyPayload
request_schema method.GetPluginCapabilities = AnyPayload
request_schema method.Probe = AnyPayload
request_schema method.CreateVolume = create_schema
request_schema method.DeleteVolume = delete_schema
request_schema method.ControllerPublishVolume = publish_schema
request_schema method.ControllerUnpublishVolume = unpublish_schema
request_schema method.ValidateVolumeCapabilities = validate_schema
request_schema method.ListVolumes = list_schema
request_schema method.GetCapacity = capacity_schema
request_schema method.ControllerGetCapabilities = AnyPayload
request_schema method.ControllerModifyVolume = modify_schema

abbrev pub request_in : Method → Views → Request
request_in method.GetPluginInfo v = request.PluginInfo
request_in method.GetPluginCapabilities v = request.PluginCapabilities
request_in method.Probe v = request.Probe
request_in method.CreateVolume v = request.Create (create_in v)
request_in method.DeleteVolume v = request.Delete (delete_in v)
request_in method.ControllerPublishVolume v = request.Publish (publish_in v)
request_in method.ControllerUnpublishVolume v = request.Unpublish (unpublish_in v)
request_in method.ValidateVolumeCapabilities v = request.Validate (validate_in v)
request_in method.ListVolumes v = request.List (list_in v)
request_in method.GetCapacity v = request.Capacity (capacity_in v)
request_in method.ControllerGetCapabilities v = request.ControllerCapabilities
request_in method.ControllerModifyVolume v = request.Modify (modify_in v)

abbrev pub request_method : Request → Method
request_method request.PluginInfo = method.GetPluginInfo
request_method request.PluginCapabilities = method.GetPluginCapabilities
request_method request.Probe = method.Probe
request_method request.ControllerCapabilities = method.ControllerGetCapabilities
request_method (request.Create v) = method.CreateVolume
request_method (request.Delete v) = method.DeleteVolume
request_method (request.Publish v) = method.ControllerPublishVolume
request_method (request.Unpublish v) = method.ControllerUnpublishVolume
request_method (request.Validate v) = method.ValidateVolumeCapabilities
request_method (request.List v) = method.ListVolumes
request_method (request.Capacity v) = method.GetCapacity
request_method (request.Modify v) = method.ControllerModifyVolume

abbrev pub canon_request : Request → Rows
canon_request request.PluginInfo = Start
canon_request request.PluginCapabilities = Start
canon_request request.Probe = Start
canon_request request.ControllerCapabilities = Start
canon_request (request.Create v) = canon_create v
canon_request (request.Delete v) = canon_delete v
canon_request (request.Publish v) = canon_publish v
canon_request (request.Unpublish v) = canon_unpublish v
canon_request (request.Validate v) = canon_validate v
canon_request (request.List v) = canon_list v
canon_request (request.Capacity v) = canon_capacity v
canon_request (request.Modify v) = canon_modify v

unfoldable pub FitsRequest : Request → Type 0
FitsRequest request.PluginInfo = Unit {0}
FitsRequest request.PluginCapabilities = Unit {0}
FitsRequest request.Probe = Unit {0}
FitsRequest request.ControllerCapabilities = Unit {0}
FitsRequest (request.Create v) = FitsCreate v
FitsRequest (request.Delete v) = FitsDelete v
FitsRequest (request.Publish v) = FitsPublish v
FitsRequest (request.Unpublish v) = FitsUnpublish v
FitsRequest (request.Validate v) = FitsValidate v
FitsRequest (request.List v) = FitsList v
FitsRequest (request.Capacity v) = FitsCapacity v
FitsRequest (request.Modify v) = FitsModify v

-- the bytes mean this request
unfoldable pub MeansRequest : Method → List ℕ → Request → Type 0
MeansRequest m bytes r = Means (GoodField (Good (request_schema m))) (value_of (request_in m)) bytes r

-- the bytes are good, so they mean a request
unfoldable pub IsGoodRequest : Method → List ℕ → Type 0
IsGoodRequest m bytes = AreGood (GoodField (Good (request_schema m))) bytes

-- the bytes mean no request, and their longest prefix that is a list of good fields ends here
unfoldable pub IsNoRequest : Method → List ℕ → ℕ → Type 0
IsNoRequest m bytes at = IsRefusedAt (GoodField (Good (request_schema m))) bytes at

-- the fault is true of the bytes: they mean no request, or memory ran out for a request that they mean
abbrev pub RefusesRequest : Method → List ℕ → DecodeFault → Type 0
RefusesRequest m bytes (fault.Malformed at) = IsNoRequest m bytes at
RefusesRequest m bytes fault.NoMemory = IsGoodRequest m bytes

-- the one encoding of the request
unfoldable pub request_bytes : Request → List ℕ
request_bytes r = bytes_of (canon_request r)

-- ---- responses

abbrev pub response_schema : Method → Schema
response_schema method.GetPluginInfo = info_schema
response_schema method.GetPluginCapabilities = types_schema
response_schema method.Probe = only_schema AnyPayload
response_schema method.CreateVolume = only_schema volume_schema
response_schema method.DeleteVolume = AnyPayload
response_schema method.ControllerPublishVolume = map_schema
response_schema method.ControllerUnpublishVolume = AnyPayload
response_schema method.ValidateVolumeCapabilities = validation_schema
response_schema method.ListVolumes = listing_schema
response_schema method.GetCapacity = free_schema
response_schema method.ControllerGetCapabilities = types_schema
response_schema method.ControllerModifyVolume = AnyPayload

abbrev pub of_info : PluginInfo → Response
of_info r = response.PluginInfo r.name r.version

abbrev pub of_validation : Validation → Response
of_validation r = response.Validate r.confirmed r.message

abbrev pub of_listing : Listing → Response
of_listing r = response.List r.entries r.token

abbrev pub of_free : FreeCapacity → Response
of_free r = response.Capacity r.available r.maximum

abbrev pub response_in : Method → Views → Response
response_in method.GetPluginInfo v = of_info (info_in v)
response_in method.GetPluginCapabilities v = response.PluginCapabilities (types_in v)
response_in method.Probe v = response.Probe (only_in bool_value_in v)
response_in method.CreateVolume v = response.Create (only_in volume_in v)
response_in method.DeleteVolume v = response.Delete
response_in method.ControllerPublishVolume v = response.Publish (map_in v)
response_in method.ControllerUnpublishVolume v = response.Unpublish
response_in method.ValidateVolumeCapabilities v = of_validation (validation_in v)
response_in method.ListVolumes v = of_listing (listing_in v)
response_in method.GetCapacity v = of_free (free_in v)
response_in method.ControllerGetCapabilities v = response.ControllerCapabilities (types_in v)
response_in method.ControllerModifyVolume v = response.Modify

abbrev pub response_method : Response → Method
response_method (response.PluginInfo name version) = method.GetPluginInfo
response_method (response.PluginCapabilities os) = method.GetPluginCapabilities
response_method (response.Probe o) = method.Probe
response_method (response.ControllerCapabilities os) = method.ControllerGetCapabilities
response_method (response.Create o) = method.CreateVolume
response_method response.Delete = method.DeleteVolume
response_method (response.Publish m) = method.ControllerPublishVolume
response_method response.Unpublish = method.ControllerUnpublishVolume
response_method (response.Validate confirmed message) = method.ValidateVolumeCapabilities
response_method (response.List es token) = method.ListVolumes
response_method (response.Capacity available maximum) = method.GetCapacity
response_method response.Modify = method.ControllerModifyVolume

abbrev pub canon_response : Response → Rows
canon_response (response.PluginInfo name version) = canon_info (record { name = name; version = version })
canon_response (response.PluginCapabilities os) = canon_types os
canon_response (response.Probe o) = canon_only canon_bool_value o
canon_response (response.ControllerCapabilities os) = canon_types os
canon_response (response.Create o) = canon_only canon_volume o
canon_response response.Delete = Start
canon_response (response.Publish m) = canon_map m
canon_response response.Unpublish = Start
canon_response (response.Validate confirmed message) = canon_validation (record { confirmed = confirmed; message = message })
canon_response (response.List es token) = canon_listing (record { entries = es; token = token })
canon_response (response.Capacity available maximum) = canon_free (record { available = available; maximum = maximum })
canon_response response.Modify = Start

unfoldable pub FitsResponse : Response → Type 0
FitsResponse (response.PluginInfo name version) = FitsInfo (record { name = name; version = version })
FitsResponse (response.PluginCapabilities os) = FitsTypes os
FitsResponse (response.Probe o) = FitsOption FitsBoolValue canon_bool_value o
FitsResponse (response.ControllerCapabilities os) = FitsTypes os
FitsResponse (response.Create o) = FitsOption FitsVolume canon_volume o
FitsResponse response.Delete = Unit {0}
FitsResponse (response.Publish m) = FitsMap m
FitsResponse response.Unpublish = Unit {0}
FitsResponse (response.Validate confirmed message) = FitsValidation (record { confirmed = confirmed; message = message })
FitsResponse (response.List es token) = FitsListing (record { entries = es; token = token })
FitsResponse (response.Capacity available maximum) = FitsFree (record { available = available; maximum = maximum })
FitsResponse response.Modify = Unit {0}

-- the bytes mean this response
unfoldable pub MeansResponse : Method → List ℕ → Response → Type 0
MeansResponse m bytes r = Means (GoodField (Good (response_schema m))) (value_of (response_in m)) bytes r

-- the bytes are good, so they mean a response
unfoldable pub IsGoodResponse : Method → List ℕ → Type 0
IsGoodResponse m bytes = AreGood (GoodField (Good (response_schema m))) bytes

-- the bytes mean no response, and their longest prefix that is a list of good fields ends here
unfoldable pub IsNoResponse : Method → List ℕ → ℕ → Type 0
IsNoResponse m bytes at = IsRefusedAt (GoodField (Good (response_schema m))) bytes at

-- the fault is true of the bytes: they mean no response, or memory ran out for a response that they mean
abbrev pub RefusesResponse : Method → List ℕ → DecodeFault → Type 0
RefusesResponse m bytes (fault.Malformed at) = IsNoResponse m bytes at
RefusesResponse m bytes fault.NoMemory = IsGoodResponse m bytes

-- the one encoding of the response
unfoldable pub response_bytes : Response → List ℕ
response_bytes r = bytes_of (canon_response r)
