-- The encoding of each request and each response means it.
use Rattle.std.proofs.Common.{true, refl, ◌≡◌}
use Rattle.pbmessage.specs.Schema.{AnyPayload, Good}
use Rattle.pbmessage.specs.Canon.{Start, rises}
use Rattle.csi_codec.specs.messages.Volume.{volume_schema}
use Rattle.pbmessage.specs.facts.Laws.{SpellingLaws}
use Rattle.pbmessage.specs.facts.Rows.{rows_again}
use Rattle.pbmessage.specs.facts.Parts.{mapped}
use Rattle.csi_types.specs.declared.requests.Request.{Request}
use Rattle.csi_types.specs.declared.requests.Request.TheVariants as request
use Rattle.csi_types.specs.declared.method.Method.TheVariants as method
use Rattle.csi_codec.specs.Methods.{request_in, request_method, canon_request, request_bytes, FitsRequest, MeansRequest, of_info, of_validation, of_listing, of_free, response_in, response_method, canon_response, response_bytes, FitsResponse, MeansResponse}
use Rattle.csi_types.specs.declared.responses.Response.{Response}
use Rattle.csi_types.specs.declared.responses.Response.TheVariants as response
use Rattle.csi_codec.proofs.SingleLemmas.{bool_value_law, only_law, types_law}
use Rattle.csi_codec.proofs.TopologyLemmas.{map_law}
use Rattle.csi_codec.proofs.VolumeLemmas.{volume_law}
use Rattle.csi_codec.proofs.VolumeRequestsLemmas.{create_law, delete_law, modify_law}
use Rattle.csi_codec.proofs.PublishRequestsLemmas.{publish_law, unpublish_law}
use Rattle.csi_codec.proofs.QueryRequestsLemmas.{validate_law, list_law, capacity_law}
use Rattle.csi_codec.proofs.ResponsePartsLemmas.{info_law, validation_law, listing_law, free_law}

pub request_again : SpellingLaws → (r : Request) → FitsRequest r → MeansRequest (request_method r) (request_bytes r) r
unfolding MeansRequest FitsRequest request_bytes
request_again l request.PluginInfo f = rows_again l (Good AnyPayload) (request_in method.GetPluginInfo) Start request.PluginInfo refl tt refl
request_again l request.PluginCapabilities f = rows_again l (Good AnyPayload) (request_in method.GetPluginCapabilities) Start request.PluginCapabilities refl tt refl
request_again l request.Probe f = rows_again l (Good AnyPayload) (request_in method.Probe) Start request.Probe refl tt refl
request_again l request.ControllerCapabilities f = rows_again l (Good AnyPayload) (request_in method.ControllerGetCapabilities) Start request.ControllerCapabilities refl tt refl
request_again l (request.Create v) f = mapped (λ x. request.Create x) ((create_law l).again v f)
request_again l (request.Delete v) f = mapped (λ x. request.Delete x) ((delete_law l).again v f)
request_again l (request.Publish v) f = mapped (λ x. request.Publish x) ((publish_law l).again v f)
request_again l (request.Unpublish v) f = mapped (λ x. request.Unpublish x) ((unpublish_law l).again v f)
request_again l (request.Validate v) f = mapped (λ x. request.Validate x) ((validate_law l).again v f)
request_again l (request.List v) f = mapped (λ x. request.List x) ((list_law l).again v f)
request_again l (request.Capacity v) f = mapped (λ x. request.Capacity x) ((capacity_law l).again v f)
request_again l (request.Modify v) f = mapped (λ x. request.Modify x) ((modify_law l).again v f)

pub request_rises : (r : Request) → rises (canon_request r) ≡ true
request_rises request.PluginInfo = refl
request_rises request.PluginCapabilities = refl
request_rises request.Probe = refl
request_rises request.ControllerCapabilities = refl
request_rises (request.Create v) = refl
request_rises (request.Delete v) = refl
request_rises (request.Publish v) = refl
request_rises (request.Unpublish v) = refl
request_rises (request.Validate v) = refl
request_rises (request.List v) = refl
request_rises (request.Capacity v) = refl
request_rises (request.Modify v) = refl

pub response_again : SpellingLaws → (r : Response) → FitsResponse r → MeansResponse (response_method r) (response_bytes r) r
unfolding MeansResponse FitsResponse response_bytes
response_again l (response.PluginInfo name version) f = mapped of_info ((info_law l).again (record { name = name; version = version }) f)
response_again l (response.PluginCapabilities os) f = mapped (λ x. response.PluginCapabilities x) ((types_law l).again os f)
response_again l (response.Probe o) f = mapped (λ x. response.Probe x) ((only_law AnyPayload (bool_value_law l)).again o f)
response_again l (response.ControllerCapabilities os) f = mapped (λ x. response.ControllerCapabilities x) ((types_law l).again os f)
response_again l (response.Create o) f = mapped (λ x. response.Create x) ((only_law volume_schema (volume_law l)).again o f)
response_again l response.Delete f = rows_again l (Good AnyPayload) (response_in method.DeleteVolume) Start response.Delete refl tt refl
response_again l (response.Publish m) f = mapped (λ x. response.Publish x) ((map_law l).again m f)
response_again l response.Unpublish f = rows_again l (Good AnyPayload) (response_in method.ControllerUnpublishVolume) Start response.Unpublish refl tt refl
response_again l (response.Validate confirmed message) f = mapped of_validation ((validation_law l).again (record { confirmed = confirmed; message = message }) f)
response_again l (response.List es token) f = mapped of_listing ((listing_law l).again (record { entries = es; token = token }) f)
response_again l (response.Capacity available maximum) f = mapped of_free ((free_law l).again (record { available = available; maximum = maximum }) f)
response_again l response.Modify f = rows_again l (Good AnyPayload) (response_in method.ControllerModifyVolume) Start response.Modify refl tt refl

pub response_rises : (r : Response) → rises (canon_response r) ≡ true
response_rises (response.PluginInfo name version) = refl
response_rises (response.PluginCapabilities os) = refl
response_rises (response.Probe o) = refl
response_rises (response.ControllerCapabilities os) = refl
response_rises (response.Create o) = refl
response_rises response.Delete = refl
response_rises (response.Publish m) = refl
response_rises response.Unpublish = refl
response_rises (response.Validate confirmed message) = refl
response_rises (response.List es token) = refl
response_rises (response.Capacity available maximum) = refl
response_rises response.Modify = refl
