-- One step of the volume machine: the answer to each request, and the State after it.
use Rattle.std.specs.Prelude.{◌≡◌, Bool, true, false, nat_le, length, if◌then◌else◌, None, Result, Ok, Err}
use Rattle.csi_types.specs.declared.reason.Reason.{Reason}
use Rattle.csi_types.specs.declared.responses.Response.{Response}
use Rattle.csi_types.specs.declared.reason.Reason.TheVariants.{ReplyTooLarge}
use Rattle.csi_types.specs.declared.requests.Request.{Request}
use Rattle.csi_types.specs.declared.requests.Request.TheVariants as request
use Rattle.csi_codec.specs.Methods.{response_bytes}
use Rattle.csi_config.specs.declared.config.Config.{Config}
use Rattle.envelope.specs.declared.limits.TheConstants.{MAX_BODY_BYTES}
use Rattle.csi_machine.specs.declared.plan.Plan.{Plan}
use Rattle.csi_machine.specs.declared.body.Verdict.{Verdict}
use Rattle.csi_machine.specs.declared.body.Verdict.TheVariants as verdict
use Rattle.csi_machine.specs.calls.Capacity.{capacity}
use Rattle.csi_machine.specs.calls.Create.{create}
use Rattle.csi_machine.specs.calls.Delete.{delete}
use Rattle.csi_rules.specs.Ids.{number_of_id}
use Rattle.csi_machine.specs.Identity.{plugin_info, plugin_capabilities, probe, controller_capabilities}
use Rattle.csi_machine.specs.calls.Listing.{list_volumes}
use Rattle.csi_machine.specs.Modify.{modify}
use Rattle.csi_machine.specs.calls.Publish.{publish}
use Rattle.csi_machine.specs.calls.Unpublish.{unpublish}
use Rattle.csi_machine.specs.Validate.{validate}
use Rattle.csi_machine.specs.Plan.{refuse, after}
use Rattle.csi_keeper.specs.State.{State}
use Rattle.csi_machine.specs.Verdicts.{Report, Says, Denies, reported_of}

-- the plan of a request, by its method
abbrev pub plan : Config → State → Request → Plan
plan config s request.PluginInfo = plugin_info config
plan config s request.PluginCapabilities = plugin_capabilities
plan config s request.Probe = probe
plan config s request.ControllerCapabilities = controller_capabilities
plan config s (request.Create r) = create config s r
plan config s (request.Delete r) = delete s r
plan config s (request.Publish r) = publish config s r
plan config s (request.Unpublish r) = unpublish s r
plan config s (request.Validate r) = validate s r
plan config s (request.List r) = list_volumes config s r
plan config s (request.Capacity r) = capacity config s r
plan config s (request.Modify r) = modify s r

-- true if a plan is made for the request and then carried out; each other request is answered by a function
-- of its own
abbrev pub is_planned : Request → Bool
is_planned request.PluginInfo = true
is_planned request.PluginCapabilities = true
is_planned request.Probe = false
is_planned request.ControllerCapabilities = true
is_planned (request.Create r) = false
is_planned (request.Delete r) = true
is_planned (request.Publish r) = true
is_planned (request.Unpublish r) = true
is_planned (request.Validate r) = true
is_planned (request.List r) = false
is_planned (request.Capacity r) = true
is_planned (request.Modify r) = true

-- true if a request asks about the plugin itself: the answer does not depend on the State
abbrev pub is_of_plugin : Request → Bool
is_of_plugin request.PluginInfo = true
is_of_plugin request.PluginCapabilities = true
is_of_plugin request.Probe = true
is_of_plugin request.ControllerCapabilities = true
is_of_plugin (request.Create r) = false
is_of_plugin (request.Delete r) = false
is_of_plugin (request.Publish r) = false
is_of_plugin (request.Unpublish r) = false
is_of_plugin (request.Validate r) = false
is_of_plugin (request.List r) = false
is_of_plugin (request.Capacity r) = false
is_of_plugin (request.Modify r) = false

-- true if the method of a request changes nothing
abbrev pub is_read : Request → Bool
is_read request.PluginInfo = true
is_read request.PluginCapabilities = true
is_read request.Probe = true
is_read request.ControllerCapabilities = true
is_read (request.Create r) = false
is_read (request.Delete r) = false
is_read (request.Publish r) = false
is_read (request.Unpublish r) = false
is_read (request.Validate r) = true
is_read (request.List r) = true
is_read (request.Capacity r) = true
is_read (request.Modify r) = false

-- the request names its volume by a text that is no volume id, so no State has this volume
abbrev pub NamesNone : Request → Type 0
NamesNone request.PluginInfo = ⊥
NamesNone request.PluginCapabilities = ⊥
NamesNone request.Probe = ⊥
NamesNone request.ControllerCapabilities = ⊥
NamesNone (request.Create r) = ⊥
NamesNone (request.Delete r) = number_of_id r.volume_id ≡ None
NamesNone (request.Publish r) = number_of_id r.volume_id ≡ None
NamesNone (request.Unpublish r) = number_of_id r.volume_id ≡ None
NamesNone (request.Validate r) = number_of_id r.volume_id ≡ None
NamesNone (request.List r) = ⊥
NamesNone (request.Capacity r) = ⊥
NamesNone (request.Modify r) = number_of_id r.volume_id ≡ None

-- a refusal keeps the State
abbrev pub moved : {S : Type 0} → S → S → Report → S
moved s t (Says body) = t
moved s t (Denies reason) = s

-- the result of one request: the body of its response or the reason of its refusal, and the State after it; a
-- body that is too large for a reply is refused
abbrev pub step : Config → State → Request → Report × State
step config s r = (reported_of (plan config s r).outcome, moved s (after s (plan config s r).change) (reported_of (plan config s r).outcome))

-- The plan, or a refusal if its body is too large for a reply.

abbrev pub limited_by : Plan → Result Response Reason → Plan
limited_by p (Err reason) = refuse reason
limited_by p (Ok r) = if nat_le (length (response_bytes r)) MAX_BODY_BYTES then p else refuse ReplyTooLarge

-- the plan if its body was appended, or a refusal if the body was refused
abbrev pub by_verdict : Plan → Verdict → Plan
by_verdict p verdict.Done = p
by_verdict p (verdict.Refused reason) = refuse reason

abbrev pub limited : Plan → Plan
limited p = limited_by p p.outcome

abbrev pub settled_plan : Config → State → Request → Plan
settled_plan config s r = limited (plan config s r)
