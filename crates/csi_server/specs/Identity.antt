-- The identity service: Probe and GetPluginInfo.
use Rattle.std.specs.Prelude.{⊤, ℕ, List, Option, Some, None, true, false, Result, Ok, Err}
use Rattle.csi_types.specs.declared.reason.Reason.{Reason}
use Rattle.csi_types.specs.declared.method.Method.{Method}
use Rattle.csi_types.specs.declared.method.Method.TheVariants as method
use Rattle.csi_types.specs.declared.reason.Reason.TheVariants.{UnknownMethod}
use Rattle.csi_types.specs.declared.requests.Request.{Request}
use Rattle.csi_types.specs.declared.requests.Request.TheVariants as request
use Rattle.csi_types.specs.declared.responses.Response.{Response}
use Rattle.csi_types.specs.declared.responses.Response.TheVariants as response
use Rattle.csi_types.specs.Methods.{method_at}
use Rattle.csi_machine.specs.Verdicts.{reported_of}
use Rattle.csi_keeper.specs.Model.{Model}
use Rattle.csi_server.specs.Machine.{Machine}
use Rattle.csi_server.specs.Requests.{requests}

-- the method, if it is GetPluginInfo or Probe
abbrev pub known : Option Method → Option Method
known None = None
known (Some method.GetPluginInfo) = Some method.GetPluginInfo
known (Some method.Probe) = Some method.Probe
known (Some m) = None

-- the answer to a request: Probe is answered with ready, and GetPluginInfo with the name and the version
unfoldable pub said : List ℕ → List ℕ → Request → Result Response Reason
said name version request.Probe = Ok (response.Probe (Some true))
said name version request.PluginInfo = Ok (response.PluginInfo name version)
said name version r = Err UnknownMethod

abbrev pub outcome_of : Option Response → Result Response Reason
outcome_of None = Err UnknownMethod
outcome_of (Some r) = Ok r

-- the machine of the identity service: it has no state and asks no store
abbrev pub identity : List ℕ → List ℕ → Machine ⊤
identity name version = requests (λ path. known (method_at path)) (λ r. false) (λ s r. (reported_of (said name version r), s))

abbrev pub still : Model ⊤
still = record { holds = λ s. ⊤; doubt = 0; refusals = 0; survivors = λ s. ⊤; tied = ⊤; is_down = false }
