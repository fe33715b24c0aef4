-- The volume machine over calls, and the model of a keeper in a run.
use Rattle.std.specs.Prelude.{◌≡◌, ℕ, Bool, true, not, List, [], ◌∷◌, ◌++◌, drop, Some, None, Result, Ok, Err}
use Rattle.std.specs.List.{AllByRecursion}
use Rattle.envelope.specs.Envelope.{ReplyBytes}
use Rattle.envelope.specs.declared.limits.TheConstants.{REPLY_HEAD_BYTES}
use Rattle.csi_types.specs.declared.method.Method.{Method}
use Rattle.csi_types.specs.declared.reason.Reason.TheVariants as reason
use Rattle.csi_types.specs.declared.requests.Request.{Request}
use Rattle.csi_types.specs.Checks.{checked}
use Rattle.csi_types.specs.Methods.{method_at}
use Rattle.csi_codec.specs.Reading.{read_request}
use Rattle.csi_config.specs.declared.config.Config.{Config}
use Rattle.csi_keeper.specs.Invariant.{IsInvariant}
use Rattle.csi_keeper.specs.Model.{Model}
use Rattle.csi_keeper.specs.State.{State}
use Rattle.csi_keeper.specs.declared.change.StoreFault.{StoreFault}
use Rattle.csi_keeper.specs.declared.change.StoreFault.TheVariants as fault
use Rattle.csi_machine.specs.Step.{is_of_plugin, step}
use Rattle.csi_machine.specs.declared.body.Verdict.{Verdict}
use Rattle.csi_machine.specs.declared.body.Verdict.TheVariants as verdict
use Rattle.csi_server.specs.Machine.{Machine, Event, may_leave, refused, state_after}
use Rattle.csi_server.specs.Machine.{step as call_step}
use Rattle.csi_server.specs.Requests.{requests}

-- true if a request needs the keeper; a request about the plugin itself is answered without it
abbrev pub asks_keeper : Request → Bool
asks_keeper r = not (is_of_plugin r)

-- the volume machine under a configuration
abbrev pub volumes : Config → Machine State
volumes config = requests method_at asks_keeper (step config)

-- the model of a keeper in a run: only the States that meet the invariant, and the rest unchanged
abbrev pub seen : Config → Model State → Model State
seen config m = record m { holds = λ s. m.holds s × IsInvariant config s }

-- the reply to a call with this answer of the machine; the body is after room for the head
abbrev pub RepliesTo : List ℕ → ReplyBytes → Result Verdict StoreFault → Type 0
RepliesTo out r (Ok verdict.Done) = r ≡ record { status = 0; text = []; body = drop REPLY_HEAD_BYTES out }
RepliesTo out r (Ok (verdict.Refused q)) = r ≡ refused q
RepliesTo out r (Err fault.NoMemory) = r ≡ refused reason.OutOfMemory
RepliesTo out r (Err fault.Refused) = r ≡ refused reason.StoreRefused
RepliesTo out r (Err fault.Down) = r ≡ refused reason.StoreDown

-- A State that a stop may leave instead of the last State: a call was refused for lack of memory or by the
-- store, its request was read and passed the checks, t is the State that it would have made, and no later
-- call changed the State.
pub record IsPending (config : Config) (s : State) (events : List Event) (t : State) : Type 0 where
  pub before : List Event
  pub refused : Event
  pub after : List Event
  pub whole : events ≡ before ++ refused ∷ after
  pub is_left : may_leave refused.mark ≡ true
  pub still : AllByRecursion (λ e. (call_step (volumes config) (state_after (volumes config) s before) e).1 ≡ state_after (volumes config) s before) after
  pub method : Method
  pub request : Request
  pub called : method_at refused.call.path ≡ Some method
  pub read : read_request method refused.call.message ≡ Ok request
  pub passed : checked request ≡ None
  pub is : t ≡ (step config (state_after (volumes config) s before) request).1
