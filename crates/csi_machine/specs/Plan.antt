-- A plan: the answer to a request, and the one change that the request makes.
use Rattle.std.specs.Prelude.{Option, None, Some, Ok, Err}
use Rattle.csi_types.specs.declared.reason.Reason.{Reason}
use Rattle.csi_types.specs.declared.responses.Response.{Response}
use Rattle.csi_keeper.specs.declared.change.Change.{Change}
use Rattle.csi_machine.specs.declared.plan.Plan.{Plan}
use Rattle.csi_keeper.specs.State.{State, changed}

-- a refusal changes nothing
abbrev pub refuse : Reason → Plan
refuse reason = record { outcome = Err reason; change = None }

-- a response that changes nothing
abbrev pub respond : Response → Plan
respond r = record { outcome = Ok r; change = None }

-- a response after a change
abbrev pub make : Response → Change → Plan
make r c = record { outcome = Ok r; change = Some c }

-- the State after a change, if there is one
abbrev pub after : State → Option Change → State
after s None = s
after s (Some c) = changed s c
