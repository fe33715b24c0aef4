-- Requests that work on other volumes than a request that is made later: how the plan of the later request
-- after them compares with its plan before them.
use Rattle.std.specs.Prelude.{◌≡◌, ◌≢◌, ◌⊎◌, ℕ, true, List, [], ◌∷◌, Some}
use Rattle.std.specs.FinMap.{get}
use Rattle.csi_types.specs.declared.reason.Reason.TheVariants.{NodeFull}
use Rattle.csi_types.specs.declared.requests.Request.{Request}
use Rattle.csi_types.specs.declared.requests.Request.TheVariants as request
use Rattle.csi_config.specs.declared.config.Config.{Config}
use Rattle.csi_keeper.specs.State.{State, named}
use Rattle.csi_keeper.specs.Texts.{Text}
use Rattle.csi_keeper.specs.declared.volume.Volume.{Volume}
use Rattle.csi_machine.specs.Plan.{refuse}
use Rattle.csi_machine.specs.Step.{is_read, plan, step}
use Rattle.csi_machine.specs.calls.Create.{create_named}
use Rattle.csi_rules.specs.Ids.{number_of_id}

-- the volume with this id, if it exists, has another name
abbrev pub IsNotNamed : State → Text → Text → Type 0
IsNotNamed s id name = (n : ℕ) (v : Volume) → number_of_id id ≡ Some n → get s.volumes n ≡ Some v → v.name ≢ name

-- the request creates, deletes and modifies no volume with the name
abbrev pub IsOfOtherName : State → Text → Request → Type 0
IsOfOtherName s name (request.Create q) = q.name ≢ name
IsOfOtherName s name (request.Delete q) = IsNotNamed s q.volume_id name
IsOfOtherName s name (request.Modify q) = IsNotNamed s q.volume_id name
IsOfOtherName s name _ = Unit {0}

-- the request changes neither the volume with the id nor where it is attached
abbrev pub IsOfOtherId : State → Text → Request → Type 0
IsOfOtherId s id (request.Create q) = number_of_id id ≢ Some s.next
IsOfOtherId s id (request.Delete q) = q.volume_id ≢ id
IsOfOtherId s id (request.Publish q) = q.volume_id ≢ id
IsOfOtherId s id (request.Unpublish q) = q.volume_id ≢ id
IsOfOtherId s id (request.Modify q) = q.volume_id ≢ id
IsOfOtherId s id _ = Unit {0}

-- In a State the first request works on another volume than the second one. A page of the listing and a
-- capacity depend on all volumes, so the first request must change nothing there.
abbrev pub IsOfOtherVolume : State → Request → Request → Type 0
IsOfOtherVolume s q request.PluginInfo = Unit {0}
IsOfOtherVolume s q request.PluginCapabilities = Unit {0}
IsOfOtherVolume s q request.Probe = Unit {0}
IsOfOtherVolume s q request.ControllerCapabilities = Unit {0}
IsOfOtherVolume s q (request.Create r) = IsOfOtherName s r.name q
IsOfOtherVolume s q (request.Delete r) = IsOfOtherId s r.volume_id q
IsOfOtherVolume s q (request.Publish r) = IsOfOtherId s r.volume_id q
IsOfOtherVolume s q (request.Unpublish r) = IsOfOtherId s r.volume_id q
IsOfOtherVolume s q (request.Validate r) = IsOfOtherId s r.volume_id q
IsOfOtherVolume s q (request.List r) = is_read q ≡ true
IsOfOtherVolume s q (request.Capacity r) = is_read q ≡ true
IsOfOtherVolume s q (request.Modify r) = IsOfOtherId s r.volume_id q

-- Requests in this order, from a State: each works on another volume than the last argument.
abbrev pub AreOfOtherVolumes : Config → State → List Request → Request → Type 0
AreOfOtherVolumes config s [] r = Unit {0}
AreOfOtherVolumes config s (q ∷ qs) r = IsOfOtherVolume s q r × AreOfOtherVolumes config (step config s q).1 qs r

-- The plan of a request in a second State, compared with its plan in a first one, if only other volumes
-- changed between the two. A create of a new name takes the room and the next number of the second State. A
-- publish has the plan that it had, unless the node is full in one of the two States. Any other request has
-- the plan that it had.
abbrev pub IsPlannedAsBefore : Config → State → State → Request → Type 0
IsPlannedAsBefore config s t (request.Create r) = plan config t (request.Create r) ≡ create_named config t r (named s r.name)
IsPlannedAsBefore config s t (request.Publish r) =
    (plan config t (request.Publish r) ≡ plan config s (request.Publish r))
    ⊎ ((plan config t (request.Publish r) ≡ refuse NodeFull) ⊎ (plan config s (request.Publish r) ≡ refuse NodeFull))
IsPlannedAsBefore config s t r = plan config t r ≡ plan config s r
