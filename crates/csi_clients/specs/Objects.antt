-- Which requests leave the object of another request alone. An object is a volume under its name, a volume
-- under its id, a volume at a node, or mutable parameters of a volume.
use Rattle.std.specs.Prelude.{◌≡◌, ◌≢◌, ℕ, true, List, [], ◌∷◌, Some}
use Rattle.std.specs.FinMap.{get}
use Rattle.csi_types.specs.Maps.{TextMap}
use Rattle.csi_types.specs.declared.requests.CreateVolume.{CreateVolume}
use Rattle.csi_types.specs.declared.requests.Modify.{Modify}
use Rattle.csi_types.specs.declared.requests.Publish.{Publish}
use Rattle.csi_types.specs.declared.requests.Request.{Request}
use Rattle.csi_types.specs.declared.requests.Request.TheVariants as request
use Rattle.csi_types.specs.declared.requests.Unpublish.{Unpublish}
use Rattle.csi_config.specs.declared.config.Config.{Config}
use Rattle.csi_keeper.specs.State.{State}
use Rattle.csi_keeper.specs.Texts.{Text}
use Rattle.csi_keeper.specs.declared.volume.Volume.{Volume}
use Rattle.csi_machine.specs.Step.{is_read, step}
use Rattle.csi_rules.specs.Ids.{number_of_id}

-- a key of both maps has the same value in both
abbrev pub Agree : TextMap → TextMap → Type 0
Agree given other = (key x y : Text) → get given key ≡ Some x → get other key ≡ Some y → y ≡ x

-- For a create: the request deletes no volume with its name, and sets no mutable parameter of this volume to
-- another value than the create gives.
abbrev pub LeavesNameAlone : State → CreateVolume → Request → Type 0
LeavesNameAlone s r (request.Delete q) =
    (n : ℕ) (v : Volume) → number_of_id q.volume_id ≡ Some n → get s.volumes n ≡ Some v → v.name ≢ r.name
LeavesNameAlone s r (request.Modify q) =
    (n : ℕ) (v : Volume) → number_of_id q.volume_id ≡ Some n → get s.volumes n ≡ Some v → v.name ≡ r.name → Agree r.mutable q.mutable
LeavesNameAlone s r _ = Unit {0}

-- For a delete: the request creates no volume with its id. An id is never given twice, so this excludes
-- something only for an id that no volume was given yet.
abbrev pub LeavesIdUnused : State → Text → Request → Type 0
LeavesIdUnused s id (request.Create q) = number_of_id id ≢ Some s.next
LeavesIdUnused s id _ = Unit {0}

-- For a publish: the request does not detach the volume from the node.
abbrev pub LeavesAttached : Publish → Request → Type 0
LeavesAttached r (request.Unpublish q) = q.volume_id ≡ r.volume_id → (q.node_id ≢ []) × (q.node_id ≢ r.node_id)
LeavesAttached r _ = Unit {0}

-- For an unpublish: the request does not attach the volume at the node, or at any node if the unpublish is
-- from all nodes.
abbrev pub LeavesDetached : Unpublish → Request → Type 0
LeavesDetached r (request.Publish q) = q.volume_id ≡ r.volume_id → (r.node_id ≢ []) × (q.node_id ≢ r.node_id)
LeavesDetached r _ = Unit {0}

-- For a modify: the request does not delete the volume, and sets no parameter of the modify to another value.
abbrev pub LeavesMutable : Modify → Request → Type 0
LeavesMutable r (request.Delete q) = q.volume_id ≢ r.volume_id
LeavesMutable r (request.Modify q) = q.volume_id ≡ r.volume_id → Agree r.mutable q.mutable
LeavesMutable r _ = Unit {0}

-- For a question about a volume: the request does not delete the volume.
abbrev pub LeavesVolume : Text → Request → Type 0
LeavesVolume id (request.Delete q) = q.volume_id ≢ id
LeavesVolume id _ = Unit {0}

-- In a State the first request leaves the object of the second request alone: the change that the second one
-- made there stays. A page of the listing and a capacity depend on all volumes, so only requests that change
-- nothing leave them alone.
abbrev pub LeavesAlone : State → Request → Request → Type 0
LeavesAlone s q request.PluginInfo = Unit {0}
LeavesAlone s q request.PluginCapabilities = Unit {0}
LeavesAlone s q request.Probe = Unit {0}
LeavesAlone s q request.ControllerCapabilities = Unit {0}
LeavesAlone s q (request.Create r) = LeavesNameAlone s r q
LeavesAlone s q (request.Delete r) = LeavesIdUnused s r.volume_id q
LeavesAlone s q (request.Publish r) = LeavesAttached r q
LeavesAlone s q (request.Unpublish r) = LeavesDetached r q
LeavesAlone s q (request.Validate r) = LeavesVolume r.volume_id q
LeavesAlone s q (request.List r) = is_read q ≡ true
LeavesAlone s q (request.Capacity r) = is_read q ≡ true
LeavesAlone s q (request.Modify r) = LeavesMutable r q

-- Requests of others, made in this order from a State: each leaves the object of the last argument alone.
abbrev pub AllLeaveAlone : Config → State → List Request → Request → Type 0
AllLeaveAlone config s [] r = Unit {0}
AllLeaveAlone config s (q ∷ qs) r = LeavesAlone s q r × AllLeaveAlone config (step config s q).1 qs r
