-- ControllerUnpublishVolume (CSI specification, 'ControllerUnpublishVolume').
use Rattle.std.specs.Prelude.{ℕ, List, [], ◌∷◌, Option, Some, None, find, if◌then◌else◌}
use Rattle.csi_types.specs.Names.{is_empty}
use Rattle.csi_types.specs.declared.requests.Unpublish.{Unpublish}
use Rattle.csi_types.specs.declared.responses.Response.TheVariants as response
use Rattle.csi_keeper.specs.declared.change.Change.TheVariants.{Detach, DetachAll}
use Rattle.csi_machine.specs.declared.plan.Plan.{Plan}
use Rattle.csi_keeper.specs.declared.volume.Attachment.{Attachment}
use Rattle.csi_machine.specs.calls.Publish.{is_at}
use Rattle.csi_rules.specs.Ids.{number_of_id}
use Rattle.csi_machine.specs.Plan.{respond, make}
use Rattle.csi_keeper.specs.State.{State, attached}
use Rattle.csi_keeper.specs.Texts.{Text}

abbrev pub detach_all : ℕ → List Attachment → Plan
detach_all n [] = respond response.Unpublish
detach_all n (a ∷ attachments) = make response.Unpublish (DetachAll n)

abbrev pub detach_one : ℕ → Text → Option Attachment → Plan
detach_one n node None = respond response.Unpublish
detach_one n node (Some a) = make response.Unpublish (Detach n node)

-- an empty node id is each node
abbrev pub detach : ℕ → Text → List Attachment → Plan
detach n node attachments = if is_empty node then detach_all n attachments else detach_one n node (find (is_at node) attachments)

abbrev pub unpublish_number : State → Text → Option ℕ → Plan
unpublish_number s node None = respond response.Unpublish
unpublish_number s node (Some n) = detach n node (attached s n)

abbrev pub unpublish : State → Unpublish → Plan
unpublish s r = unpublish_number s r.node_id (number_of_id r.volume_id)
