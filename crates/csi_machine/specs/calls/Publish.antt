-- ControllerPublishVolume (CSI specification, 'ControllerPublishVolume').
use Rattle.std.specs.Prelude.{ℕ, ◌&&◌, not, nat_le, Bool, true, false, List, Option, Some, None, find, if◌then◌else◌}
use Rattle.csi_types.specs.Maps.{same_text}
use Rattle.csi_types.specs.declared.capability.Capability.{Capability}
use Rattle.csi_types.specs.declared.reason.Reason.TheVariants.{VolumeNotFound, NodeNotFound, PublishedElsewhere, PublishedOtherwise, NodeFull}
use Rattle.csi_types.specs.declared.reason.Reason.TheVariants.{CapabilityNotOfVolume}
use Rattle.csi_types.specs.declared.requests.Publish.{Publish}
use Rattle.csi_types.specs.declared.responses.Response.TheVariants as response
use Rattle.csi_config.specs.declared.config.Config.{Config}
use Rattle.csi_config.specs.declared.nodes.Node.{Node}
use Rattle.csi_keeper.specs.Lookup.{node_of}
use Rattle.csi_keeper.specs.declared.capability.CapKey.{CapKey}
use Rattle.csi_keeper.specs.declared.change.Change.TheVariants.{Attach}
use Rattle.csi_machine.specs.declared.calls.publish.Target as borrowed
use Rattle.csi_machine.specs.declared.plan.Plan.{Plan}
use Rattle.csi_keeper.specs.declared.volume.Attachment.{Attachment}
use Rattle.csi_keeper.specs.declared.volume.Volume.{Volume}
use Rattle.csi_keeper.specs.Capability.{key_of, same_key, has_key}
use Rattle.csi_rules.specs.Conflict.{has_conflict}
use Rattle.csi_rules.specs.Finding.{volume_at}
use Rattle.csi_rules.specs.Ids.{number_of_id}
use Rattle.csi_machine.specs.Plan.{refuse, respond, make}
use Rattle.csi_machine.specs.Response.{publication}
use Rattle.csi_keeper.specs.State.{State, attached, count_at}
use Rattle.csi_keeper.specs.Texts.{Text}

abbrev pub is_at : Text → Attachment → Bool
is_at node a = same_text a.node node

abbrev pub same_flag : Bool → Bool → Bool
same_flag true b = b
same_flag false b = not b

-- the volume is attached at the node
abbrev pub publish_again : CapKey → Bool → Attachment → Plan
publish_again key readonly a =
    if same_key a.cap key && same_flag a.readonly readonly then respond (response.Publish (publication readonly)) else refuse PublishedOtherwise

-- an existing volume with its capability keys and its attachments, and a node with the number of volumes that
-- are attached there
pub record Target : Type 0 where
  pub number : ℕ
  pub caps : List CapKey
  pub attachments : List Attachment
  pub node : Node
  pub there : ℕ

abbrev pub borrowed_target : borrowed.Target → Target
borrowed_target t = record { number = t.number; caps = t.caps.now; attachments = t.attachments.now; node = t.node.now; there = t.there }

-- the volume is not attached at the node
abbrev pub attach : Target → Attachment → Plan
attach t mine =
    if not (has_key t.caps (Some mine.cap)) then refuse CapabilityNotOfVolume
    else (if has_conflict mine t.attachments then refuse PublishedElsewhere
    else (if nat_le t.node.max_volumes t.there then refuse NodeFull else make (response.Publish (publication mine.readonly)) (Attach t.number mine)))

abbrev pub wanted : Text → Bool → CapKey → Attachment
wanted node readonly key = record { node = node; cap = key; readonly = readonly }

abbrev pub publish_key : Target → Publish → Option Attachment → CapKey → Plan
publish_key t r (Some a) key = publish_again key r.readonly a
publish_key t r None key = attach t (wanted r.node_id r.readonly key)

abbrev pub publish_at : Target → Publish → Option CapKey → Plan
publish_at t r None = refuse CapabilityNotOfVolume
publish_at t r (Some key) = publish_key t r (find (is_at r.node_id) t.attachments) key

abbrev pub requested_key : Option Capability → Option CapKey
requested_key None = None
requested_key (Some c) = key_of c

abbrev pub target_in : State → ℕ → List CapKey → Publish → Node → Target
target_in s n caps r node = record { number = n; caps = caps; attachments = attached s n; node = node; there = count_at s r.node_id }

abbrev pub publish_node : State → ℕ → List CapKey → Publish → Option Node → Plan
publish_node s n caps r None = refuse NodeNotFound
publish_node s n caps r (Some node) = publish_at (target_in s n caps r node) r (requested_key r.capability)

abbrev pub publish_found : Config → State → Publish → Option (ℕ × Volume) → Plan
publish_found config s r None = refuse VolumeNotFound
publish_found config s r (Some found) = publish_node s found.0 found.1.caps r (node_of config r.node_id)

abbrev pub publish : Config → State → Publish → Plan
publish config s r = publish_found config s r (volume_at s (number_of_id r.volume_id))
