use Rattle.std.proofs.Common.{◌≡◌, ◌==◌, map, filter}
use Rattle.std.specs.Map.Iter.{deref_pair}
use Rattle.csi_keeper.specs.State.{AttachmentKey}
use Rattle.csi_keeper.specs.declared.volume.Attachment.{Attachment}
use Rattle.csi_maps.proofs.attachments.nodes_of.Given as goal

abbrev pub invariant-loop-place : goal.invariant-loop-place
invariant-loop-place l = l.nodes ≡ map (λ (a : Attachment). a.node) (map (λ (e : AttachmentKey × Attachment). e.1) (filter (λ (e : AttachmentKey × Attachment). e.0.0 == l.number) (map deref_pair l.yielded)))
