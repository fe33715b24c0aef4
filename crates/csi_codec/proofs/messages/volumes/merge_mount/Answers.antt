use Rattle.std.proofs.Common.{◌≡◌, ap, ◌∙◌, sym, rules}
use Rattle.csi_types.specs.declared.capability.Access.TheVariants as variants
use Rattle.pbmessage.specs.Views.{one_of}
use Rattle.csi_codec.specs.messages.Capability.{access}
use Rattle.pbmessage.specs.facts.Views.{one_of_push, then_ok}
use Rattle.csi_codec.proofs.MountLemmas.{mount_again, mount_first, not_mount}
use Rattle.csi_codec.proofs.messages.volumes.merge_mount.Goals as goal

pub returns-in_ok-mount-in-Mount : goal.returns-in_ok-mount-in-Mount
returns-in_ok-mount-in-Mount c =
    let was : c.replace.result ≡ c.args.slot.now = search rules in
    then_ok c.set_mount.result (λ is ms h.
    is ∙ mount_again (one_of ms) c.into_value.result c.in_ok-mount-in-Mount.mount c.args.payload.now (ap variants.Mount c.into_value.ensures ∙ sym c.in-Mount.is ∙ was ∙ h) c.in_ok-mount-in-Mount.ensures
    ∙ ap access (sym (one_of_push 2 c.args.payload.now ms))) c.set_mount.ensures

pub returns-in_ok-mount-in-Missing : goal.returns-in_ok-mount-in-Missing
returns-in_ok-mount-in-Missing c =
    let was : c.replace.result ≡ c.args.slot.now = search rules in
    then_ok c.set_mount-in-Missing.result (λ is ms h.
    is ∙ mount_first (one_of ms) c.replace.result c.in_ok-mount-in-Missing.mount c.args.payload.now (was ∙ h) (not_mount c.replace.result c.in-Missing.is) c.in_ok-mount-in-Missing.ensures
    ∙ ap access (sym (one_of_push 2 c.args.payload.now ms))) c.set_mount-in-Missing.ensures
