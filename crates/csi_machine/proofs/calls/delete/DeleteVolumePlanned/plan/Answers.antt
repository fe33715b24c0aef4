use Rattle.std.proofs.Common.{◌≡◌, ◌∙◌, ℕ, Option, ap, refl, sym}
use Rattle.csi_keeper.specs.State.{State, attached}
use Rattle.csi_keeper.specs.declared.volume.Volume.{Volume}
use Rattle.csi_machine.specs.calls.Delete.{delete_found, delete_volume}
use Rattle.csi_rules.specs.Finding.{volume_at}
use Rattle.csi_rules.specs.Ids.{number_of_id}
use Rattle.csi_machine.specs.Plan.{respond}
use Rattle.csi_rules.specs.facts.Finding.{found_so, found_then, none_numbered, number_so, read_found}
use Rattle.csi_machine.proofs.calls.delete.DeleteVolumePlanned.plan.Goals as goal

pub returns-in_default-clause-finds : goal.returns-in_default-clause-finds
returns-in_default-clause-finds g c =
    found_so c.in_ok-number.ensures.finds (λ s named. c.respond.ensures ∙ ap respond c.deleted.ensures ∙ ap (delete_found s) (sym (none_numbered (volume_at s (number_of_id c.args.self.now.volume_id)) (sym named ∙ c.in_default.is))))

pub returns-clause-finds : goal.returns-clause-finds
returns-clause-finds g c =
    let of : State → Option (ℕ × Volume) = λ s. volume_at s (number_of_id c.args.self.now.volume_id) in
    found_then c.in_ok-number.ensures.finds
    (found_so {Q = λ s p. p ≡ delete_volume c.in-Some.number (attached s c.in-Some.number)} (read_found c.in_ok-attachments.ensures) (λ s reported. c.in_ok-delete_volume.ensures.value ∙ ap (delete_volume c.in-Some.number) (c.as_slice.ensures ∙ reported)))
    (λ s named p so. so ∙ number_so (delete_found s) (λ n. delete_volume n (attached s n)) (of s) c.in-Some.number (λ m v. refl) (sym c.in-Some.is ∙ named))
