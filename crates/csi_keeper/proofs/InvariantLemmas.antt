-- A State without volumes meets the invariant.
use Rattle.std.proofs.Common.{◌≡◌, ◌∙◌, ap, sym, arith, ℕ, ◌≤◌, List, [], map, filter, length, sum}
use Rattle.std.specs.FinMap as fin
use Rattle.std.specs.Ordering.{nat_cmp}
use Rattle.csi_types.specs.Maps.{same_text}
use Rattle.csi_types.specs.declared.limits.TheConstants.{MAX_NUMBER}
use Rattle.csi_config.specs.declared.config.Config.{Config}
use Rattle.csi_keeper.specs.declared.volume.Attachment.{Attachment}
use Rattle.csi_keeper.specs.declared.volume.Volume.{Volume}
use Rattle.csi_keeper.specs.Invariant.{IsInvariant}
use Rattle.csi_keeper.specs.State.{AttachmentKey, attachment_key_cmp, first_state}
use Rattle.csi_keeper.specs.facts.Finite.{none_listed, none_some}
use Rattle.csi_keeper.specs.facts.Sums.{in_order}

pub first_invariant : (config : Config) (first : ℕ) → 1 ≤ first → first ≤ MAX_NUMBER → IsInvariant config (first_state first)
first_invariant config first least most = record {
  next = (least, most);
  volumes = λ n v e. absurd (none_some v (sym (fin.get-empty {X = Volume} nat_cmp n) ∙ e));
  names = λ m n v w e f same. absurd (none_some v (sym (fin.get-empty {X = Volume} nat_cmp m) ∙ e));
  rooms = λ p has. let none = ap (λ (es : List (ℕ × Volume)). sum (in_order es p.name)) no_volumes in omega (arith, none);
  attachments = λ n node a e. absurd (none_some a (sym (fin.get-empty {X = Attachment} attachment_key_cmp (n, node)) ∙ e));
  beside = λ n d e a b f g far. absurd (none_some a (sym (fin.get-empty {X = Attachment} attachment_key_cmp (n, d)) ∙ f));
  nodes = λ m has. let none = ap (λ (es : List (AttachmentKey × Attachment)). length (map (λ e. e.0.0) (filter (λ e. same_text e.0.1 m.id) es))) no_attachments in omega (arith, none);
  few = let none = fin.len-empty nat_cmp Volume in omega (arith, none);
}
  where
    no_volumes : fin.entries (fin.empty {X = Volume} {R = nat_cmp}) ≡ []
    no_volumes = none_listed nat_cmp

    no_attachments : fin.entries (fin.empty {X = Attachment} {R = attachment_key_cmp}) ≡ []
    no_attachments = none_listed attachment_key_cmp
