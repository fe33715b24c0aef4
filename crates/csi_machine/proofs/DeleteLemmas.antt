-- Deleting a volume keeps the invariant.
use Rattle.std.proofs.Common.{◌≡◌, ◌∙◌, ap, sym, subst, cond, arith, refl, ℕ, ◌-◌, ◌≤◌, ◌==◌, List, [], ◌∷◌, map, filter, sum, Bool, true, false, Option, Some, None, eq-eqb}
use Rattle.std.specs.Cmp.{nat_cmp_total}
use Rattle.std.specs.FinMap as fin
use Rattle.std.specs.Ordering.{nat_cmp, eq_by_cmp}
use Rattle.csi_types.specs.declared.requests.DeleteVolume.{DeleteVolume}
use Rattle.csi_config.specs.declared.config.Config.{Config}
use Rattle.csi_keeper.specs.declared.change.Change.{Change}
use Rattle.csi_keeper.specs.declared.change.Change.TheVariants.{RemoveVolume}
use Rattle.csi_keeper.specs.declared.volume.Attachment.{Attachment}
use Rattle.csi_keeper.specs.declared.volume.Volume.{Volume}
use Rattle.csi_machine.specs.calls.Delete.{delete, delete_found, delete_volume}
use Rattle.csi_rules.specs.Finding.{volume_at}
use Rattle.csi_rules.specs.Ids.{number_of_id}
use Rattle.csi_keeper.specs.Invariant.{IsInvariant}
use Rattle.csi_keeper.specs.State.{State, AttachmentKey, attachment_key_cmp, attached, changed, sizes}
use Rattle.csi_keeper.specs.Texts.{Text}
use Rattle.csi_keeper.specs.facts.Finite.{none_some, same_some, tied, removed, not_there}
use Rattle.csi_keeper.specs.facts.Orders.{place_exact}
use Rattle.csi_machine.proofs.PlanLemmas.{IsFit, IsSound, sound_by}
use Rattle.csi_keeper.specs.facts.Sums.{taken_sum}

abbrev Row : Type 0
Row = AttachmentKey × Attachment

-- an existing attachment is among its volume's attachments
among : (es : List Row) (n : ℕ) (node : Text) (a : Attachment) → fin.find attachment_key_cmp (n, node) es ≡ Some a → map (λ e. e.1) (filter (λ e. e.0.0 == n) es) ≡ [] → ⊥
among [] n node a f e = none_some a f
among (r ∷ es) n node a f e = go (eq_by_cmp attachment_key_cmp (n, node) r.0) refl (r.0.0 == n) refl f e (among es n node a)
  where
    go : (b : Bool) → eq_by_cmp attachment_key_cmp (n, node) r.0 ≡ b → (d : Bool) → (r.0.0 == n) ≡ d → cond b (Some r.1) (fin.find attachment_key_cmp (n, node) es) ≡ Some a
        → map (λ e. e.1) (cond d (r ∷ filter (λ e. e.0.0 == n) es) (filter (λ e. e.0.0 == n) es)) ≡ []
        → (fin.find attachment_key_cmp (n, node) es ≡ Some a → map (λ e. e.1) (filter (λ e. e.0.0 == n) es) ≡ [] → ⊥) → ⊥
    go b t true u f e more = absurd (cc)
    go true t false u f e more = let here : (n, node) ≡ r.0 = place_exact (n, node) r.0 (tied _ t) in let y : r.0.0 ≡ n = sym (ap (λ (p : AttachmentKey). p.0) here) in absurd (cc (eq-eqb r.0.0 n y, u))
    go false t false u f e more = more f e

unattached : (s : State) (n : ℕ) (node : Text) (a : Attachment) → attached s n ≡ [] → fin.get s.attachments (n, node) ≡ Some a → ⊥
unattached s n node a none some = among (fin.entries s.attachments) n node a (sym (fin.get-entries s.attachments (n, node)) ∙ some) none

still_stands : (s : State) (n : ℕ) (node : Text) (a : Attachment) (k : ℕ) (v : Volume) → attached s k ≡ [] → fin.get s.attachments (n, node) ≡ Some a → fin.get s.volumes n ≡ Some v → fin.get (fin.remove s.volumes k) n ≡ Some v
still_stands s n node a k v none here stands =
    fin.get-remove nat_cmp_total s.volumes k n
    ∙ elim (eq_by_cmp nat_cmp n k) as (λ b. eq_by_cmp nat_cmp n k ≡ b → cond b None (fin.get s.volumes n) ≡ Some v) [
      | true ↦ λ t. absurd (unattached s k node a none (subst (λ (j : ℕ). fin.get s.attachments (j, node) ≡ Some a) (fin.nat_cmp-IsAntisymmetric n k (tied _ t)) here))
      | false ↦ λ t. stands
    ] refl

fewer : (s : State) (k : ℕ) → fin.len (fin.remove s.volumes k) ≤ fin.len s.volumes
fewer s k = subst (λ n. n ≤ fin.len s.volumes) (sym (fin.len-remove nat_cmp_total s.volumes k)) (elim (fin.contains_key s.volumes k) as (λ b. cond b (fin.len s.volumes - 1) (fin.len s.volumes) ≤ fin.len s.volumes) [ true ↦ omega arith | false ↦ omega arith ])

-- a pool does not use more bytes after a removal
fewer_bytes : (s : State) (k : ℕ) (pool : Text) → sum (sizes (changed s (RemoveVolume k)) pool) ≤ sum (sizes s pool)
fewer_bytes s k pool = go (fin.get s.volumes k) refl
  where
    go : (o : Option Volume) → fin.get s.volumes k ≡ o → sum (sizes (changed s (RemoveVolume k)) pool) ≤ sum (sizes s pool)
    go None e = subst (λ (m : fin.FinMap nat_cmp Volume). sum (sizes (record s { volumes = m }) pool) ≤ sum (sizes s pool)) (sym (not_there nat_cmp_total fin.nat_cmp-IsAntisymmetric s.volumes k e)) (omega arith)
    go (Some v) e = let parts = taken_sum s k v pool e in omega (arith, parts)

delete_keeps : (config : Config) (s : State) (k : ℕ) → IsInvariant config s → attached s k ≡ [] → IsInvariant config (changed s (RemoveVolume k))
delete_keeps config s k inv none = record {
  next = inv.next;
  volumes = λ n v e. inv.volumes n v (removed nat_cmp_total fin.nat_cmp-IsAntisymmetric s.volumes k n v e).1;
  names = λ m n v w p q same. inv.names m n v w (removed nat_cmp_total fin.nat_cmp-IsAntisymmetric s.volumes k m v p).1 (removed nat_cmp_total fin.nat_cmp-IsAntisymmetric s.volumes k n w q).1 same;
  rooms = λ p has. let a = fewer_bytes s k p.name in let b = inv.rooms p has in omega (arith, a, b);
  attachments = λ n node a e. let old = inv.attachments n node a e in record { at = old.at; known = old.known; volume = old.volume; stands = still_stands s n node a k old.volume none e old.stands; cap = old.cap };
  beside = inv.beside;
  nodes = inv.nodes;
  few = let a = fewer s k in let b = inv.few in omega (arith, a, b);
}

delete_fits : (config : Config) (s : State) (n : ℕ) (rows : List Attachment) (c : Change) → IsInvariant config s → attached s n ≡ rows → (delete_volume n rows).change ≡ Some c → IsFit config s c
delete_fits config s n [] c inv is e = subst (IsFit config s) (same_some _ _ e) (is, delete_keeps config s n inv is)
delete_fits config s n (a ∷ rows) c inv is e = absurd (none_some c e)

pub delete_sound : (config : Config) (r : DeleteVolume) → IsSound config (λ s. delete s r)
delete_sound config r = sound_by config (λ s. delete s r) (λ s c inv e. go s c inv (volume_at s (number_of_id r.volume_id)) e)
  where
    go : (s : State) (c : Change) → IsInvariant config s → (o : Option (ℕ × Volume)) → (delete_found s o).change ≡ Some c → IsFit config s c
    go s c inv None e = absurd (none_some c e)
    go s c inv (Some found) e = delete_fits config s found.0 (attached s found.0) c inv refl e
