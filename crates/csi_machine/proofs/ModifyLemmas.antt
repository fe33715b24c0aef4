-- Changing a volume's mutable parameters keeps the invariant, and doing it again changes nothing.
use Rattle.std.proofs.Common.{◌≡◌, ◌∙◌, ◌⊎◌, inl, inr, ap, sym, subst, cond, arith, ℕ, ◌≤◌, nat_lt, Bool, true, false, Option, Some, None, IsSome, refl, Result, Ok}
use Rattle.std.specs.Cmp.{nat_cmp_total}
use Rattle.std.specs.FinMap as fin
use Rattle.std.specs.Ordering.{is_eq}
use Rattle.std.proofs.lemmas.Bool.{ltb-false}
use Rattle.std.proofs.lemmas.Cmp.{tied_itself}
use Rattle.csi_types.specs.declared.reason.Reason.{Reason}
use Rattle.csi_types.specs.declared.responses.Response.{Response}
use Rattle.csi_types.specs.Checks.{map_bytes}
use Rattle.csi_types.specs.Maps.{TextMap}
use Rattle.csi_types.specs.Overlays.{has_each, laid_over}
use Rattle.csi_types.specs.declared.limits.TheConstants.{MAX_MAP_BYTES}
use Rattle.csi_types.specs.declared.reason.Reason.TheVariants.{MutableTooLarge}
use Rattle.csi_types.specs.declared.requests.Modify.{Modify}
use Rattle.csi_types.specs.declared.responses.Response.TheVariants as response
use Rattle.csi_config.specs.declared.config.Config.{Config}
use Rattle.csi_keeper.specs.declared.change.Change.{Change}
use Rattle.csi_keeper.specs.declared.change.Change.TheVariants.{SetMutable}
use Rattle.csi_keeper.specs.declared.volume.Volume.{Volume}
use Rattle.csi_keeper.specs.Capability.{has_key}
use Rattle.csi_keeper.specs.Invariant.{IsInvariant, IsVolume}
use Rattle.csi_keeper.specs.State.{State, changed, with_mutable, mutable_set}
use Rattle.csi_keeper.specs.facts.Finite.{none_some, same_some}
use Rattle.csi_keeper.specs.facts.Mutable.{stood, stands, as_many, same_sum}
use Rattle.csi_machine.specs.declared.plan.Plan.{Plan}
use Rattle.csi_rules.specs.Ids.{number_of_id}
use Rattle.csi_machine.specs.Plan.{refuse, respond, make}
use Rattle.csi_rules.specs.Finding.{numbered, volume_at}
use Rattle.csi_machine.specs.Modify.{modify, modify_found, modify_own, modify_to}
use Rattle.csi_machine.proofs.PlanLemmas.{IsFit}

-- It keeps the invariant.

module _ (config : Config) (s : State) (n : ℕ) (m : TextMap) where
  volume_kept : (q : ℕ) (v w : Volume) → map_bytes m ≤ MAX_MAP_BYTES → IsVolume config s.next q v → (w ≡ v) ⊎ ((q ≡ n) × (w ≡ with_mutable m v)) → IsVolume config s.next q w
  volume_kept q v w small old is = elim is as (λ _. IsVolume config s.next q w) [
    | inl a ↦ subst (IsVolume config s.next q) (sym a) old
    | inr b ↦ subst (IsVolume config s.next q) (sym b.1)
        (record { number = old.number; given = old.given; name = old.name; pool = old.pool; bytes = old.bytes; caps = old.caps; params = old.params; mutable = small })
  ]

  name_kept : (q : ℕ) (v w : Volume) → (w ≡ v) ⊎ ((q ≡ n) × (w ≡ with_mutable m v)) → w.name ≡ v.name
  name_kept q v w is = elim is as (λ _. w.name ≡ v.name) [ inl a ↦ ap (λ (x : Volume). x.name) a | inr b ↦ ap (λ (x : Volume). x.name) b.1 ]

  caps_kept : (q : ℕ) (v w : Volume) → (w ≡ v) ⊎ ((q ≡ n) × (w ≡ with_mutable m v)) → w.caps ≡ v.caps
  caps_kept q v w is = elim is as (λ _. w.caps ≡ v.caps) [ inl a ↦ ap (λ (x : Volume). x.caps) a | inr b ↦ ap (λ (x : Volume). x.caps) b.1 ]

  mutable_keeps : map_bytes m ≤ MAX_MAP_BYTES → IsInvariant config s → IsInvariant config (changed s (SetMutable n m))
  mutable_keeps small inv = record {
    next = inv.next;
    volumes = λ q w e. let old = stood s.volumes n m q w e in volume_kept q old.0 w small (inv.volumes q old.0 old.1) old.2;
    names = λ i j x y p q same.
        let a = stood s.volumes n m i x p in
        let b = stood s.volumes n m j y q in
        inv.names i j a.0 b.0 a.1 b.1 (sym (name_kept i a.0 x a.2) ∙ same ∙ name_kept j b.0 y b.2);
    rooms = λ p has. let a = same_sum s n m p.name in let b = inv.rooms p has in omega (arith, a, b);
    attachments = λ q node a e.
        let old = inv.attachments q node a e in
        let now = stands s.volumes n m q old.volume old.stands in
        record { at = old.at; known = old.known; volume = now.0; stands = now.1; cap = ap (λ ks. has_key ks (Some a.cap)) (caps_kept q old.volume now.0 now.2) ∙ old.cap };
    beside = inv.beside;
    nodes = inv.nodes;
    few = let a = as_many s.volumes n m in let b = inv.few in omega (arith, a, b);
  }

-- a plan to change the parameters: the result is small enough, and the volume did not have all of it
pub record IsModified (n : ℕ) (own given : TextMap) (c : Change) : Type 0 where
  pub is : c ≡ SetMutable n (laid_over own given)
  pub small : nat_lt MAX_MAP_BYTES (map_bytes (laid_over own given)) ≡ false

modified : (n : ℕ) (own given : TextMap) (c : Change) → (modify_own n own given).change ≡ Some c → IsModified n own given c
modified n own given c e = go (nat_lt MAX_MAP_BYTES (map_bytes (laid_over own given))) refl (has_each own given) e
  where
    go : (b : Bool) → nat_lt MAX_MAP_BYTES (map_bytes (laid_over own given)) ≡ b → (h : Bool)
        → (cond b (refuse MutableTooLarge) (cond h (respond response.Modify) (make response.Modify (SetMutable n (laid_over own given))))).change ≡ Some c → IsModified n own given c
    go true t h k = absurd (none_some c k)
    go false t true k = absurd (none_some c k)
    go false t false k = record { is = sym (same_some _ _ k); small = t }

some_there : (o : Option Volume) (v : Volume) → o ≡ Some v → IsSome o
some_there o v e = subst IsSome (sym e) refl

-- a modification is allowed, and keeps the invariant
pub modify_fits : (config : Config) (r : Modify) (s : State) (c : Change) → IsInvariant config s → (modify s r).change ≡ Some c → IsFit config s c
modify_fits config r s c inv e = by_number (number_of_id r.volume_id) e
  where
    by_volume : (n : ℕ) (o : Option Volume) → fin.get s.volumes n ≡ o → (modify_found r (numbered n o)).change ≡ Some c → IsFit config s c
    by_volume n None there h = absurd (none_some c h)
    by_volume n (Some v) there h =
        let m = modified n v.mutable r.mutable c h in
        subst (IsFit config s) (sym m.is) (some_there _ v there, mutable_keeps config s n (laid_over v.mutable r.mutable) (ltb-false MAX_MAP_BYTES _ m.small) inv)

    by_number : (o : Option ℕ) → (modify_found r (volume_at s o)).change ≡ Some c → IsFit config s c
    by_number None h = absurd (none_some c h)
    by_number (Some n) h = by_volume n (fin.get s.volumes n) refl h

-- A second modification changes nothing.

-- an overlaid map has the overlay's values, and the same overlay changes nothing the second time; a map
-- has its own values
pub record AreLaid : Type 0 where
  pub given : (m given : TextMap) → has_each (laid_over m given) given ≡ true
  pub again : (m given : TextMap) → laid_over (laid_over m given) given ≡ laid_over m given
  pub own : (m : TextMap) → has_each m m ≡ true

-- the volume with the number, after the change
modified_there : (s : State) (n : ℕ) (m : TextMap) (v : Volume) → fin.get s.volumes n ≡ Some v → fin.get (changed s (SetMutable n m)).volumes n ≡ Some (with_mutable m v)
modified_there s n m v e =
    ap (λ (o : Option Volume). fin.get (mutable_set s.volumes n m o) n) e
    ∙ fin.get-insert nat_cmp_total s.volumes n (with_mutable m v) n
    ∙ ap (λ b. cond b (Some (with_mutable m v)) (fin.get s.volumes n)) (ap is_eq (tied_itself nat_cmp_total n))

-- the plan for a volume that has the given parameters already
done_with : AreLaid → (n : ℕ) (own given : TextMap) → nat_lt MAX_MAP_BYTES (map_bytes (laid_over own given)) ≡ false → modify_own n (laid_over own given) given ≡ respond response.Modify
done_with laws n own given small =
    let laid = laid_over own given in
    ap (modify_to n laid given) (laws.again own given)
    ∙ ap (λ b. cond b (refuse MutableTooLarge) (cond (has_each laid given) (respond response.Modify) (make response.Modify (SetMutable n laid)))) small
    ∙ ap (λ b. cond b (respond response.Modify) (make response.Modify (SetMutable n laid))) (laws.given own given)

-- the plan that made a change, without it
quiet_by : (n : ℕ) (own given : TextMap) (c : Change) → (modify_own n own given).change ≡ Some c → (modify_own n own given).outcome ≡ Ok response.Modify
quiet_by n own given c e = go (nat_lt MAX_MAP_BYTES (map_bytes (laid_over own given))) (has_each own given) e
  where
    go : (b h : Bool) → (cond b (refuse MutableTooLarge) (cond h (respond response.Modify) (make response.Modify (SetMutable n (laid_over own given))))).change ≡ Some c
        → (cond b (refuse MutableTooLarge) (cond h (respond response.Modify) (make response.Modify (SetMutable n (laid_over own given))))).outcome ≡ Ok response.Modify
    go true h k = absurd (none_some c k)
    go false true k = absurd (none_some c k)
    go false false k = refl

-- an answer without a change
abbrev pub reported_still : Result Response Reason → Plan
reported_still o = record { outcome = o; change = None }

-- the plan after a change has the same answer, and makes no change
pub modify_quiet : AreLaid → (r : Modify) (s : State) (c : Change) → (modify s r).change ≡ Some c → modify (changed s c) r ≡ reported_still (modify s r).outcome
modify_quiet laws r s c e = by_number (number_of_id r.volume_id) e
  where
    by_volume : (n : ℕ) (o : Option Volume) → fin.get s.volumes n ≡ o → (modify_found r (numbered n o)).change ≡ Some c
        → modify_found r (numbered n (fin.get (changed s c).volumes n)) ≡ reported_still (modify_found r (numbered n o)).outcome
    by_volume n None there h = absurd (none_some c h)
    by_volume n (Some v) there h =
        let m = modified n v.mutable r.mutable c h in
        let laid = laid_over v.mutable r.mutable in
        let now : modify_found r (numbered n (fin.get (changed s (SetMutable n laid)).volumes n)) ≡ respond response.Modify =
        ap (λ (o : Option Volume). modify_found r (numbered n o)) (modified_there s n laid v there) ∙ done_with laws n v.mutable r.mutable m.small in
        subst (λ (d : Change). modify_found r (numbered n (fin.get (changed s d).volumes n)) ≡ respond response.Modify) (sym m.is) now
        ∙ ap reported_still (sym (quiet_by n v.mutable r.mutable c h))

    by_number : (o : Option ℕ) → (modify_found r (volume_at s o)).change ≡ Some c → modify_found r (volume_at (changed s c) o) ≡ reported_still (modify_found r (volume_at s o)).outcome
    by_number None h = absurd (none_some c h)
    by_number (Some n) h = by_volume n (fin.get s.volumes n) refl h
