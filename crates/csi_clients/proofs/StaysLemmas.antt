-- The change that a request made stays, while other requests leave its object alone.
use Rattle.std.proofs.Common.{◌≡◌, ◌≢◌, ◌∙◌, ◌⊎◌, inl, inr, ap, ap₂, sym, subst, cond, refl, arith, ℕ, suc, ◌≤◌, ◌==◌, List, [], ◌∷◌, find, Bool, true, false, not, ◌&&◌, nat_lt, nat_le, Option, Some, None, Result, Ok, Err, eqb-true}
use Rattle.std.specs.Cmp.{nat_cmp_total}
use Rattle.std.specs.FinMap as fin
use Rattle.std.specs.List.{AllByRecursion}
use Rattle.std.specs.Option.{option_or}
use Rattle.std.proofs.lemmas.Bool.{and_from, and_parts}
use Rattle.std.proofs.lemmas.Bool.Decides.{leb_tells}
use Rattle.csi_types.specs.Checks.{checked, map_bytes}
use Rattle.csi_types.specs.Maps.{TextMap, same_map}
use Rattle.csi_types.specs.Names.{is_empty}
use Rattle.csi_types.specs.Overlays.{has_each, laid_over}
use Rattle.csi_types.specs.declared.limits.TheConstants.{MAX_MAP_BYTES, MAX_NUMBER, MAX_VOLUMES}
use Rattle.csi_types.specs.declared.reason.Reason.{Reason}
use Rattle.csi_types.specs.declared.reason.Reason.TheVariants.{VolumeNotFound, VolumeNotCompatible, NoRoom, OutOfRange, TooManyVolumes, NumbersUsedUp, NodeNotFound, PublishedElsewhere, NodeFull, CapabilityNotOfVolume, MutableTooLarge, VolumeInUse}
use Rattle.csi_types.specs.declared.requests.CreateVolume.{CreateVolume}
use Rattle.csi_types.specs.declared.requests.DeleteVolume.{DeleteVolume}
use Rattle.csi_types.specs.declared.requests.Modify.{Modify}
use Rattle.csi_types.specs.declared.requests.Publish.{Publish}
use Rattle.csi_types.specs.declared.requests.Request.{Request}
use Rattle.csi_types.specs.declared.requests.Request.TheVariants as request
use Rattle.csi_types.specs.declared.requests.Unpublish.{Unpublish}
use Rattle.csi_types.specs.declared.requests.Validate.{Validate}
use Rattle.csi_types.specs.declared.responses.Response.{Response}
use Rattle.csi_types.specs.declared.responses.Response.TheVariants as response
use Rattle.csi_config.specs.declared.config.Config.{Config}
use Rattle.csi_config.specs.declared.nodes.Node.{Node}
use Rattle.csi_config.specs.declared.pools.Pool.{Pool}
use Rattle.csi_keeper.specs.Capability.{has_key, have_keys}
use Rattle.csi_keeper.specs.Invariant.{IsInvariant}
use Rattle.csi_keeper.specs.Lookup.{node_of}
use Rattle.csi_keeper.specs.State.{State, AttachmentKey, attached, changed, named, with_mutable}
use Rattle.csi_keeper.specs.Texts.{Text}
use Rattle.csi_keeper.specs.declared.capability.CapKey.{CapKey}
use Rattle.csi_keeper.specs.declared.change.Change.{Change}
use Rattle.csi_keeper.specs.declared.change.Change.TheVariants.{AddVolume, RemoveVolume, Attach, Detach, DetachAll, SetMutable}
use Rattle.csi_keeper.specs.declared.volume.Attachment.{Attachment}
use Rattle.csi_keeper.specs.declared.volume.Volume.{Volume}
use Rattle.csi_keeper.specs.facts.Finite.{none_some, same_some, inserted, insert_other, removed}
use Rattle.csi_keeper.specs.facts.Mutable.{stood, stands}
use Rattle.csi_keeper.specs.facts.Orders.{place_total, place_exact}
use Rattle.csi_machine.specs.declared.plan.Plan.{Plan}
use Rattle.csi_machine.specs.calls.Create.{create, create_named, again_at, place, place_in, is_compatible}
use Rattle.csi_machine.specs.calls.Delete.{delete, delete_found, delete_volume}
use Rattle.csi_rules.specs.Conflict.{has_conflict}
use Rattle.csi_machine.specs.calls.Publish.{Target, publish, publish_found, publish_node, publish_at, publish_key, attach, requested_key, wanted, is_at, target_in}
use Rattle.csi_machine.specs.calls.Unpublish.{unpublish, unpublish_number, detach_all, detach_one}
use Rattle.csi_machine.specs.Modify.{modify, modify_found, modify_own, modify_to}
use Rattle.csi_machine.specs.Plan.{after, refuse, respond, make}
use Rattle.csi_machine.specs.Response.{publication}
use Rattle.csi_machine.specs.Retry.{after_once}
use Rattle.csi_machine.specs.Step.{is_read, moved, plan, step}
use Rattle.csi_machine.specs.Validate.{validate, validate_found, validate_volume}
use Rattle.csi_machine.specs.Verdicts.{Report, Says, Denies, reported_of}
use Rattle.csi_rules.specs.Choice.{Room, rooms, choice, count}
use Rattle.csi_rules.specs.Finding.{numbered, volume_at}
use Rattle.csi_rules.specs.Ids.{number_of_id}
use Rattle.csi_rules.specs.Info.{info_at, segments_at}
use Rattle.csi_rules.specs.Size.{size, has_size}
use Rattle.csi_rules.specs.Topology.{is_reachable, terms}
use Rattle.csi_rules.specs.facts.Ids.{named_id}
use Rattle.csi_clients.specs.Objects.{Agree, LeavesAlone, AllLeaveAlone}
use Rattle.csi_clients.proofs.ChangeLemmas.{Does, Adds, Removes, Attaches, Detaches, DetachesAll, Sets, does, moves, plan_still}
use Rattle.csi_clients.proofs.RowLemmas.{named_from, named_is, none_of, remove_other, found_at, none_rows, unattached}

-- ---- the conditions of a change on the State

abbrev pub IsFree : State → Change → Type 0
IsFree s (AddVolume v) = fin.get s.volumes v.number ≡ None
IsFree s (RemoveVolume n) = attached s n ≡ []
IsFree s (Attach n a) = fin.get s.attachments (n, a.node) ≡ None
IsFree s (Detach n node) = Unit {0}
IsFree s (DetachAll n) = Unit {0}
IsFree s (SetMutable n m) = Unit {0}

pub next_free : (config : Config) (s : State) → IsInvariant config s → fin.get s.volumes s.next ≡ None
next_free config s inv = none_of _ (λ v e. let b = (inv.volumes s.next v e).given in absurd (omega (arith, b.1)))

pub is_free : (config : Config) (s : State) (q : Request) (c : Change) → IsInvariant config s → Does s q c → IsFree s c
is_free config s q c inv (Adds r v is change number name) = subst (IsFree s) (sym change) (ap (fin.get s.volumes) number ∙ next_free config s inv)
is_free config s q c inv (Removes r n v is change number there none) = subst (IsFree s) (sym change) none
is_free config s q c inv (Attaches r n a is change number node vacant) = subst (IsFree s) (sym change) vacant
is_free config s q c inv (Detaches r n a is change number there) = subst (IsFree s) (sym change) tt
is_free config s q c inv (DetachesAll r n is change number none some) = subst (IsFree s) (sym change) tt
is_free config s q c inv (Sets r n v is change number there has) = subst (IsFree s) (sym change) tt

-- ---- a volume after a change

-- the volume with a number is unchanged, or has other mutable parameters
pub record Stood (s : State) (c : Change) (n : ℕ) (v : Volume) : Type 0 where
  pub volume : Volume
  pub there : fin.get (changed s c).volumes n ≡ Some volume
  pub is : (volume ≡ v) ⊎ ((m : TextMap) × (c ≡ SetMutable n m) × (volume ≡ with_mutable m v))

pub stood_by : (s : State) (c : Change) (n : ℕ) (v : Volume) → IsFree s c → (c ≡ RemoveVolume n → ⊥) → fin.get s.volumes n ≡ Some v → Stood s c n v
stood_by s (AddVolume u) n v free far e = record {
  volume = v;
  there = insert_other nat_cmp_total fin.nat_cmp-IsAntisymmetric s.volumes u.number u n (λ is. none_some v (sym free ∙ ap (fin.get s.volumes) (sym is) ∙ e)) ∙ e;
  is = inl refl;
}
stood_by s (RemoveVolume k) n v free far e = record {
  volume = v;
  there = remove_other nat_cmp_total fin.nat_cmp-IsAntisymmetric s.volumes k n (λ is. far (ap RemoveVolume (sym is))) ∙ e;
  is = inl refl;
}
stood_by s (Attach k a) n v free far e = record { volume = v; there = e; is = inl refl }
stood_by s (Detach k node) n v free far e = record { volume = v; there = e; is = inl refl }
stood_by s (DetachAll k) n v free far e = record { volume = v; there = e; is = inl refl }
stood_by s (SetMutable k m) n v free far e =
    let w = stands s.volumes k m n v e in
    record {
      volume = w.0;
      there = w.1;
      is = elim w.2 as (λ _. (w.0 ≡ v) ⊎ ((x : TextMap) × (SetMutable k m ≡ SetMutable n x) × (w.0 ≡ with_mutable x v))) [
        | inl a ↦ inl a
        | inr b ↦ inr (m, ap (λ (j : ℕ). SetMutable j m) (sym b.0), b.1)
      ];
    }

same_name : (s : State) (c : Change) (n : ℕ) (v : Volume) (w : Stood s c n v) → w.volume.name ≡ v.name
same_name s c n v w = elim w.is as (λ _. w.volume.name ≡ v.name) [ inl a ↦ ap (λ (x : Volume). x.name) a | inr b ↦ ap (λ (x : Volume). x.name) b.2 ]

-- a number without a volume stays without one
still_none : (s : State) (c : Change) (n : ℕ) → ((u : Volume) → c ≡ AddVolume u → u.number ≡ n → ⊥) → fin.get s.volumes n ≡ None → fin.get (changed s c).volumes n ≡ None
still_none s (AddVolume u) n far e = insert_other nat_cmp_total fin.nat_cmp-IsAntisymmetric s.volumes u.number u n (λ is. far u refl (sym is)) ∙ e
still_none s (RemoveVolume k) n far e = none_of _ (λ w there. none_some w (sym e ∙ (removed nat_cmp_total fin.nat_cmp-IsAntisymmetric s.volumes k n w there).1))
still_none s (Attach k a) n far e = e
still_none s (Detach k node) n far e = e
still_none s (DetachAll k) n far e = e
still_none s (SetMutable k m) n far e = none_of _ (λ w there. let old = stood s.volumes k m n w there in none_some old.0 (sym e ∙ old.1))

-- ---- attachments after a change

pub got_kept : (s : State) (k : ℕ) (q : AttachmentKey) → fin.get (fin.retain_keys s.attachments (λ p. not (p.0 == k))) q ≡ cond (not (q.0 == k)) (fin.get s.attachments q) None
got_kept s k q = fin.get-retain_keys s.attachments (λ p. not (p.0 == k)) q (λ x t. sym (ap (λ (p : AttachmentKey). not (p.0 == k)) (place_exact q x t)))

retained : (s : State) (k : ℕ) (q : AttachmentKey) (a : Attachment) → fin.get (fin.retain_keys s.attachments (λ p. not (p.0 == k))) q ≡ Some a → fin.get s.attachments q ≡ Some a
retained s k q a e = go (not (q.0 == k)) (sym (got_kept s k q) ∙ e)
  where
    go : (b : Bool) → cond b (fin.get s.attachments q) None ≡ Some a → fin.get s.attachments q ≡ Some a
    go true h = h
    go false h = absurd (none_some a h)

pub other_number : (n k : ℕ) → (n ≡ k → ⊥) → not (n == k) ≡ true
other_number n k far = go (n == k) refl
  where
    go : (b : Bool) → (n == k) ≡ b → not b ≡ true
    go true t = absurd (far (eqb-true n k t))
    go false t = refl

still_attached : (s : State) (c : Change) (n : ℕ) (node : Text) (a : Attachment) → IsFree s c → (c ≡ Detach n node → ⊥) → (c ≡ DetachAll n → ⊥)
    → fin.get s.attachments (n, node) ≡ Some a → fin.get (changed s c).attachments (n, node) ≡ Some a
still_attached s (AddVolume u) n node a free one all e = e
still_attached s (RemoveVolume k) n node a free one all e = e
still_attached s (Attach k b) n node a free one all e =
    insert_other place_total place_exact s.attachments (k, b.node) b (n, node) (λ is. none_some a (sym free ∙ ap (fin.get s.attachments) (sym is) ∙ e)) ∙ e
still_attached s (Detach k d) n node a free one all e =
    remove_other place_total place_exact s.attachments (k, d) (n, node) (λ is. one (ap (λ (q : AttachmentKey). Detach q.0 q.1) (sym is))) ∙ e
still_attached s (DetachAll k) n node a free one all e =
    got_kept s k (n, node) ∙ ap (λ b. cond b (fin.get s.attachments (n, node)) None) (other_number n k (λ is. all (ap DetachAll (sym is)))) ∙ e
still_attached s (SetMutable k m) n node a free one all e = e

still_vacant : (s : State) (c : Change) (n : ℕ) (node : Text) → ((a : Attachment) → c ≡ Attach n a → a.node ≡ node → ⊥) → fin.get s.attachments (n, node) ≡ None → fin.get (changed s c).attachments (n, node) ≡ None
still_vacant s (AddVolume u) n node far e = e
still_vacant s (RemoveVolume k) n node far e = e
still_vacant s (Attach k b) n node far e =
    insert_other place_total place_exact s.attachments (k, b.node) b (n, node)
    (λ is. far b (ap (λ (q : AttachmentKey). Attach q.0 b) (sym is)) (ap (λ (q : AttachmentKey). q.1) (sym is))) ∙ e
still_vacant s (Detach k d) n node far e = none_of _ (λ a there. none_some a (sym e ∙ (removed place_total place_exact s.attachments (k, d) (n, node) a there).1))
still_vacant s (DetachAll k) n node far e = none_of _ (λ a there. none_some a (sym e ∙ retained s k (n, node) a there))
still_vacant s (SetMutable k m) n node far e = e

still_unattached : (s : State) (c : Change) (n : ℕ) → ((a : Attachment) → c ≡ Attach n a → ⊥) → attached s n ≡ [] → attached (changed s c) n ≡ []
still_unattached s (AddVolume u) n far e = e
still_unattached s (RemoveVolume k) n far e = e
still_unattached s (Attach k b) n far e = none_rows (changed s (Attach k b)) n (λ q a h is. elim (inserted place_total place_exact s.attachments (k, b.node) b q a h) as (λ _. ⊥) [
  | inl x ↦ let at : k ≡ n = sym (ap (λ (p : AttachmentKey). p.0) x.0) ∙ is in far b (ap (λ (j : ℕ). Attach j b) at)
  | inr old ↦ unattached s n q.1 a e (subst (λ (j : ℕ). fin.get s.attachments (j, q.1) ≡ Some a) is old)
])
still_unattached s (Detach k d) n far e =
    none_rows (changed s (Detach k d)) n
    (λ q a h is. unattached s n q.1 a e (subst (λ (j : ℕ). fin.get s.attachments (j, q.1) ≡ Some a) is (removed place_total place_exact s.attachments (k, d) q a h).1))
still_unattached s (DetachAll k) n far e =
    none_rows (changed s (DetachAll k)) n (λ q a h is. unattached s n q.1 a e (subst (λ (j : ℕ). fin.get s.attachments (j, q.1) ≡ Some a) is (retained s k q a h)))
still_unattached s (SetMutable k m) n far e = e

-- ---- plans that are no answer without a change

refuse_not : (q : Reason) (x : Response) → refuse q ≡ respond x → ⊥
refuse_not q x h = let e : ◌≡◌ {A = Result Response Reason} (Err q) (Ok x) = ap (λ (p : Plan). p.outcome) h in absurd (cc (e))

make_not : (y x : Response) (c : Change) → make y c ≡ respond x → ⊥
make_not y x c h = none_some c (sym (ap (λ (p : Plan). p.change) h))

-- ---- CreateVolume

record KeepsNamed (s : State) (c : Change) (r : CreateVolume) : Type 0 where
  pub gone : (n : ℕ) (v : Volume) → fin.get s.volumes n ≡ Some v → v.name ≡ r.name → c ≡ RemoveVolume n → ⊥
  pub set : (n : ℕ) (v : Volume) (m : TextMap) → fin.get s.volumes n ≡ Some v → v.name ≡ r.name → c ≡ SetMutable n m → has_each v.mutable r.mutable ≡ true → has_each m r.mutable ≡ true

place_not : (rs : List Room) (n : ℕ) (r : CreateVolume) (o : Option ℕ) (x : Response) → place rs n r o ≡ respond x → ⊥
place_not rs n r None x h = refuse_not OutOfRange x h
place_not rs n r (Some b) x h = go (nat_le MAX_VOLUMES (count rs)) (nat_le MAX_NUMBER n) (choice rs (terms r.topology) b) h
  where
    go : (many full : Bool) (o : Option Pool) → cond many (refuse TooManyVolumes) (cond full (refuse NumbersUsedUp) (place_in r n b o)) ≡ respond x → ⊥
    go true full o k = refuse_not TooManyVolumes x k
    go false true o k = refuse_not NumbersUsedUp x k
    go false false None k = refuse_not NoRoom x k
    go false false (Some p) k = make_not _ x _ k

again_set : (segments : TextMap) (r : CreateVolume) (v : Volume) (m : TextMap) (x : Response) → (has_each v.mutable r.mutable ≡ true → has_each m r.mutable ≡ true)
    → again_at segments r v ≡ respond x → again_at segments r (with_mutable m v) ≡ respond x
again_set segments r v m x more h = go (is_compatible segments v r) refl h
  where
    go : (b : Bool) → is_compatible segments v r ≡ b → cond b (respond (response.Create (Some (info_at segments v)))) (refuse VolumeNotCompatible) ≡ respond x → again_at segments r (with_mutable m v) ≡ respond x
    go false t k = absurd (refuse_not VolumeNotCompatible x k)
    go true t k =
        let rest = is_reachable segments r.topology && has_size v.bytes r.range && have_keys v.caps r.capabilities && same_map v.params r.parameters in
        let two = and_parts rest (has_each v.mutable r.mutable) t in
        let now : is_compatible segments (with_mutable m v) r ≡ true = and_from rest (has_each m r.mutable) two.0 (more two.1) in
        ap (λ b. cond b (respond (response.Create (Some (info_at segments v)))) (refuse VolumeNotCompatible)) now ∙ k

create_stays : (config : Config) (s : State) (r : CreateVolume) (c : Change) (x : Response) → IsInvariant config (changed s c) → IsFree s c → KeepsNamed s c r
    → create config s r ≡ respond x → create config (changed s c) r ≡ respond x
create_stays config s r c x inv free keeps h = go (named s r.name) refl h
  where
    at : (n : ℕ) (v w : Volume) → fin.get s.volumes n ≡ Some v → v.name ≡ r.name → (w ≡ v) ⊎ ((m : TextMap) × (c ≡ SetMutable n m) × (w ≡ with_mutable m v))
        → again_at (segments_at config v.pool) r v ≡ respond x → again_at (segments_at config w.pool) r w ≡ respond x
    at n v w there named_so is k = elim is as (λ _. again_at (segments_at config w.pool) r w ≡ respond x) [
      | inl a ↦ subst (λ (y : Volume). again_at (segments_at config y.pool) r y ≡ respond x) (sym a) k
      | inr b ↦ subst (λ (y : Volume). again_at (segments_at config y.pool) r y ≡ respond x) (sym b.2)
          (again_set (segments_at config v.pool) r v b.0 x (keeps.set n v b.0 there named_so b.1) k)
    ]

    go : (o : Option Volume) → named s r.name ≡ o → create_named config s r o ≡ respond x → create_named config (changed s c) r (named (changed s c) r.name) ≡ respond x
    go None e k = absurd (place_not (rooms config s) s.next r (size config.sizes r.range) x k)
    go (Some v) e k =
        let f = named_from s r.name v e in
        let w = stood_by s c f.number v free (keeps.gone f.number v f.stands f.is) f.stands in
        let found : named (changed s c) r.name ≡ Some w.volume = named_is config (changed s c) f.number w.volume r.name inv w.there (same_name s c f.number v w ∙ f.is) in
        ap (create_named config (changed s c) r) found ∙ at f.number v w.volume f.stands f.is w.is k

-- ---- DeleteVolume

volume_not : (n : ℕ) (rows : List Attachment) (x : Response) → delete_volume n rows ≡ respond x → ⊥
volume_not n [] x h = make_not _ x _ h
volume_not n (a ∷ rows) x h = refuse_not VolumeInUse x h

delete_stays : (s : State) (r : DeleteVolume) (c : Change) (x : Response) → ((n : ℕ) → number_of_id r.volume_id ≡ Some n → (u : Volume) → c ≡ AddVolume u → u.number ≡ n → ⊥)
    → delete s r ≡ respond x → delete (changed s c) r ≡ respond x
delete_stays s r c x keeps h = by_number (number_of_id r.volume_id) refl h
  where
    by_volume : (n : ℕ) → number_of_id r.volume_id ≡ Some n → (o : Option Volume) → fin.get s.volumes n ≡ o → delete_found s (numbered n o) ≡ respond x
        → delete_found (changed s c) (numbered n (fin.get (changed s c).volumes n)) ≡ respond x
    by_volume n is None e k = ap (λ (o : Option Volume). delete_found (changed s c) (numbered n o)) (still_none s c n (keeps n is) e) ∙ k
    by_volume n is (Some v) e k = absurd (volume_not n (attached s n) x k)

    by_number : (o : Option ℕ) → number_of_id r.volume_id ≡ o → delete_found s (volume_at s o) ≡ respond x → delete_found (changed s c) (volume_at (changed s c) o) ≡ respond x
    by_number None is k = k
    by_number (Some n) is k = by_volume n is (fin.get s.volumes n) refl k

-- ---- ControllerPublishVolume

attach_not : (t : Target) (mine : Attachment) (x : Response) → attach t mine ≡ respond x → ⊥
attach_not t mine x h = go (not (has_key t.caps (Some mine.cap))) (has_conflict mine t.attachments) (nat_le t.node.max_volumes t.there) h
  where
    go : (p q f : Bool) → cond p (refuse CapabilityNotOfVolume) (cond q (refuse PublishedElsewhere) (cond f (refuse NodeFull) (make (response.Publish (publication mine.readonly)) (Attach t.number mine)))) ≡ respond x → ⊥
    go true q f k = refuse_not CapabilityNotOfVolume x k
    go false true f k = refuse_not PublishedElsewhere x k
    go false false true k = refuse_not NodeFull x k
    go false false false k = make_not _ x _ k

publish_stays : (config : Config) (s : State) (r : Publish) (c : Change) (x : Response) → IsInvariant config s → IsInvariant config (changed s c) → IsFree s c
    → ((n : ℕ) → number_of_id r.volume_id ≡ Some n → (c ≡ Detach n r.node_id → ⊥) × (c ≡ DetachAll n → ⊥))
    → publish config s r ≡ respond x → publish config (changed s c) r ≡ respond x
publish_stays config s r c x inv later free keeps h = by_number (number_of_id r.volume_id) refl h
  where
    by_found : (n : ℕ) → number_of_id r.volume_id ≡ Some n → (v : Volume) (node : Node) (key : CapKey) → fin.get s.volumes n ≡ Some v → node_of config r.node_id ≡ Some node → requested_key r.capability ≡ Some key
        → (o : Option Attachment) → find (is_at r.node_id) (attached s n) ≡ o → publish_key (target_in s n v.caps r node) r o key ≡ respond x
        → publish_found config (changed s c) r (numbered n (fin.get (changed s c).volumes n)) ≡ respond x
    by_found n is v node key there known asked None found k = absurd (attach_not (target_in s n v.caps r node) (wanted r.node_id r.readonly key) x k)
    by_found n is v node key there known asked (Some a) found k =
        let t = changed s c in
        let w = stood_by s c n v free (λ gone. none_some a (sym (ap (find (is_at r.node_id)) (subst (IsFree s) gone free)) ∙ found)) there in
        let at : fin.get s.attachments (n, r.node_id) ≡ Some a = sym (found_at config s n r.node_id inv) ∙ found in
        let still : fin.get t.attachments (n, r.node_id) ≡ Some a = still_attached s c n r.node_id a free (keeps n is).0 (keeps n is).1 at in
        let now : find (is_at r.node_id) (attached t n) ≡ Some a = found_at config t n r.node_id later ∙ still in
        ap (λ (o : Option Volume). publish_found config t r (numbered n o)) w.there
        ∙ ap (publish_node t n w.volume.caps r) known
        ∙ ap (publish_at (target_in t n w.volume.caps r node) r) asked
        ∙ ap (λ (o : Option Attachment). publish_key (target_in t n w.volume.caps r node) r o key) now
        ∙ k

    by_key : (n : ℕ) → number_of_id r.volume_id ≡ Some n → (v : Volume) (node : Node) → fin.get s.volumes n ≡ Some v → node_of config r.node_id ≡ Some node
        → (o : Option CapKey) → requested_key r.capability ≡ o → publish_at (target_in s n v.caps r node) r o ≡ respond x
        → publish_found config (changed s c) r (numbered n (fin.get (changed s c).volumes n)) ≡ respond x
    by_key n is v node there known None asked k = absurd (refuse_not CapabilityNotOfVolume x k)
    by_key n is v node there known (Some key) asked k = by_found n is v node key there known asked (find (is_at r.node_id) (attached s n)) refl k

    by_node : (n : ℕ) → number_of_id r.volume_id ≡ Some n → (v : Volume) → fin.get s.volumes n ≡ Some v → (o : Option Node) → node_of config r.node_id ≡ o → publish_node s n v.caps r o ≡ respond x
        → publish_found config (changed s c) r (numbered n (fin.get (changed s c).volumes n)) ≡ respond x
    by_node n is v there None known k = absurd (refuse_not NodeNotFound x k)
    by_node n is v there (Some node) known k = by_key n is v node there known (requested_key r.capability) refl k

    by_volume : (n : ℕ) → number_of_id r.volume_id ≡ Some n → (o : Option Volume) → fin.get s.volumes n ≡ o → publish_found config s r (numbered n o) ≡ respond x
        → publish_found config (changed s c) r (numbered n (fin.get (changed s c).volumes n)) ≡ respond x
    by_volume n is None there k = absurd (refuse_not VolumeNotFound x k)
    by_volume n is (Some v) there k = by_node n is v there (node_of config r.node_id) refl k

    by_number : (o : Option ℕ) → number_of_id r.volume_id ≡ o → publish_found config s r (volume_at s o) ≡ respond x → publish_found config (changed s c) r (volume_at (changed s c) o) ≡ respond x
    by_number None is k = k
    by_number (Some n) is k = by_volume n is (fin.get s.volumes n) refl k

-- ---- ControllerUnpublishVolume

unpublish_stays : (config : Config) (s : State) (r : Unpublish) (c : Change) (x : Response) → IsInvariant config s → IsInvariant config (changed s c)
    → ((n : ℕ) → number_of_id r.volume_id ≡ Some n → (a : Attachment) → c ≡ Attach n a → (r.node_id ≢ []) × (a.node ≢ r.node_id))
    → unpublish s r ≡ respond x → unpublish (changed s c) r ≡ respond x
unpublish_stays config s r c x inv later keeps h = by_number (number_of_id r.volume_id) refl h
  where
    is_none : (t : Text) → is_empty t ≡ true → t ≡ []
    is_none [] e = refl
    is_none (b ∷ t) e = absurd (omega (arith, eqb-true _ _ e))

    all_of : (n : ℕ) → number_of_id r.volume_id ≡ Some n → r.node_id ≡ [] → (rows : List Attachment) → attached s n ≡ rows → detach_all n rows ≡ respond x → detach_all n (attached (changed s c) n) ≡ respond x
    all_of n is none [] e k = ap (detach_all n) (still_unattached s c n (λ a change. (keeps n is a change).0 none) e) ∙ k
    all_of n is none (a ∷ rows) e k = absurd (make_not _ x _ k)

    one_of : (n : ℕ) → number_of_id r.volume_id ≡ Some n → (o : Option Attachment) → find (is_at r.node_id) (attached s n) ≡ o → detach_one n r.node_id o ≡ respond x
        → detach_one n r.node_id (find (is_at r.node_id) (attached (changed s c) n)) ≡ respond x
    one_of n is None e k =
        let vacant : fin.get s.attachments (n, r.node_id) ≡ None = sym (found_at config s n r.node_id inv) ∙ e in
        ap (detach_one n r.node_id) (found_at config (changed s c) n r.node_id later ∙ still_vacant s c n r.node_id (λ a change. (keeps n is a change).1) vacant) ∙ k
    one_of n is (Some a) e k = absurd (make_not _ x _ k)

    by_node : (n : ℕ) → number_of_id r.volume_id ≡ Some n → (b : Bool) → is_empty r.node_id ≡ b → cond b (detach_all n (attached s n)) (detach_one n r.node_id (find (is_at r.node_id) (attached s n))) ≡ respond x
        → cond b (detach_all n (attached (changed s c) n)) (detach_one n r.node_id (find (is_at r.node_id) (attached (changed s c) n))) ≡ respond x
    by_node n is true e k = all_of n is (is_none r.node_id e) (attached s n) refl k
    by_node n is false e k = one_of n is (find (is_at r.node_id) (attached s n)) refl k

    by_number : (o : Option ℕ) → number_of_id r.volume_id ≡ o → unpublish_number s r.node_id o ≡ respond x → unpublish_number (changed s c) r.node_id o ≡ respond x
    by_number None is k = k
    by_number (Some n) is k = by_node n is (is_empty r.node_id) refl k

-- ---- ControllerModifyVolume

-- laws of `csi_types` on maps
pub record AreLaws : Type 0 where
  pub given : (m given : TextMap) → has_each (laid_over m given) given ≡ true
  pub kept : (m given : TextMap) → has_each m given ≡ true → laid_over m given ≡ m
  pub values : (m given : TextMap) (key : Text) → fin.get (laid_over m given) key ≡ option_or (fin.get given key) (fin.get m key)
  pub has : (m given : TextMap) → has_each m given ≡ true → (key value : Text) → fin.get given key ≡ Some value → fin.get m key ≡ Some value
  pub from : (m given : TextMap) → ((key value : Text) → fin.get given key ≡ Some value → fin.get m key ≡ Some value) → has_each m given ≡ true

-- a map that is laid over another one keeps the values on which a third map agrees
agreed : AreLaws → (own mine other : TextMap) → Agree mine other → has_each own mine ≡ true → has_each (laid_over own other) mine ≡ true
agreed laws own mine other agree h = laws.from (laid_over own other) mine (λ key value e. laws.values own other key ∙ at key value e (fin.get other key) refl)
  where
    at : (key value : Text) → fin.get mine key ≡ Some value → (o : Option Text) → fin.get other key ≡ o → option_or o (fin.get own key) ≡ Some value
    at key value e None f = laws.has own mine h key value e
    at key value e (Some y) f = ap Some (agree key value y e f)

record KeepsMutable (s : State) (c : Change) (r : Modify) : Type 0 where
  pub gone : (n : ℕ) → number_of_id r.volume_id ≡ Some n → c ≡ RemoveVolume n → ⊥
  pub set : (n : ℕ) (v : Volume) (m : TextMap) → number_of_id r.volume_id ≡ Some n → fin.get s.volumes n ≡ Some v → c ≡ SetMutable n m → has_each v.mutable r.mutable ≡ true → has_each m r.mutable ≡ true

done_from : (n : ℕ) (own given : TextMap) (x : Response) → modify_own n own given ≡ respond x → (has_each own given ≡ true) × (respond response.Modify ≡ respond x)
done_from n own given x h = go (nat_lt MAX_MAP_BYTES (map_bytes (laid_over own given))) (has_each own given) refl h
  where
    go : (b d : Bool) → has_each own given ≡ d → cond b (refuse MutableTooLarge) (cond d (respond response.Modify) (make response.Modify (SetMutable n (laid_over own given)))) ≡ respond x
        → (has_each own given ≡ true) × (respond response.Modify ≡ respond x)
    go true d t k = absurd (refuse_not MutableTooLarge x k)
    go false true t k = (t, k)
    go false false t k = absurd (make_not _ x _ k)

not_above : (a b : ℕ) → b ≤ a → nat_lt a b ≡ false
not_above a b h = elim (leb_tells (suc a) b) as (λ _. nat_lt a b ≡ false) [ inl y ↦ absurd (omega (arith, y.1, h)) | inr y ↦ y.0 ]

done_to : AreLaws → (n : ℕ) (own given : TextMap) → map_bytes own ≤ MAX_MAP_BYTES → has_each own given ≡ true → modify_own n own given ≡ respond response.Modify
done_to laws n own given small h =
    ap (modify_to n own given) (laws.kept own given h)
    ∙ ap (λ b. cond b (refuse MutableTooLarge) (cond (has_each own given) (respond response.Modify) (make response.Modify (SetMutable n own)))) (not_above MAX_MAP_BYTES (map_bytes own) small)
    ∙ ap (λ b. cond b (respond response.Modify) (make response.Modify (SetMutable n own))) h

modify_stays : AreLaws → (config : Config) (s : State) (r : Modify) (c : Change) (x : Response) → IsInvariant config (changed s c) → IsFree s c → KeepsMutable s c r
    → modify s r ≡ respond x → modify (changed s c) r ≡ respond x
modify_stays laws config s r c x later free keeps h = by_number (number_of_id r.volume_id) refl h
  where
    by_volume : (n : ℕ) → number_of_id r.volume_id ≡ Some n → (o : Option Volume) → fin.get s.volumes n ≡ o → modify_found r (numbered n o) ≡ respond x
        → modify_found r (numbered n (fin.get (changed s c).volumes n)) ≡ respond x
    by_volume n is None there k = absurd (refuse_not VolumeNotFound x k)
    by_volume n is (Some v) there k =
        let done = done_from n v.mutable r.mutable x k in
        let w = stood_by s c n v free (keeps.gone n is) there in
        let has : has_each w.volume.mutable r.mutable ≡ true = elim w.is as (λ _. has_each w.volume.mutable r.mutable ≡ true) [
          | inl a ↦ subst (λ (y : Volume). has_each y.mutable r.mutable ≡ true) (sym a) done.0
          | inr b ↦ subst (λ (y : Volume). has_each y.mutable r.mutable ≡ true) (sym b.2) (keeps.set n v b.0 is there b.1 done.0)
        ] in
        ap (λ (o : Option Volume). modify_found r (numbered n o)) w.there
        ∙ done_to laws n w.volume.mutable r.mutable (later.volumes n w.volume w.there).mutable has
        ∙ done.1

    by_number : (o : Option ℕ) → number_of_id r.volume_id ≡ o → modify_found r (volume_at s o) ≡ respond x → modify_found r (volume_at (changed s c) o) ≡ respond x
    by_number None is k = k
    by_number (Some n) is k = by_volume n is (fin.get s.volumes n) refl k

-- ---- ValidateVolumeCapabilities

validate_stays : (s : State) (r : Validate) (c : Change) (x : Response) → IsFree s c → ((n : ℕ) → number_of_id r.volume_id ≡ Some n → c ≡ RemoveVolume n → ⊥)
    → validate s r ≡ respond x → validate (changed s c) r ≡ respond x
validate_stays s r c x free keeps h = by_number (number_of_id r.volume_id) refl h
  where
    by_volume : (n : ℕ) → number_of_id r.volume_id ≡ Some n → (o : Option Volume) → fin.get s.volumes n ≡ o → validate_found r (numbered n o) ≡ respond x
        → validate_found r (numbered n (fin.get (changed s c).volumes n)) ≡ respond x
    by_volume n is None there k = absurd (refuse_not VolumeNotFound x k)
    by_volume n is (Some v) there k =
        let w = stood_by s c n v free (keeps n is) there in
        let now : validate_volume r w.volume ≡ respond x = elim w.is as (λ _. validate_volume r w.volume ≡ respond x) [
          | inl a ↦ subst (λ (y : Volume). validate_volume r y ≡ respond x) (sym a) k
          | inr b ↦ subst (λ (y : Volume). validate_volume r y ≡ respond x) (sym b.2) k
        ] in
        ap (λ (o : Option Volume). validate_found r (numbered n o)) w.there ∙ now

    by_number : (o : Option ℕ) → number_of_id r.volume_id ≡ o → validate_found r (volume_at s o) ≡ respond x → validate_found r (volume_at (changed s c) o) ≡ respond x
    by_number None is k = k
    by_number (Some n) is k = by_volume n is (fin.get s.volumes n) refl k

-- ---- any request

-- a change that leaves the object of a request alone
abbrev Keeps : State → Change → Request → Type 0
Keeps s c request.PluginInfo = Unit {0}
Keeps s c request.PluginCapabilities = Unit {0}
Keeps s c request.Probe = Unit {0}
Keeps s c request.ControllerCapabilities = Unit {0}
Keeps s c (request.Create r) = KeepsNamed s c r
Keeps s c (request.Delete r) = (n : ℕ) → number_of_id r.volume_id ≡ Some n → (u : Volume) → c ≡ AddVolume u → u.number ≡ n → ⊥
Keeps s c (request.Publish r) = (n : ℕ) → number_of_id r.volume_id ≡ Some n → (c ≡ Detach n r.node_id → ⊥) × (c ≡ DetachAll n → ⊥)
Keeps s c (request.Unpublish r) = (n : ℕ) → number_of_id r.volume_id ≡ Some n → (a : Attachment) → c ≡ Attach n a → (r.node_id ≢ []) × (a.node ≢ r.node_id)
Keeps s c (request.Validate r) = (n : ℕ) → number_of_id r.volume_id ≡ Some n → c ≡ RemoveVolume n → ⊥
Keeps s c (request.List r) = ⊥
Keeps s c (request.Capacity r) = ⊥
Keeps s c (request.Modify r) = KeepsMutable s c r

plan_stays : AreLaws → (config : Config) (s : State) (r : Request) (c : Change) (x : Response) → IsInvariant config s → IsInvariant config (changed s c) → IsFree s c → Keeps s c r
    → plan config s r ≡ respond x → plan config (changed s c) r ≡ respond x
plan_stays laws config s request.PluginInfo c x inv later free keeps h = h
plan_stays laws config s request.PluginCapabilities c x inv later free keeps h = h
plan_stays laws config s request.Probe c x inv later free keeps h = h
plan_stays laws config s request.ControllerCapabilities c x inv later free keeps h = h
plan_stays laws config s (request.Create r) c x inv later free keeps h = create_stays config s r c x later free keeps h
plan_stays laws config s (request.Delete r) c x inv later free keeps h = delete_stays s r c x keeps h
plan_stays laws config s (request.Publish r) c x inv later free keeps h = publish_stays config s r c x inv later free keeps h
plan_stays laws config s (request.Unpublish r) c x inv later free keeps h = unpublish_stays config s r c x inv later keeps h
plan_stays laws config s (request.Validate r) c x inv later free keeps h = validate_stays s r c x free keeps h
plan_stays laws config s (request.List r) c x inv later free keeps h = absurd keeps
plan_stays laws config s (request.Capacity r) c x inv later free keeps h = absurd keeps
plan_stays laws config s (request.Modify r) c x inv later free keeps h = modify_stays laws config s r c x later free keeps h

-- ---- the changes of others

pub one_number : (a b : Text) (m n k : ℕ) → number_of_id a ≡ Some m → number_of_id b ≡ Some n → m ≡ n → a ≡ b
one_number a b m n k e f same = named_id a m e ∙ sym (named_id b m (f ∙ ap Some (sym same)))

-- parts of changes that are equal
removed_number : (m n : ℕ) → RemoveVolume m ≡ RemoveVolume n → m ≡ n
removed_number m n h = cc

set_number : (m n : ℕ) (x y : TextMap) → SetMutable m x ≡ SetMutable n y → (m ≡ n) × (x ≡ y)
set_number m n x y h = (cc, cc)

attach_parts : (m n : ℕ) (a b : Attachment) → Attach m a ≡ Attach n b → (m ≡ n) × (a ≡ b)
attach_parts m n a b h = (cc, cc)

detach_parts : (m n : ℕ) (d e : Text) → Detach m d ≡ Detach n e → (m ≡ n) × (d ≡ e)
detach_parts m n d e h = (cc, cc)

detach_all_number : (m n : ℕ) → DetachAll m ≡ DetachAll n → m ≡ n
detach_all_number m n h = cc

added_volume : (u v : Volume) → AddVolume u ≡ AddVolume v → u ≡ v
added_volume u v h = cc

module _ (laws : AreLaws) (config : Config) (s : State) (q : Request) (c : Change) where
  leaves_name : (r : CreateVolume) → Does s q c → LeavesAlone s q (request.Create r) → KeepsNamed s c r
  leaves_name r (Adds k v is change number name) alone = record {
    gone = λ n w there named_so e. absurd (cc (change, e));
    set = λ n w m there named_so e. absurd (cc (change, e));
  }
  leaves_name r (Removes k i v is change number there none) alone =
      let far = subst (λ (p : Request). LeavesAlone s p (request.Create r)) is alone in
      record {
        gone = λ n w here named_so e.
            let same : i ≡ n = removed_number i n (sym change ∙ e) in
            far n w (number ∙ ap Some same) here named_so;
        set = λ n w m here named_so e. absurd (cc (change, e));
      }
  leaves_name r (Attaches k i a is change number node vacant) alone = record {
    gone = λ n w there named_so e. absurd (cc (change, e));
    set = λ n w m there named_so e. absurd (cc (change, e));
  }
  leaves_name r (Detaches k i a is change number there) alone = record {
    gone = λ n w here named_so e. absurd (cc (change, e));
    set = λ n w m here named_so e. absurd (cc (change, e));
  }
  leaves_name r (DetachesAll k i is change number none some) alone = record {
    gone = λ n w there named_so e. absurd (cc (change, e));
    set = λ n w m there named_so e. absurd (cc (change, e));
  }
  leaves_name r (Sets k i v is change number there has) alone =
      let agree = subst (λ (p : Request). LeavesAlone s p (request.Create r)) is alone in
      record {
        gone = λ n w here named_so e. absurd (cc (change, e));
        set = λ n w m here named_so e had.
            let two = set_number i n (laid_over v.mutable k.mutable) m (sym change ∙ e) in
            let one : v ≡ w = same_some v w (sym there ∙ ap (fin.get s.volumes) two.0 ∙ here) in
            let own : has_each v.mutable r.mutable ≡ true = subst (λ (y : Volume). has_each y.mutable r.mutable ≡ true) (sym one) had in
            subst (λ (y : TextMap). has_each y r.mutable ≡ true) two.1 (agreed laws v.mutable r.mutable k.mutable (agree n w (number ∙ ap Some two.0) here named_so) own);
      }

  leaves_unused : (r : DeleteVolume) → Does s q c → LeavesAlone s q (request.Delete r) → (n : ℕ) → number_of_id r.volume_id ≡ Some n → (u : Volume) → c ≡ AddVolume u → u.number ≡ n → ⊥
  leaves_unused r (Adds k v is change number name) alone n id u e same =
      let far = subst (λ (p : Request). LeavesAlone s p (request.Delete r)) is alone in
      let one : v ≡ u = added_volume v u (sym change ∙ e) in
      far (id ∙ ap Some (sym same ∙ ap (λ (y : Volume). y.number) (sym one) ∙ number))
  leaves_unused r (Removes k i v is change number there none) alone n id u e same = absurd (cc (change, e))
  leaves_unused r (Attaches k i a is change number node vacant) alone n id u e same = absurd (cc (change, e))
  leaves_unused r (Detaches k i a is change number there) alone n id u e same = absurd (cc (change, e))
  leaves_unused r (DetachesAll k i is change number none some) alone n id u e same = absurd (cc (change, e))
  leaves_unused r (Sets k i v is change number there has) alone n id u e same = absurd (cc (change, e))

  leaves_attached : (r : Publish) → Does s q c → LeavesAlone s q (request.Publish r) → (n : ℕ) → number_of_id r.volume_id ≡ Some n → (c ≡ Detach n r.node_id → ⊥) × (c ≡ DetachAll n → ⊥)
  leaves_attached r (Adds k v is change number name) alone n id = (λ e. absurd (cc (change, e)), λ e. absurd (cc (change, e)))
  leaves_attached r (Removes k i v is change number there none) alone n id = (λ e. absurd (cc (change, e)), λ e. absurd (cc (change, e)))
  leaves_attached r (Attaches k i a is change number node vacant) alone n id = (λ e. absurd (cc (change, e)), λ e. absurd (cc (change, e)))
  leaves_attached r (Detaches k i a is change number there) alone n id =
      let far = subst (λ (p : Request). LeavesAlone s p (request.Publish r)) is alone in (
        λ e.
            let two = detach_parts i n k.node_id r.node_id (sym change ∙ e) in
            (far (one_number k.volume_id r.volume_id i n n number id two.0)).1 two.1,
        λ e. absurd (cc (change, e)),
      )
  leaves_attached r (DetachesAll k i is change number none some) alone n id =
      let far = subst (λ (p : Request). LeavesAlone s p (request.Publish r)) is alone in (
        λ e. absurd (cc (change, e)),
        λ e. (far (one_number k.volume_id r.volume_id i n n number id (detach_all_number i n (sym change ∙ e)))).0 none,
      )
  leaves_attached r (Sets k i v is change number there has) alone n id = (λ e. absurd (cc (change, e)), λ e. absurd (cc (change, e)))

  leaves_detached : (r : Unpublish) → Does s q c → LeavesAlone s q (request.Unpublish r) → (n : ℕ) → number_of_id r.volume_id ≡ Some n → (b : Attachment) → c ≡ Attach n b → (r.node_id ≢ []) × (b.node ≢ r.node_id)
  leaves_detached r (Adds k v is change number name) alone n id b e = absurd (cc (change, e))
  leaves_detached r (Removes k i v is change number there none) alone n id b e = absurd (cc (change, e))
  leaves_detached r (Attaches k i a is change number node vacant) alone n id b e =
      let far = subst (λ (p : Request). LeavesAlone s p (request.Unpublish r)) is alone in
      let two = attach_parts i n a b (sym change ∙ e) in
      let apart = far (one_number k.volume_id r.volume_id i n n number id two.0) in
      (apart.0, λ same. apart.1 (sym node ∙ ap (λ (y : Attachment). y.node) two.1 ∙ same))
  leaves_detached r (Detaches k i a is change number there) alone n id b e = absurd (cc (change, e))
  leaves_detached r (DetachesAll k i is change number none some) alone n id b e = absurd (cc (change, e))
  leaves_detached r (Sets k i v is change number there has) alone n id b e = absurd (cc (change, e))

  leaves_volume : (r : Validate) → Does s q c → LeavesAlone s q (request.Validate r) → (n : ℕ) → number_of_id r.volume_id ≡ Some n → c ≡ RemoveVolume n → ⊥
  leaves_volume r (Adds k v is change number name) alone n id e = absurd (cc (change, e))
  leaves_volume r (Removes k i v is change number there none) alone n id e =
      subst (λ (p : Request). LeavesAlone s p (request.Validate r)) is alone (one_number k.volume_id r.volume_id i n n number id (removed_number i n (sym change ∙ e)))
  leaves_volume r (Attaches k i a is change number node vacant) alone n id e = absurd (cc (change, e))
  leaves_volume r (Detaches k i a is change number there) alone n id e = absurd (cc (change, e))
  leaves_volume r (DetachesAll k i is change number none some) alone n id e = absurd (cc (change, e))
  leaves_volume r (Sets k i v is change number there has) alone n id e = absurd (cc (change, e))

  leaves_mutable : (r : Modify) → Does s q c → LeavesAlone s q (request.Modify r) → KeepsMutable s c r
  leaves_mutable r (Adds k v is change number name) alone = record { gone = λ n id e. absurd (cc (change, e)); set = λ n w m id here e. absurd (cc (change, e)) }
  leaves_mutable r (Removes k i v is change number there none) alone =
      let far = subst (λ (p : Request). LeavesAlone s p (request.Modify r)) is alone in
      record {
        gone = λ n id e. far (one_number k.volume_id r.volume_id i n n number id (removed_number i n (sym change ∙ e)));
        set = λ n w m id here e. absurd (cc (change, e));
      }
  leaves_mutable r (Attaches k i a is change number node vacant) alone = record { gone = λ n id e. absurd (cc (change, e)); set = λ n w m id here e. absurd (cc (change, e)) }
  leaves_mutable r (Detaches k i a is change number there) alone = record { gone = λ n id e. absurd (cc (change, e)); set = λ n w m id here e. absurd (cc (change, e)) }
  leaves_mutable r (DetachesAll k i is change number none some) alone = record { gone = λ n id e. absurd (cc (change, e)); set = λ n w m id here e. absurd (cc (change, e)) }
  leaves_mutable r (Sets k i v is change number there has) alone =
      let agree = subst (λ (p : Request). LeavesAlone s p (request.Modify r)) is alone in
      record {
        gone = λ n id e. absurd (cc (change, e));
        set = λ n w m id here e had.
            let two = set_number i n (laid_over v.mutable k.mutable) m (sym change ∙ e) in
            let one : v ≡ w = same_some v w (sym there ∙ ap (fin.get s.volumes) two.0 ∙ here) in
            let own : has_each v.mutable r.mutable ≡ true = subst (λ (y : Volume). has_each y.mutable r.mutable ≡ true) (sym one) had in
            subst (λ (y : TextMap). has_each y r.mutable ≡ true) two.1 (agreed laws v.mutable r.mutable k.mutable (agree (one_number k.volume_id r.volume_id i n n number id two.0)) own);
      }

  moves_none : is_read q ≡ true → (plan config s q).change ≡ Some c → ⊥
  moves_none is e = none_some c (sym (plan_still config s q is) ∙ e)

  keeps_by : (r : Request) → (plan config s q).change ≡ Some c → Does s q c → LeavesAlone s q r → Keeps s c r
  keeps_by request.PluginInfo e d alone = tt
  keeps_by request.PluginCapabilities e d alone = tt
  keeps_by request.Probe e d alone = tt
  keeps_by request.ControllerCapabilities e d alone = tt
  keeps_by (request.Create r) e d alone = leaves_name r d alone
  keeps_by (request.Delete r) e d alone = leaves_unused r d alone
  keeps_by (request.Publish r) e d alone = leaves_attached r d alone
  keeps_by (request.Unpublish r) e d alone = leaves_detached r d alone
  keeps_by (request.Validate r) e d alone = leaves_volume r d alone
  keeps_by (request.List r) e d alone = moves_none alone e
  keeps_by (request.Capacity r) e d alone = moves_none alone e
  keeps_by (request.Modify r) e d alone = leaves_mutable r d alone

-- ---- steps

-- the request is answered with this body, and changes nothing
pub record IsDone (config : Config) (s : State) (r : Request) (body : List ℕ) : Type 0 where
  pub reply : Response
  pub by : plan config s r ≡ respond reply
  pub reported : reported_of (Ok reply) ≡ Says body

abbrev planned : Result Response Reason → Option Change → Plan
planned o c = record { outcome = o; change = c }

pub done_step : (config : Config) (s : State) (r : Request) (body : List ℕ) → IsDone config s r body → step config s r ≡ (Says body, s)
done_step config s r body d =
    ap (λ (p : Plan). (reported_of p.outcome, moved s (after s p.change) (reported_of p.outcome))) d.by
    ∙ ap (λ (w : Report). (w, moved s s w)) d.reported

pub step_done : AreLaws → (config : Config) (s : State) (r : Request) (body : List ℕ) → IsInvariant config s → step config s r ≡ (Says body, s) → IsDone config s r body
step_done laws config s r body inv e = by_outcome (plan config s r).outcome refl reported
  where
    reported : reported_of (plan config s r).outcome ≡ Says body
    reported = ap (λ (x : Report × State). x.0) e

    still : moved s (after s (plan config s r).change) (Says body) ≡ s
    still = ap (λ (w : Report). moved s (after s (plan config s r).change) w) (sym reported) ∙ ap (λ (x : Report × State). x.1) e

    no_change : (o : Option Change) → (plan config s r).change ≡ o → o ≡ None
    no_change None f = refl
    no_change (Some c) f = absurd (moves laws.given s r c (does config s r c inv f) (ap (after s) (sym f) ∙ still))

    by_outcome : (o : Result Response Reason) → (plan config s r).outcome ≡ o → reported_of o ≡ Says body → IsDone config s r body
    by_outcome (Err why) f h = absurd (cc (h))
    by_outcome (Ok x) f h = record { reply = x; by = ap₂ planned f (no_change (plan config s r).change refl); reported = h }

-- a request leaves the object of another request alone: the change that the other request made stays
pub stays_one : AreLaws → (config : Config) (s : State) (q r : Request) (body : List ℕ) → IsInvariant config s → IsInvariant config (step config s q).1 → LeavesAlone s q r → IsDone config s r body
    → IsDone config (step config s q).1 r body
stays_one laws config s q r body inv later alone d = record { reply = d.reply; by = by_reported (reported_of (plan config s q).outcome) later; reported = d.reported }
  where
    by_change : (o : Option Change) → (plan config s q).change ≡ o → IsInvariant config (after s o) → plan config (after s o) r ≡ respond d.reply
    by_change None e i = d.by
    by_change (Some c) e i =
        let made = does config s q c inv e in
        plan_stays laws config s r c d.reply inv i (is_free config s q c inv made) (keeps_by laws config s q c r e made alone) d.by

    by_reported : (w : Report) → IsInvariant config (moved s (after s (plan config s q).change) w) → plan config (moved s (after s (plan config s q).change) w) r ≡ respond d.reply
    by_reported (Denies why) i = d.by
    by_reported (Says b) i = by_change (plan config s q).change refl i

-- ---- several requests
abbrev pub Keep : Config → Type 0
Keep config = (s : State) (r : Request) → IsInvariant config s → checked r ≡ None → IsInvariant config (step config s r).1

pub stays : AreLaws → (config : Config) → Keep config → (qs : List Request) (s : State) (r : Request) (body : List ℕ) → IsInvariant config s → AllByRecursion (λ q. checked q ≡ None) qs
    → AllLeaveAlone config s qs r → IsDone config s r body → IsDone config (after_once config s qs) r body
stays laws config keep [] s r body inv passed all_alone d = d
stays laws config keep (q ∷ qs) s r body inv passed all_alone d =
    let later = keep s q inv passed.0 in
    stays laws config keep qs (step config s q).1 r body later passed.1 all_alone.1 (stays_one laws config s q r body inv later all_alone.0 d)
