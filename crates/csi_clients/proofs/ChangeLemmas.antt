-- The change that each request makes. Each change changes the State.
use Rattle.std.proofs.Common.{◌≡◌, ◌∙◌, ap, sym, subst, cond, refl, arith, ℕ, ◌==◌, List, [], ◌∷◌, find, Bool, true, false, not, nat_lt, nat_le, ◌&&◌, ◌||◌, sum_by, Option, Some, None, eq-eqb, eqb-true}
use Rattle.std.specs.Cmp.{nat_cmp_total}
use Rattle.std.specs.FinMap as fin
use Rattle.std.specs.List.{list_all}
use Rattle.csi_types.specs.Checks.{map_bytes, is_supported}
use Rattle.csi_types.specs.Maps.{TextMap, same_map}
use Rattle.csi_types.specs.Names.{is_empty}
use Rattle.csi_types.specs.Overlays.{has_each, laid_over}
use Rattle.csi_types.specs.declared.limits.TheConstants.{MAX_MAP_BYTES, MAX_NUMBER, MAX_VOLUMES}
use Rattle.csi_types.specs.declared.reason.Reason.TheVariants.{VolumeNotCompatible, TooManyVolumes, NumbersUsedUp, PublishedElsewhere, PublishedOtherwise, NodeFull, CapabilityNotOfVolume, MutableTooLarge}
use Rattle.csi_types.specs.declared.requests.CreateVolume.{CreateVolume}
use Rattle.csi_types.specs.declared.requests.DeleteVolume.{DeleteVolume}
use Rattle.csi_types.specs.declared.requests.GetCapacity.{GetCapacity}
use Rattle.csi_types.specs.declared.requests.Modify.{Modify}
use Rattle.csi_types.specs.declared.requests.Publish.{Publish}
use Rattle.csi_types.specs.declared.requests.Request.{Request}
use Rattle.csi_types.specs.declared.requests.Request.TheVariants as request
use Rattle.csi_types.specs.declared.requests.Unpublish.{Unpublish}
use Rattle.csi_types.specs.declared.requests.Validate.{Validate}
use Rattle.csi_types.specs.declared.responses.Response.TheVariants as response
use Rattle.csi_config.specs.declared.config.Config.{Config}
use Rattle.csi_config.specs.declared.nodes.Node.{Node}
use Rattle.csi_config.specs.declared.pools.Pool.{Pool}
use Rattle.csi_keeper.specs.Capability.{has_key, have_keys, same_key}
use Rattle.csi_keeper.specs.Invariant.{IsInvariant}
use Rattle.csi_keeper.specs.Lookup.{node_of}
use Rattle.csi_keeper.specs.State.{State, AttachmentKey, attached, changed, count_at, named, with_mutable, mutable_set}
use Rattle.csi_keeper.specs.declared.capability.CapKey.{CapKey}
use Rattle.csi_keeper.specs.declared.change.Change.{Change}
use Rattle.csi_keeper.specs.declared.change.Change.TheVariants.{AddVolume, RemoveVolume, Attach, Detach, DetachAll, SetMutable}
use Rattle.csi_keeper.specs.declared.volume.Attachment.{Attachment}
use Rattle.csi_keeper.specs.declared.volume.Volume.{Volume}
use Rattle.csi_keeper.specs.facts.Finite.{none_some, same_some, gone, put_there}
use Rattle.csi_keeper.specs.facts.Orders.{place_total, place_exact}
use Rattle.csi_machine.specs.calls.Capacity.{capacity_of, served, greatest_size, report_capacity}
use Rattle.csi_machine.specs.calls.Create.{create_named, made, place, place_in, is_compatible}
use Rattle.csi_machine.specs.calls.Delete.{delete_found, delete_volume}
use Rattle.csi_machine.specs.calls.Listing.{list_after, start_of}
use Rattle.csi_rules.specs.Conflict.{has_conflict}
use Rattle.csi_machine.specs.calls.Publish.{publish_found, publish_node, publish_at, publish_key, wanted, requested_key, is_at, same_flag, target_in}
use Rattle.csi_machine.specs.calls.Unpublish.{unpublish_number, detach_all, detach_one}
use Rattle.csi_machine.specs.Modify.{modify_found}
use Rattle.csi_machine.specs.Plan.{refuse, respond, make}
use Rattle.csi_machine.specs.Response.{publication}
use Rattle.csi_machine.specs.Step.{is_read, plan}
use Rattle.csi_machine.specs.Validate.{validate_found, confirm, deny}
use Rattle.csi_rules.specs.Choice.{Room, rooms, choice, count, free}
use Rattle.csi_rules.specs.Finding.{numbered, volume_at}
use Rattle.csi_rules.specs.Ids.{number_of_id}
use Rattle.csi_rules.specs.Info.{info_at, segments_at}
use Rattle.csi_rules.specs.Size.{size, whole}
use Rattle.csi_rules.specs.Topology.{terms}
use Rattle.csi_clients.proofs.RowLemmas.{found_at, none_rows}

-- the change of a request, and the State before it
pub data Does (s : State) (q : Request) (c : Change) : Type 0 where
  Adds : (r : CreateVolume) (v : Volume) → q ≡ request.Create r → c ≡ AddVolume v → v.number ≡ s.next → v.name ≡ r.name → Does s q c
  Removes : (r : DeleteVolume) (n : ℕ) (v : Volume) → q ≡ request.Delete r → c ≡ RemoveVolume n → number_of_id r.volume_id ≡ Some n → fin.get s.volumes n ≡ Some v → attached s n ≡ [] → Does s q c
  Attaches : (r : Publish) (n : ℕ) (a : Attachment) → q ≡ request.Publish r → c ≡ Attach n a → number_of_id r.volume_id ≡ Some n → a.node ≡ r.node_id → fin.get s.attachments (n, a.node) ≡ None → Does s q c
  Detaches : (r : Unpublish) (n : ℕ) (a : Attachment) → q ≡ request.Unpublish r → c ≡ Detach n r.node_id → number_of_id r.volume_id ≡ Some n → fin.get s.attachments (n, r.node_id) ≡ Some a → Does s q c
  DetachesAll : (r : Unpublish) (n : ℕ) → q ≡ request.Unpublish r → c ≡ DetachAll n → number_of_id r.volume_id ≡ Some n → r.node_id ≡ [] → (attached s n ≡ [] → ⊥) → Does s q c
  Sets : (r : Modify) (n : ℕ) (v : Volume) → q ≡ request.Modify r → c ≡ SetMutable n (laid_over v.mutable r.mutable) → number_of_id r.volume_id ≡ Some n → fin.get s.volumes n ≡ Some v
      → has_each v.mutable r.mutable ≡ false → Does s q c

-- ---- reads

validate_still : (r : Validate) (o : Option (ℕ × Volume)) → (validate_found r o).change ≡ None
validate_still r None = refl
validate_still r (Some f) = elim (have_keys f.1.caps r.capabilities && ((fin.len r.parameters == 0) || same_map f.1.params r.parameters)) as (λ b. (cond b (confirm r) deny).change ≡ None) [ true ↦ refl | false ↦ refl ]

list_still : (config : Config) (s : State) (most : ℕ) (o : Option ℕ) → (list_after config s most o).change ≡ None
list_still config s most None = refl
list_still config s most (Some n) = refl

capacity_still : (config : Config) (rs : List Room) (r : GetCapacity) → (capacity_of config rs r).change ≡ None
capacity_still config rs r = elim (list_all is_supported r.capabilities) as (λ b. (cond b (report_capacity (sum_by free (served rs r.topology)) (greatest_size config (served rs r.topology))) (report_capacity 0 0)).change ≡ None) [ true ↦ refl | false ↦ refl ]

-- ---- each request

module _ (config : Config) (s : State) (c : Change) where
  creates : (r : CreateVolume) → (create_named config s r (named s r.name)).change ≡ Some c → Does s (request.Create r) c
  creates r e = by_name (named s r.name) e
    where
      in_pool : (b : ℕ) (o : Option Pool) → (place_in r s.next b o).change ≡ Some c → Does s (request.Create r) c
      in_pool b None h = absurd (none_some c h)
      in_pool b (Some p) h = Adds r (made r s.next b p) refl (sym (same_some _ _ h)) refl refl

      by_limits : (b : ℕ) (many full : Bool) → (cond many (refuse TooManyVolumes) (cond full (refuse NumbersUsedUp) (place_in r s.next b (choice (rooms config s) (terms r.topology) b)))).change ≡ Some c
          → Does s (request.Create r) c
      by_limits b true full h = absurd (none_some c h)
      by_limits b false true h = absurd (none_some c h)
      by_limits b false false h = in_pool b (choice (rooms config s) (terms r.topology) b) h

      by_size : (o : Option ℕ) → (place (rooms config s) s.next r o).change ≡ Some c → Does s (request.Create r) c
      by_size None h = absurd (none_some c h)
      by_size (Some b) h = by_limits b (nat_le MAX_VOLUMES (count (rooms config s))) (nat_le MAX_NUMBER s.next) h

      still : (v : Volume) (b : Bool) → (cond b (respond (response.Create (Some (info_at (segments_at config v.pool) v)))) (refuse VolumeNotCompatible)).change ≡ Some c → None ≡ Some c
      still v true h = h
      still v false h = h

      by_name : (o : Option Volume) → (create_named config s r o).change ≡ Some c → Does s (request.Create r) c
      by_name None h = by_size (size config.sizes r.range) h
      by_name (Some v) h = absurd (none_some c (still v (is_compatible (segments_at config v.pool) v r) h))

  deletes : (r : DeleteVolume) → (delete_found s (volume_at s (number_of_id r.volume_id))).change ≡ Some c → Does s (request.Delete r) c
  deletes r e = by_number (number_of_id r.volume_id) refl e
    where
      by_rows : (n : ℕ) (v : Volume) → number_of_id r.volume_id ≡ Some n → fin.get s.volumes n ≡ Some v → (rows : List Attachment) → attached s n ≡ rows → (delete_volume n rows).change ≡ Some c
          → Does s (request.Delete r) c
      by_rows n v is there [] none h = Removes r n v refl (sym (same_some _ _ h)) is there none
      by_rows n v is there (a ∷ rows) none h = absurd (none_some c h)

      by_volume : (n : ℕ) → number_of_id r.volume_id ≡ Some n → (o : Option Volume) → fin.get s.volumes n ≡ o → (delete_found s (numbered n o)).change ≡ Some c → Does s (request.Delete r) c
      by_volume n is None there h = absurd (none_some c h)
      by_volume n is (Some v) there h = by_rows n v is there (attached s n) refl h

      by_number : (o : Option ℕ) → number_of_id r.volume_id ≡ o → (delete_found s (volume_at s o)).change ≡ Some c → Does s (request.Delete r) c
      by_number None is h = absurd (none_some c h)
      by_number (Some n) is h = by_volume n is (fin.get s.volumes n) refl h

  publishes : (r : Publish) → IsInvariant config s → (publish_found config s r (volume_at s (number_of_id r.volume_id))).change ≡ Some c → Does s (request.Publish r) c
  publishes r inv e = by_number (number_of_id r.volume_id) refl e
    where
      by_found : (n : ℕ) (v : Volume) (node : Node) (key : CapKey) → number_of_id r.volume_id ≡ Some n → (o : Option Attachment) → find (is_at r.node_id) (attached s n) ≡ o
          → (publish_key (target_in s n v.caps r node) r o key).change ≡ Some c → Does s (request.Publish r) c
      by_found n v node key is (Some a) found h = absurd (none_some c (still (same_key a.cap key) (same_flag a.readonly r.readonly) h))
        where
          still : (b d : Bool) → (cond (b && d) (respond (response.Publish (publication r.readonly))) (refuse PublishedOtherwise)).change ≡ Some c → None ≡ Some c
          still true true h = h
          still true false h = h
          still false d h = h
      by_found n v node key is None found h = go (not (has_key v.caps (Some key))) (has_conflict (wanted r.node_id r.readonly key) (attached s n)) (nat_le node.max_volumes (count_at s r.node_id)) h
        where
          go : (p q f : Bool) → (cond p (refuse CapabilityNotOfVolume) (cond q (refuse PublishedElsewhere) (cond f (refuse NodeFull)
              (make (response.Publish (publication r.readonly)) (Attach n (wanted r.node_id r.readonly key)))))).change ≡ Some c → Does s (request.Publish r) c
          go true q f k = absurd (none_some c k)
          go false true f k = absurd (none_some c k)
          go false false true k = absurd (none_some c k)
          go false false false k = Attaches r n (wanted r.node_id r.readonly key) refl (sym (same_some _ _ k)) is refl (sym (found_at config s n r.node_id inv) ∙ found)

      by_key : (n : ℕ) (v : Volume) (node : Node) → number_of_id r.volume_id ≡ Some n → (o : Option CapKey) → (publish_at (target_in s n v.caps r node) r o).change ≡ Some c → Does s (request.Publish r) c
      by_key n v node is None h = absurd (none_some c h)
      by_key n v node is (Some key) h = by_found n v node key is (find (is_at r.node_id) (attached s n)) refl h

      by_node : (n : ℕ) (v : Volume) → number_of_id r.volume_id ≡ Some n → (o : Option Node) → (publish_node s n v.caps r o).change ≡ Some c → Does s (request.Publish r) c
      by_node n v is None h = absurd (none_some c h)
      by_node n v is (Some node) h = by_key n v node is (requested_key r.capability) h

      by_volume : (n : ℕ) → number_of_id r.volume_id ≡ Some n → (o : Option Volume) → (publish_found config s r (numbered n o)).change ≡ Some c → Does s (request.Publish r) c
      by_volume n is None h = absurd (none_some c h)
      by_volume n is (Some v) h = by_node n v is (node_of config r.node_id) h

      by_number : (o : Option ℕ) → number_of_id r.volume_id ≡ o → (publish_found config s r (volume_at s o)).change ≡ Some c → Does s (request.Publish r) c
      by_number None is h = absurd (none_some c h)
      by_number (Some n) is h = by_volume n is (fin.get s.volumes n) h

  unpublishes : (r : Unpublish) → IsInvariant config s → (unpublish_number s r.node_id (number_of_id r.volume_id)).change ≡ Some c → Does s (request.Unpublish r) c
  unpublishes r inv e = by_number (number_of_id r.volume_id) refl e
    where
      all_of : (n : ℕ) → number_of_id r.volume_id ≡ Some n → r.node_id ≡ [] → (rows : List Attachment) → attached s n ≡ rows → (detach_all n rows).change ≡ Some c → Does s (request.Unpublish r) c
      all_of n is none [] rows h = absurd (none_some c h)
      all_of n is none (a ∷ as_) rows h = DetachesAll r n refl (sym (same_some _ _ h)) is none (λ e. absurd (cc (e, rows)))

      one_of : (n : ℕ) → number_of_id r.volume_id ≡ Some n → (o : Option Attachment) → find (is_at r.node_id) (attached s n) ≡ o → (detach_one n r.node_id o).change ≡ Some c → Does s (request.Unpublish r) c
      one_of n is None found h = absurd (none_some c h)
      one_of n is (Some a) found h = Detaches r n a refl (sym (same_some _ _ h)) is (sym (found_at config s n r.node_id inv) ∙ found)

      is_none : (t : List ℕ) → is_empty t ≡ true → t ≡ []
      is_none [] h = refl
      is_none (x ∷ t) h = absurd (omega (arith, eqb-true _ _ h))

      by_node : (n : ℕ) → number_of_id r.volume_id ≡ Some n → (b : Bool) → is_empty r.node_id ≡ b → (cond b (detach_all n (attached s n)) (detach_one n r.node_id (find (is_at r.node_id) (attached s n)))).change ≡ Some c
          → Does s (request.Unpublish r) c
      by_node n is true none h = all_of n is (is_none r.node_id none) (attached s n) refl h
      by_node n is false some h = one_of n is (find (is_at r.node_id) (attached s n)) refl h

      by_number : (o : Option ℕ) → number_of_id r.volume_id ≡ o → (unpublish_number s r.node_id o).change ≡ Some c → Does s (request.Unpublish r) c
      by_number None is h = absurd (none_some c h)
      by_number (Some n) is h = by_node n is (is_empty r.node_id) refl h

  modifies : (r : Modify) → (modify_found r (volume_at s (number_of_id r.volume_id))).change ≡ Some c → Does s (request.Modify r) c
  modifies r e = by_number (number_of_id r.volume_id) refl e
    where
      by_volume : (n : ℕ) → number_of_id r.volume_id ≡ Some n → (o : Option Volume) → fin.get s.volumes n ≡ o → (modify_found r (numbered n o)).change ≡ Some c → Does s (request.Modify r) c
      by_volume n is None there h = absurd (none_some c h)
      by_volume n is (Some v) there h = go (nat_lt MAX_MAP_BYTES (map_bytes (laid_over v.mutable r.mutable))) (has_each v.mutable r.mutable) refl h
        where
          go : (b h : Bool) → has_each v.mutable r.mutable ≡ h
              → (cond b (refuse MutableTooLarge) (cond h (respond response.Modify) (make response.Modify (SetMutable n (laid_over v.mutable r.mutable))))).change ≡ Some c → Does s (request.Modify r) c
          go true h t k = absurd (none_some c k)
          go false true t k = absurd (none_some c k)
          go false false t k = Sets r n v refl (sym (same_some _ _ k)) is there t

      by_number : (o : Option ℕ) → number_of_id r.volume_id ≡ o → (modify_found r (volume_at s o)).change ≡ Some c → Does s (request.Modify r) c
      by_number None is h = absurd (none_some c h)
      by_number (Some n) is h = by_volume n is (fin.get s.volumes n) refl h

-- a request whose method changes nothing has a plan without a change
pub plan_still : (config : Config) (s : State) (r : Request) → is_read r ≡ true → (plan config s r).change ≡ None
plan_still config s request.PluginInfo e = refl
plan_still config s request.PluginCapabilities e = refl
plan_still config s request.Probe e = refl
plan_still config s request.ControllerCapabilities e = refl
plan_still config s (request.Create r) e = absurd (cc)
plan_still config s (request.Delete r) e = absurd (cc)
plan_still config s (request.Publish r) e = absurd (cc)
plan_still config s (request.Unpublish r) e = absurd (cc)
plan_still config s (request.Validate r) e = validate_still r (volume_at s (number_of_id r.volume_id))
plan_still config s (request.List r) e = list_still config s (whole r.max_entries) (start_of s.next r.token)
plan_still config s (request.Capacity r) e = capacity_still config (rooms config s) r
plan_still config s (request.Modify r) e = absurd (cc)

reads : (config : Config) (s : State) (q : Request) (c : Change) → is_read q ≡ true → (plan config s q).change ≡ Some c → Does s q c
reads config s q c is e = absurd (none_some c (sym (plan_still config s q is) ∙ e))

-- each change is one of the six kinds
pub does : (config : Config) (s : State) (q : Request) (c : Change) → IsInvariant config s → (plan config s q).change ≡ Some c → Does s q c
does config s request.PluginInfo c inv e = reads config s request.PluginInfo c refl e
does config s request.PluginCapabilities c inv e = reads config s request.PluginCapabilities c refl e
does config s request.Probe c inv e = reads config s request.Probe c refl e
does config s request.ControllerCapabilities c inv e = reads config s request.ControllerCapabilities c refl e
does config s (request.Create r) c inv e = creates config s c r e
does config s (request.Delete r) c inv e = deletes config s c r e
does config s (request.Publish r) c inv e = publishes config s c r inv e
does config s (request.Unpublish r) c inv e = unpublishes config s c r inv e
does config s (request.Validate r) c inv e = reads config s (request.Validate r) c refl e
does config s (request.List r) c inv e = reads config s (request.List r) c refl e
does config s (request.Capacity r) c inv e = reads config s (request.Capacity r) c refl e
does config s (request.Modify r) c inv e = modifies config s c r e

-- ---- a change changes the State

-- an inserted value is in the map
modified_there : (s : State) (n : ℕ) (m : TextMap) (v : Volume) → fin.get s.volumes n ≡ Some v → fin.get (changed s (SetMutable n m)).volumes n ≡ Some (with_mutable m v)
modified_there s n m v e =
    ap (λ (o : Option Volume). fin.get (mutable_set s.volumes n m o) n) e
    ∙ put_there nat_cmp_total fin.nat_cmp-IsAntisymmetric s.volumes n (with_mutable m v)

all_gone : (s : State) (n : ℕ) → attached (changed s (DetachAll n)) n ≡ []
all_gone s n = none_rows (changed s (DetachAll n)) n kept
  where
    kept : (q : AttachmentKey) (a : Attachment) → fin.get (fin.retain_keys s.attachments (λ p. not (p.0 == n))) q ≡ Some a → q.0 ≡ n → ⊥
    kept q a e is =
        let out : not (q.0 == n) ≡ false = ap not (eq-eqb q.0 n is) in
        none_some a (ap (λ b. cond b (fin.get s.attachments q) None) (sym out) ∙ sym (fin.get-retain_keys s.attachments (λ p. not (p.0 == n)) q (λ x t. sym (ap (λ (p : AttachmentKey). not (p.0 == n)) (place_exact q x t)))) ∙ e)

pub moves : ((m given : TextMap) → has_each (laid_over m given) given ≡ true) → (s : State) (q : Request) (c : Change) → Does s q c → changed s c ≡ s → ⊥
moves laid s q c (Adds r v is change number name) same =
    let one : (changed s (AddVolume v)).next ≡ s.next = ap (λ (d : Change). (changed s d).next) (sym change) ∙ ap (λ (t : State). t.next) same in
    absurd (omega (arith, one))
moves laid s q c (Removes r n v is change number there none) same =
    none_some v (sym (gone nat_cmp_total fin.nat_cmp-IsAntisymmetric s.volumes n) ∙ ap (λ (d : Change). fin.get (changed s d).volumes n) (sym change) ∙ ap (λ (t : State). fin.get t.volumes n) same ∙ there)
moves laid s q c (Attaches r n a is change number node vacant) same =
    none_some a (sym vacant ∙ ap (λ (t : State). fin.get t.attachments (n, a.node)) (sym same) ∙ ap (λ (d : Change). fin.get (changed s d).attachments (n, a.node)) change
    ∙ put_there place_total place_exact s.attachments (n, a.node) a)
moves laid s q c (Detaches r n a is change number there) same =
    none_some a (sym (gone place_total place_exact s.attachments (n, r.node_id)) ∙ ap (λ (d : Change). fin.get (changed s d).attachments (n, r.node_id)) (sym change)
    ∙ ap (λ (t : State). fin.get t.attachments (n, r.node_id)) same ∙ there)
moves laid s q c (DetachesAll r n is change number none some) same =
    some (ap (λ (t : State). attached t n) (sym same) ∙ ap (λ (d : Change). attached (changed s d) n) change ∙ all_gone s n)
moves laid s q c (Sets r n v is change number there has) same =
    let m = laid_over v.mutable r.mutable in
    let one : Some (with_mutable m v) ≡ Some v = sym (modified_there s n m v there) ∙ ap (λ (d : Change). fin.get (changed s d).volumes n) (sym change) ∙ ap (λ (t : State). fin.get t.volumes n) same ∙ there in
    let two : m ≡ v.mutable = ap (λ (x : Volume). x.mutable) (same_some (with_mutable m v) v one) in
    let yes : has_each v.mutable r.mutable ≡ true = subst (λ (x : TextMap). has_each x r.mutable ≡ true) two (laid v.mutable r.mutable) in
    absurd (cc (yes, has))
