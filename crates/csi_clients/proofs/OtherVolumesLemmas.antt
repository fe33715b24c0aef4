-- The plan of a request after others worked on other volumes.
use Rattle.std.proofs.Common.{◌≡◌, ◌∙◌, ◌⊎◌, inl, inr, ap, sym, subst, cond, refl, ℕ, ◌==◌, List, [], ◌∷◌, map, find, Bool, true, false, not, nat_le, Option, Some, None, eqb-true}
use Rattle.std.specs.Cmp.{nat_cmp_total}
use Rattle.std.specs.FinMap as fin
use Rattle.std.specs.List.{AllByRecursion}
use Rattle.csi_types.specs.Checks.{checked}
use Rattle.csi_types.specs.declared.reason.Reason.TheVariants.{NodeFull, PublishedElsewhere, CapabilityNotOfVolume}
use Rattle.csi_types.specs.declared.requests.Publish.{Publish}
use Rattle.csi_types.specs.declared.requests.Request.{Request}
use Rattle.csi_types.specs.declared.requests.Request.TheVariants as request
use Rattle.csi_types.specs.declared.responses.Response.TheVariants as response
use Rattle.csi_config.specs.declared.config.Config.{Config}
use Rattle.csi_config.specs.declared.nodes.Node.{Node}
use Rattle.csi_keeper.specs.Capability.{has_key}
use Rattle.csi_keeper.specs.Invariant.{IsInvariant}
use Rattle.csi_keeper.specs.Lookup.{node_of}
use Rattle.csi_keeper.specs.State.{State, AttachmentKey, attached, changed, count_at, named, mutable_set, with_mutable}
use Rattle.csi_keeper.specs.Texts.{Text}
use Rattle.csi_keeper.specs.declared.capability.CapKey.{CapKey}
use Rattle.csi_keeper.specs.declared.change.Change.{Change}
use Rattle.csi_keeper.specs.declared.change.Change.TheVariants.{AddVolume, RemoveVolume, Attach, Detach, DetachAll, SetMutable}
use Rattle.csi_keeper.specs.declared.volume.Attachment.{Attachment}
use Rattle.csi_keeper.specs.declared.volume.Volume.{Volume}
use Rattle.csi_keeper.specs.facts.Finite.{none_some, inserted, insert_other, removed, entries_retained}
use Rattle.csi_keeper.specs.facts.Mutable.{stood}
use Rattle.csi_keeper.specs.facts.Names.{nobody}
use Rattle.csi_keeper.specs.facts.Orders.{place_total, place_exact}
use Rattle.csi_machine.specs.declared.plan.Plan.{Plan}
use Rattle.csi_machine.specs.calls.Create.{create_named}
use Rattle.csi_machine.specs.calls.Delete.{delete_found, delete_volume}
use Rattle.csi_rules.specs.Conflict.{has_conflict}
use Rattle.csi_machine.specs.calls.Publish.{Target, attach, publish_found, publish_node, publish_at, publish_key, wanted, requested_key, is_at, target_in}
use Rattle.csi_machine.specs.calls.Unpublish.{unpublish_number, detach}
use Rattle.csi_machine.specs.Modify.{modify_found}
use Rattle.csi_machine.specs.Plan.{after, refuse, make}
use Rattle.csi_machine.specs.Response.{publication}
use Rattle.csi_machine.specs.Retry.{after_once}
use Rattle.csi_machine.specs.Step.{is_read, moved, plan, step}
use Rattle.csi_machine.specs.Validate.{validate_found}
use Rattle.csi_machine.specs.Verdicts.{Report, Says, Denies, reported_of}
use Rattle.csi_rules.specs.Finding.{numbered, volume_at}
use Rattle.csi_rules.specs.Ids.{number_of_id}
use Rattle.csi_clients.specs.OtherVolumes.{IsOfOtherVolume, IsOfOtherId, IsOfOtherName, AreOfOtherVolumes, IsPlannedAsBefore}
use Rattle.csi_clients.proofs.ChangeLemmas.{Does, Adds, Removes, Attaches, Detaches, DetachesAll, Sets, does, plan_still}
use Rattle.csi_clients.proofs.RowLemmas.{named_from, named_is, none_of, remove_other}
use Rattle.csi_clients.proofs.StaysLemmas.{Keep, IsFree, is_free, got_kept, other_number, one_number}

-- ---- one volume

-- the volume that a change works on
abbrev about : Change → ℕ
about (AddVolume v) = v.number
about (RemoveVolume n) = n
about (Attach n a) = n
about (Detach n node) = n
about (DetachAll n) = n
about (SetMutable n m) = n

-- the volume with a number and its attachments are the same in two States
record IsSame (s t : State) (n : ℕ) : Type 0 where
  pub volume : fin.get t.volumes n ≡ fin.get s.volumes n
  pub rows : (d : Text) → fin.get t.attachments (n, d) ≡ fin.get s.attachments (n, d)

same_volume : (s : State) (c : Change) (n : ℕ) → (about c ≡ n → ⊥) → fin.get (changed s c).volumes n ≡ fin.get s.volumes n
same_volume s (AddVolume v) n far = insert_other nat_cmp_total fin.nat_cmp-IsAntisymmetric s.volumes v.number v n (λ e. far (sym e))
same_volume s (RemoveVolume k) n far = remove_other nat_cmp_total fin.nat_cmp-IsAntisymmetric s.volumes k n (λ e. far (sym e))
same_volume s (Attach k a) n far = refl
same_volume s (Detach k d) n far = refl
same_volume s (DetachAll k) n far = refl
same_volume s (SetMutable k m) n far = go (fin.get s.volumes k)
  where
    go : (o : Option Volume) → fin.get (mutable_set s.volumes k m o) n ≡ fin.get s.volumes n
    go None = refl
    go (Some v) = insert_other nat_cmp_total fin.nat_cmp-IsAntisymmetric s.volumes k (with_mutable m v) n (λ e. far (sym e))

same_row : (s : State) (c : Change) (n : ℕ) (d : Text) → (about c ≡ n → ⊥) → fin.get (changed s c).attachments (n, d) ≡ fin.get s.attachments (n, d)
same_row s (AddVolume v) n d far = refl
same_row s (RemoveVolume k) n d far = refl
same_row s (Attach k a) n d far = insert_other place_total place_exact s.attachments (k, a.node) a (n, d) (λ e. far (ap (λ (q : AttachmentKey). q.0) (sym e)))
same_row s (Detach k node) n d far = remove_other place_total place_exact s.attachments (k, node) (n, d) (λ e. far (ap (λ (q : AttachmentKey). q.0) (sym e)))
same_row s (DetachAll k) n d far = got_kept s k (n, d) ∙ ap (λ b. cond b (fin.get s.attachments (n, d)) None) (other_number n k (λ e. far (sym e)))
same_row s (SetMutable k m) n d far = refl

-- the same rows are the same attachments
same_attached : (s t : State) (n : ℕ) → ((d : Text) → fin.get t.attachments (n, d) ≡ fin.get s.attachments (n, d)) → attached t n ≡ attached s n
same_attached s t n h =
    ap (map (λ (e : AttachmentKey × Attachment). e.1))
    (sym (entries_retained place_total place_exact t.attachments (λ q. q.0 == n))
    ∙ ap fin.entries (fin.same_map place_total place_exact _ _ (λ q. got t q ∙ by_key q (q.0 == n) refl ∙ sym (got s q)))
    ∙ entries_retained place_total place_exact s.attachments (λ q. q.0 == n))
  where
    got : (x : State) (q : AttachmentKey) → fin.get (fin.retain_keys x.attachments (λ p. p.0 == n)) q ≡ cond (q.0 == n) (fin.get x.attachments q) None
    got x q = fin.get-retain_keys x.attachments (λ p. p.0 == n) q (λ y e. sym (ap (λ (p : AttachmentKey). p.0 == n) (place_exact q y e)))

    by_key : (q : AttachmentKey) (b : Bool) → (q.0 == n) ≡ b → cond (q.0 == n) (fin.get t.attachments q) None ≡ cond (q.0 == n) (fin.get s.attachments q) None
    by_key q true e = ap (λ x. cond (q.0 == n) x None) (subst (λ (k : ℕ). fin.get t.attachments (k, q.1) ≡ fin.get s.attachments (k, q.1)) (sym (eqb-true q.0 n e)) (h q.1))
    by_key q false e = ap (λ b. cond b (fin.get t.attachments q) None) e ∙ sym (ap (λ b. cond b (fin.get s.attachments q) None) e)

-- a request of another volume changes another volume
not_about : (s : State) (q : Request) (c : Change) (id : Text) (n : ℕ) → number_of_id id ≡ Some n → Does s q c → IsOfOtherId s id q → about c ≡ n → ⊥
not_about s q c id n number (Adds r v is change next name) away e =
    subst (λ (p : Request). IsOfOtherId s id p) is away (number ∙ ap Some (sym e ∙ ap about change ∙ next))
not_about s q c id n number (Removes r k v is change numbered_so there none) away e =
    subst (λ (p : Request). IsOfOtherId s id p) is away (one_number r.volume_id id k n n numbered_so number (sym (ap about change) ∙ e))
not_about s q c id n number (Attaches r k a is change numbered_so node vacant) away e =
    subst (λ (p : Request). IsOfOtherId s id p) is away (one_number r.volume_id id k n n numbered_so number (sym (ap about change) ∙ e))
not_about s q c id n number (Detaches r k a is change numbered_so there) away e =
    subst (λ (p : Request). IsOfOtherId s id p) is away (one_number r.volume_id id k n n numbered_so number (sym (ap about change) ∙ e))
not_about s q c id n number (DetachesAll r k is change numbered_so none some) away e =
    subst (λ (p : Request). IsOfOtherId s id p) is away (one_number r.volume_id id k n n numbered_so number (sym (ap about change) ∙ e))
not_about s q c id n number (Sets r k v is change numbered_so there has) away e =
    subst (λ (p : Request). IsOfOtherId s id p) is away (one_number r.volume_id id k n n numbered_so number (sym (ap about change) ∙ e))

-- ---- a volume under a name

-- the volume with a name after a request on another name
same_named : (config : Config) (s : State) (q : Request) (c : Change) (name : Text) → IsInvariant config s → IsInvariant config (changed s c) → Does s q c → IsOfOtherName s name q → named (changed s c) name ≡ named s name
same_named config s q c name inv later d away = by_name (named s name) refl
  where
    -- the volume with the name is not touched
    untouched : (n : ℕ) (v : Volume) → fin.get s.volumes n ≡ Some v → v.name ≡ name → Does s q c → fin.get (changed s c).volumes n ≡ Some v
    untouched n v there is (Adds r u asks change number named_so) =
        let free : IsFree s c = is_free config s q c inv (Adds r u asks change number named_so) in
        ap (λ (x : Change). fin.get (changed s x).volumes n) change
        ∙ insert_other nat_cmp_total fin.nat_cmp-IsAntisymmetric s.volumes u.number u n (λ e. none_some v (sym (subst (IsFree s) change free) ∙ ap (fin.get s.volumes) (sym e) ∙ there))
        ∙ there
    untouched n v there is (Removes r k u asks change number at none) =
        ap (λ (x : Change). fin.get (changed s x).volumes n) change
        ∙ remove_other nat_cmp_total fin.nat_cmp-IsAntisymmetric s.volumes k n (λ e. subst (λ (p : Request). IsOfOtherName s name p) asks away n v (number ∙ ap Some (sym e)) there is)
        ∙ there
    untouched n v there is (Attaches r k a asks change number node vacant) = ap (λ (x : Change). fin.get (changed s x).volumes n) change ∙ there
    untouched n v there is (Detaches r k a asks change number at) = ap (λ (x : Change). fin.get (changed s x).volumes n) change ∙ there
    untouched n v there is (DetachesAll r k asks change number none some) = ap (λ (x : Change). fin.get (changed s x).volumes n) change ∙ there
    untouched n v there is (Sets r k u asks change number at has) =
        ap (λ (x : Change). fin.get (changed s x).volumes n) change
        ∙ same_volume s (SetMutable k _) n (λ e. subst (λ (p : Request). IsOfOtherName s name p) asks away n v (number ∙ ap Some e) there is)
        ∙ there

    -- no volume got the name
    unnamed : (n : ℕ) (w : Volume) → named s name ≡ None → fin.get (changed s c).volumes n ≡ Some w → w.name ≡ name → Does s q c → ⊥
    unnamed n w none there is (Adds r u asks change number named_so) =
        elim (inserted nat_cmp_total fin.nat_cmp-IsAntisymmetric s.volumes u.number u n w (sym (ap (λ (x : Change). fin.get (changed s x).volumes n) change) ∙ there)) as (λ _. ⊥) [
          | inl x ↦ subst (λ (p : Request). IsOfOtherName s name p) asks away (sym named_so ∙ ap (λ (y : Volume). y.name) x.1 ∙ is)
          | inr old ↦ nobody s name n w none old is
        ]
    unnamed n w none there is (Removes r k u asks change number at gone) =
        nobody s name n w none (removed nat_cmp_total fin.nat_cmp-IsAntisymmetric s.volumes k n w (sym (ap (λ (x : Change). fin.get (changed s x).volumes n) change) ∙ there)).1 is
    unnamed n w none there is (Attaches r k a asks change number node vacant) = nobody s name n w none (sym (ap (λ (x : Change). fin.get (changed s x).volumes n) change) ∙ there) is
    unnamed n w none there is (Detaches r k a asks change number at) = nobody s name n w none (sym (ap (λ (x : Change). fin.get (changed s x).volumes n) change) ∙ there) is
    unnamed n w none there is (DetachesAll r k asks change number gone some) = nobody s name n w none (sym (ap (λ (x : Change). fin.get (changed s x).volumes n) change) ∙ there) is
    unnamed n w none there is (Sets r k u asks change number at has) =
        let old = stood s.volumes k _ n w (sym (ap (λ (x : Change). fin.get (changed s x).volumes n) change) ∙ there) in
        nobody s name n old.0 none old.1 (elim old.2 as (λ _. old.0.name ≡ name) [
          | inl a ↦ ap (λ (y : Volume). y.name) (sym a) ∙ is
          | inr b ↦ ap (λ (y : Volume). y.name) (sym b.1) ∙ is
        ])

    by_name : (o : Option Volume) → named s name ≡ o → named (changed s c) name ≡ named s name
    by_name (Some v) e =
        let f = named_from s name v e in
        named_is config (changed s c) f.number v name later (untouched f.number v f.stands f.is d) f.is ∙ sym e
    by_name None e = none_of _ (λ w h. let f = named_from (changed s c) name w h in unnamed f.number w e f.stands f.is d) ∙ sym e

-- ---- the object of a request

-- the object of a request is the same in two States
abbrev IsUntouched : State → State → Request → Type 0
IsUntouched s t request.PluginInfo = Unit {0}
IsUntouched s t request.PluginCapabilities = Unit {0}
IsUntouched s t request.Probe = Unit {0}
IsUntouched s t request.ControllerCapabilities = Unit {0}
IsUntouched s t (request.Create r) = named t r.name ≡ named s r.name
IsUntouched s t (request.Delete r) = (n : ℕ) → number_of_id r.volume_id ≡ Some n → IsSame s t n
IsUntouched s t (request.Publish r) = (n : ℕ) → number_of_id r.volume_id ≡ Some n → IsSame s t n
IsUntouched s t (request.Unpublish r) = (n : ℕ) → number_of_id r.volume_id ≡ Some n → IsSame s t n
IsUntouched s t (request.Validate r) = (n : ℕ) → number_of_id r.volume_id ≡ Some n → IsSame s t n
IsUntouched s t (request.List r) = t ≡ s
IsUntouched s t (request.Capacity r) = t ≡ s
IsUntouched s t (request.Modify r) = (n : ℕ) → number_of_id r.volume_id ≡ Some n → IsSame s t n

same_same : (s t u : State) (n : ℕ) → IsSame s t n → IsSame t u n → IsSame s u n
same_same s t u n a b = record { volume = b.volume ∙ a.volume; rows = λ d. b.rows d ∙ a.rows d }

itself : (s : State) (n : ℕ) → IsSame s s n
itself s n = record { volume = refl; rows = λ d. refl }

untouched_itself : (s : State) (r : Request) → IsUntouched s s r
untouched_itself s request.PluginInfo = tt
untouched_itself s request.PluginCapabilities = tt
untouched_itself s request.Probe = tt
untouched_itself s request.ControllerCapabilities = tt
untouched_itself s (request.Create r) = refl
untouched_itself s (request.Delete r) = λ n e. itself s n
untouched_itself s (request.Publish r) = λ n e. itself s n
untouched_itself s (request.Unpublish r) = λ n e. itself s n
untouched_itself s (request.Validate r) = λ n e. itself s n
untouched_itself s (request.List r) = refl
untouched_itself s (request.Capacity r) = refl
untouched_itself s (request.Modify r) = λ n e. itself s n

untouched_then : (s t u : State) (r : Request) → IsUntouched s t r → IsUntouched t u r → IsUntouched s u r
untouched_then s t u request.PluginInfo a b = tt
untouched_then s t u request.PluginCapabilities a b = tt
untouched_then s t u request.Probe a b = tt
untouched_then s t u request.ControllerCapabilities a b = tt
untouched_then s t u (request.Create r) a b = b ∙ a
untouched_then s t u (request.Delete r) a b = λ n e. same_same s t u n (a n e) (b n e)
untouched_then s t u (request.Publish r) a b = λ n e. same_same s t u n (a n e) (b n e)
untouched_then s t u (request.Unpublish r) a b = λ n e. same_same s t u n (a n e) (b n e)
untouched_then s t u (request.Validate r) a b = λ n e. same_same s t u n (a n e) (b n e)
untouched_then s t u (request.List r) a b = b ∙ a
untouched_then s t u (request.Capacity r) a b = b ∙ a
untouched_then s t u (request.Modify r) a b = λ n e. same_same s t u n (a n e) (b n e)

module _ (config : Config) where
  changed_by : (s : State) (q : Request) (c : Change) → IsInvariant config s → IsInvariant config (changed s c) → (plan config s q).change ≡ Some c → (r : Request) → IsOfOtherVolume s q r → IsUntouched s (changed s c) r
  changed_by s q c inv later e = by_request
    where
      d : Does s q c
      d = does config s q c inv e

      of_id : (id : Text) → IsOfOtherId s id q → (n : ℕ) → number_of_id id ≡ Some n → IsSame s (changed s c) n
      of_id id away n number =
          let far : about c ≡ n → ⊥ = not_about s q c id n number d away in
          record { volume = same_volume s c n far; rows = λ node. same_row s c n node far }

      still : is_read q ≡ true → changed s c ≡ s
      still is = absurd (none_some c (sym (plan_still config s q is) ∙ e))

      by_request : (r : Request) → IsOfOtherVolume s q r → IsUntouched s (changed s c) r
      by_request request.PluginInfo away = tt
      by_request request.PluginCapabilities away = tt
      by_request request.Probe away = tt
      by_request request.ControllerCapabilities away = tt
      by_request (request.Create r) away = same_named config s q c r.name inv later d away
      by_request (request.Delete r) away = of_id r.volume_id away
      by_request (request.Publish r) away = of_id r.volume_id away
      by_request (request.Unpublish r) away = of_id r.volume_id away
      by_request (request.Validate r) away = of_id r.volume_id away
      by_request (request.List r) away = still away
      by_request (request.Capacity r) away = still away
      by_request (request.Modify r) away = of_id r.volume_id away

  step_untouched : (s : State) (q r : Request) → IsInvariant config s → IsInvariant config (step config s q).1 → IsOfOtherVolume s q r → IsUntouched s (step config s q).1 r
  step_untouched s q r inv later away = by_reported (reported_of (plan config s q).outcome) later
    where
      by_change : (o : Option Change) → (plan config s q).change ≡ o → IsInvariant config (after s o) → IsUntouched s (after s o) r
      by_change None e i = untouched_itself s r
      by_change (Some c) e i = changed_by s q c inv i e r away

      by_reported : (w : Report) → IsInvariant config (moved s (after s (plan config s q).change) w) → IsUntouched s (moved s (after s (plan config s q).change) w) r
      by_reported (Denies why) i = untouched_itself s r
      by_reported (Says b) i = by_change (plan config s q).change refl i

  untouched : Keep config → (qs : List Request) (s : State) (r : Request) → IsInvariant config s → AllByRecursion (λ q. checked q ≡ None) qs → AreOfOtherVolumes config s qs r → IsUntouched s (after_once config s qs) r
  untouched keep [] s r inv passed away = untouched_itself s r
  untouched keep (q ∷ qs) s r inv passed away =
      let later = keep s q inv passed.0 in
      untouched_then s (step config s q).1 (after_once config (step config s q).1 qs) r (step_untouched s q r inv later away.0) (untouched keep qs (step config s q).1 r later passed.1 away.1)

-- ---- the effect of a request on its object

abbrev EitherFull : Plan → Plan → Type 0
EitherFull p q = (p ≡ q) ⊎ ((p ≡ refuse NodeFull) ⊎ (q ≡ refuse NodeFull))

abbrev target : ℕ → List CapKey → Node → List Attachment → ℕ → Target
target n caps node rows there = record { number = n; caps = caps; attachments = rows; node = node; there = there }

full_or_same : (n : ℕ) (caps : List CapKey) (node : Node) (rows : List Attachment) (i j : ℕ) (mine : Attachment) → EitherFull (attach (target n caps node rows i) mine) (attach (target n caps node rows j) mine)
full_or_same n caps node rows i j mine = by_test (not (has_key caps (Some mine.cap))) (has_conflict mine rows) (nat_le node.max_volumes i) (nat_le node.max_volumes j)
  where
    by_test : (p q f g : Bool)
        → EitherFull (cond p (refuse CapabilityNotOfVolume) (cond q (refuse PublishedElsewhere) (cond f (refuse NodeFull) (make (response.Publish (publication mine.readonly)) (Attach n mine)))))
        (cond p (refuse CapabilityNotOfVolume) (cond q (refuse PublishedElsewhere) (cond g (refuse NodeFull) (make (response.Publish (publication mine.readonly)) (Attach n mine)))))
    by_test true q f g = inl refl
    by_test false true f g = inl refl
    by_test false false true g = inr (inl refl)
    by_test false false false true = inr (inr refl)
    by_test false false false false = inl refl

publish_alike : (config : Config) (s t : State) (r : Publish) → ((n : ℕ) → number_of_id r.volume_id ≡ Some n → IsSame s t n)
    → EitherFull (publish_found config t r (volume_at t (number_of_id r.volume_id))) (publish_found config s r (volume_at s (number_of_id r.volume_id)))
publish_alike config s t r same = by_number (number_of_id r.volume_id) refl
  where
    by_found : (n : ℕ) (v : Volume) (node : Node) (key : CapKey) (rows : List Attachment) (o : Option Attachment)
        → EitherFull (publish_key (target n v.caps node rows (count_at t r.node_id)) r o key) (publish_key (target n v.caps node rows (count_at s r.node_id)) r o key)
    by_found n v node key rows (Some a) = inl refl
    by_found n v node key rows None = full_or_same n v.caps node rows (count_at t r.node_id) (count_at s r.node_id) (wanted r.node_id r.readonly key)

    by_key : (n : ℕ) (v : Volume) (node : Node) → attached t n ≡ attached s n → (o : Option CapKey) → EitherFull (publish_at (target_in t n v.caps r node) r o) (publish_at (target_in s n v.caps r node) r o)
    by_key n v node rows None = inl refl
    by_key n v node rows (Some key) =
        subst (λ (l : List Attachment). EitherFull (publish_key (target n v.caps node l (count_at t r.node_id)) r (find (is_at r.node_id) l) key)
        (publish_key (target n v.caps node (attached s n) (count_at s r.node_id)) r (find (is_at r.node_id) (attached s n)) key)) (sym rows)
        (by_found n v node key (attached s n) (find (is_at r.node_id) (attached s n)))

    by_node : (n : ℕ) (v : Volume) → attached t n ≡ attached s n → (o : Option Node) → EitherFull (publish_node t n v.caps r o) (publish_node s n v.caps r o)
    by_node n v rows None = inl refl
    by_node n v rows (Some node) = by_key n v node rows (requested_key r.capability)

    by_volume : (n : ℕ) → attached t n ≡ attached s n → (o : Option Volume) → EitherFull (publish_found config t r (numbered n o)) (publish_found config s r (numbered n o))
    by_volume n rows None = inl refl
    by_volume n rows (Some v) = by_node n v rows (node_of config r.node_id)

    by_number : (o : Option ℕ) → number_of_id r.volume_id ≡ o → EitherFull (publish_found config t r (volume_at t o)) (publish_found config s r (volume_at s o))
    by_number None is = inl refl
    by_number (Some n) is =
        let here = same n is in
        subst (λ (o : Option Volume). EitherFull (publish_found config t r (numbered n o)) (publish_found config s r (numbered n (fin.get s.volumes n)))) (sym here.volume)
        (by_volume n (same_attached s t n here.rows) (fin.get s.volumes n))

delete_alike : (s t : State) (o : Option ℕ) → ((n : ℕ) → o ≡ Some n → IsSame s t n) → delete_found t (volume_at t o) ≡ delete_found s (volume_at s o)
delete_alike s t None same = refl
delete_alike s t (Some n) same =
    let here = same n refl in
    ap (λ (o : Option Volume). delete_found t (numbered n o)) here.volume ∙ by_volume (same_attached s t n here.rows) (fin.get s.volumes n)
  where
    by_volume : attached t n ≡ attached s n → (o : Option Volume) → delete_found t (numbered n o) ≡ delete_found s (numbered n o)
    by_volume rows None = refl
    by_volume rows (Some v) = ap (delete_volume n) rows

unpublish_alike : (s t : State) (node : Text) (o : Option ℕ) → ((n : ℕ) → o ≡ Some n → IsSame s t n) → unpublish_number t node o ≡ unpublish_number s node o
unpublish_alike s t node None same = refl
unpublish_alike s t node (Some n) same = ap (detach n node) (same_attached s t n (same n refl).rows)

volume_alike : (s t : State) (o : Option ℕ) → ((n : ℕ) → o ≡ Some n → IsSame s t n) → volume_at t o ≡ volume_at s o
volume_alike s t None same = refl
volume_alike s t (Some n) same = ap (numbered n) (same n refl).volume

alike : (config : Config) (s t : State) (r : Request) → IsUntouched s t r → IsPlannedAsBefore config s t r
alike config s t request.PluginInfo same = refl
alike config s t request.PluginCapabilities same = refl
alike config s t request.Probe same = refl
alike config s t request.ControllerCapabilities same = refl
alike config s t (request.Create r) same = ap (create_named config t r) same
alike config s t (request.Delete r) same = delete_alike s t (number_of_id r.volume_id) same
alike config s t (request.Publish r) same = publish_alike config s t r same
alike config s t (request.Unpublish r) same = unpublish_alike s t r.node_id (number_of_id r.volume_id) same
alike config s t (request.Validate r) same = ap (validate_found r) (volume_alike s t (number_of_id r.volume_id) same)
alike config s t (request.List r) same = ap (λ (x : State). plan config x (request.List r)) same
alike config s t (request.Capacity r) same = ap (λ (x : State). plan config x (request.Capacity r)) same
alike config s t (request.Modify r) same = ap (modify_found r) (volume_alike s t (number_of_id r.volume_id) same)

pub later : (config : Config) → Keep config → (qs : List Request) (s : State) (r : Request) → IsInvariant config s → AllByRecursion (λ q. checked q ≡ None) qs → AreOfOtherVolumes config s qs r
    → IsPlannedAsBefore config s (after_once config s qs) r
later config keep qs s r inv passed away = alike config s (after_once config s qs) r (untouched config keep qs s r inv passed away)
