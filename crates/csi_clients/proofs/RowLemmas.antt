-- Attachments as entries of their map, and volumes by their names.
use Rattle.std.proofs.Common.{◌≡◌, ◌∙◌, ap, sym, subst, cond, refl, ℕ, ◌==◌, List, [], ◌∷◌, map, filter, find, Bool, true, false, Option, Some, None, Ordering, eq-eqb, eqb-true}
use Rattle.std.specs.Cmp.{IsTotalOrder, nat_cmp_total}
use Rattle.std.specs.FinMap as fin
use Rattle.std.specs.List.{AllByRecursion}
use Rattle.std.specs.Ordering.{eq_by_cmp}
use lib.Pointwise.{bytes_decides}
use Rattle.csi_types.specs.Maps.{same_text}
use Rattle.csi_config.specs.declared.config.Config.{Config}
use Rattle.csi_keeper.specs.Invariant.{IsInvariant}
use Rattle.csi_keeper.specs.State.{State, AttachmentKey, attachment_key_cmp, attached, named}
use Rattle.csi_keeper.specs.Texts.{Text}
use Rattle.csi_keeper.specs.declared.volume.Attachment.{Attachment}
use Rattle.csi_keeper.specs.declared.volume.Volume.{Volume}
use Rattle.csi_keeper.specs.facts.Finite.{none_some, same_some, tied, all_entries}
use Rattle.csi_keeper.specs.facts.Names.{nobody}
use Rattle.csi_keeper.specs.facts.Orders.{place_total, place_exact}
use Rattle.csi_machine.specs.calls.Publish.{is_at}

pub same_is : (a b : Text) → same_text a b ≡ true → a ≡ b
same_is a b h = (bytes_decides a b).0 h

pub is_same : (a b : Text) → a ≡ b → same_text a b ≡ true
is_same a b h = (bytes_decides a b).1 h

pub none_of : {A : Type 0} (o : Option A) → ((x : A) → o ≡ Some x → ⊥) → o ≡ None
none_of None never = refl
none_of (Some x) never = absurd (never x refl)

module _ {K X : Type 0} {R : K → K → Ordering} (o : IsTotalOrder R) (exact : fin.IsAntisymmetric R) where
  -- another key keeps its value
  pub remove_other : (m : fin.FinMap R X) (k q : K) → (q ≡ k → ⊥) → fin.get (fin.remove m k) q ≡ fin.get m q
  remove_other m k q far = fin.get-remove o m k q ∙ elim (eq_by_cmp R q k) as (λ b. eq_by_cmp R q k ≡ b → cond b None (fin.get m q) ≡ fin.get m q) [
    | true ↦ λ t. absurd (far (exact q k (tied _ t)))
    | false ↦ λ t. refl
  ] refl

-- ---- attachments

abbrev pub Row : Type 0
Row = AttachmentKey × Attachment

-- the first row of a volume that passes
abbrev first_of_rows : (Attachment → Bool) → ℕ → List Row → Option Attachment
first_of_rows p n es = find p (map (λ e. e.1) (filter (λ e. e.0.0 == n) es))

-- no item passes
none_among : (es : List Row) (n : ℕ) (p : Attachment → Bool) → AllByRecursion (λ e. e.0.0 ≡ n → p e.1 ≡ false) es → first_of_rows p n es ≡ None
none_among [] n p h = refl
none_among (e ∷ es) n p h = go (none_among es n p h.1) (e.0.0 == n) refl
  where
    go : first_of_rows p n es ≡ None → (b : Bool) → (e.0.0 == n) ≡ b → find p (map (λ e. e.1) (cond b (e ∷ filter (λ e. e.0.0 == n) es) (filter (λ e. e.0.0 == n) es))) ≡ None
    go more true t = ap (λ b. cond b (Some e.1) (first_of_rows p n es)) (h.0 (eqb-true _ _ t)) ∙ more
    go more false t = more

-- the row that is found is the row that passes
one_among : (es : List Row) (n : ℕ) (p : Attachment → Bool) (a x : Attachment) → AllByRecursion (λ e. e.0.0 ≡ n → p e.1 ≡ true → e.1 ≡ x) es → first_of_rows p n es ≡ Some a → a ≡ x
one_among [] n p a x h f = absurd (none_some a f)
one_among (e ∷ es) n p a x h f = go (one_among es n p a x h.1) (e.0.0 == n) refl f
  where
    by_test : (first_of_rows p n es ≡ Some a → a ≡ x) → e.0.0 ≡ n → (b : Bool) → p e.1 ≡ b → cond b (Some e.1) (first_of_rows p n es) ≡ Some a → a ≡ x
    by_test more is true t k = sym (same_some e.1 a k) ∙ h.0 is t
    by_test more is false t k = more k

    go : (first_of_rows p n es ≡ Some a → a ≡ x) → (b : Bool) → (e.0.0 == n) ≡ b
        → find p (map (λ e. e.1) (cond b (e ∷ filter (λ e. e.0.0 == n) es) (filter (λ e. e.0.0 == n) es))) ≡ Some a → a ≡ x
    go more true t k = by_test more (eqb-true _ _ t) (p e.1) refl k
    go more false t k = more k

-- no attachment of the volume passes if the search finds nothing
none_at : (es : List Row) (p : Attachment → Bool) (n : ℕ) (d : Text) (a : Attachment) → first_of_rows p n es ≡ None → fin.find attachment_key_cmp (n, d) es ≡ Some a → p a ≡ false
none_at [] p n d a none f = absurd (none_some a f)
none_at (r ∷ es) p n d a none f = go (eq_by_cmp attachment_key_cmp (n, d) r.0) refl (r.0.0 == n) refl f none (none_at es p n d a)
  where
    first : (x : Bool) (y : Attachment) (o : Option Attachment) → cond x (Some y) o ≡ None → x ≡ false
    first true y o h = absurd (none_some y (sym h))
    first false y o h = refl

    second : (x : Bool) (y : Attachment) (o : Option Attachment) → cond x (Some y) o ≡ None → o ≡ None
    second true y o h = absurd (none_some y (sym h))
    second false y o h = h

    go : (b : Bool) → eq_by_cmp attachment_key_cmp (n, d) r.0 ≡ b → (g : Bool) → (r.0.0 == n) ≡ g → cond b (Some r.1) (fin.find attachment_key_cmp (n, d) es) ≡ Some a
        → find p (map (λ e. e.1) (cond g (r ∷ filter (λ e. e.0.0 == n) es) (filter (λ e. e.0.0 == n) es))) ≡ None
        → (first_of_rows p n es ≡ None → fin.find attachment_key_cmp (n, d) es ≡ Some a → p a ≡ false) → p a ≡ false
    go true t true u f h more = subst (λ (x : Attachment). p x ≡ false) (same_some _ _ f) (first (p r.1) r.1 _ h)
    go true t false u f h more = let here : (n, d) ≡ r.0 = place_exact (n, d) r.0 (tied _ t) in let y : r.0.0 ≡ n = sym (ap (λ (q : AttachmentKey). q.0) here) in absurd (cc (eq-eqb r.0.0 n y, u))
    go false t true u f h more = more (second (p r.1) r.1 _ h) f
    go false t false u f h more = more h f

pub passes_none : (s : State) (p : Attachment → Bool) (n : ℕ) (d : Text) (a : Attachment) → find p (attached s n) ≡ None → fin.get s.attachments (n, d) ≡ Some a → p a ≡ false
passes_none s p n d a none e = none_at (fin.entries s.attachments) p n d a none (sym (fin.get-entries s.attachments (n, d)) ∙ e)

all_rows : (s : State) (P : AttachmentKey → Attachment → Type 0) → ((q : AttachmentKey) (a : Attachment) → fin.get s.attachments q ≡ Some a → P q a) → AllByRecursion (λ e. P e.0 e.1) (fin.entries s.attachments)
all_rows s P h = all_entries place_total place_exact P s.attachments h

-- a volume without attachments
empty_by : {A : Type 0} (xs : List A) → find (λ x. true) xs ≡ None → xs ≡ []
empty_by [] h = refl
empty_by (x ∷ xs) h = absurd (none_some x (sym h))

pub none_rows : (s : State) (n : ℕ) → ((q : AttachmentKey) (a : Attachment) → fin.get s.attachments q ≡ Some a → q.0 ≡ n → ⊥) → attached s n ≡ []
none_rows s n h =
    empty_by (attached s n)
    (none_among (fin.entries s.attachments) n (λ a. true) (all_rows s (λ q a. q.0 ≡ n → true ≡ false) (λ q a e is. absurd (h q a e is))))

pub unattached : (s : State) (n : ℕ) (d : Text) (a : Attachment) → attached s n ≡ [] → fin.get s.attachments (n, d) ≡ Some a → ⊥
unattached s n d a none e =
    let off : ◌≡◌ {A = Bool} true false = passes_none s (λ a. true) n d a (ap (find (λ (a : Attachment). true)) none) e in
    absurd (cc)

-- the attachment that is found at a node is the attachment in the map
pub found_at : (config : Config) (s : State) (n : ℕ) (node : Text) → IsInvariant config s → find (is_at node) (attached s n) ≡ fin.get s.attachments (n, node)
found_at config s n node inv = go (fin.get s.attachments (n, node)) refl
  where
    at : (q : AttachmentKey) (a : Attachment) → fin.get s.attachments q ≡ Some a → q.0 ≡ n → is_at node a ≡ true → fin.get s.attachments (n, node) ≡ Some a
    at q a e is t =
        let there : q.1 ≡ node = sym (inv.attachments q.0 q.1 a e).at ∙ same_is a.node node t in
        let same : q ≡ (n, node) = λ i. (is i, there i) in
        subst (λ (p : AttachmentKey). fin.get s.attachments p ≡ Some a) same e

    off : fin.get s.attachments (n, node) ≡ None → (q : AttachmentKey) (a : Attachment) → fin.get s.attachments q ≡ Some a → q.0 ≡ n → is_at node a ≡ false
    off vacant q a e is = by_test (is_at node a) refl
      where
        by_test : (b : Bool) → is_at node a ≡ b → b ≡ false
        by_test false t = refl
        by_test true t = absurd (none_some a (sym vacant ∙ at q a e is t))

    there : (a : Attachment) → fin.get s.attachments (n, node) ≡ Some a → (o : Option Attachment) → find (is_at node) (attached s n) ≡ o → o ≡ Some a
    there a e None f =
        let far : is_at node a ≡ false = passes_none s (is_at node) n node a f e in
        let near : is_at node a ≡ true = is_same a.node node (inv.attachments n node a e).at in
        absurd (cc (far, near))
    there a e (Some b) f = ap Some (one_among (fin.entries s.attachments) n (is_at node) b a (all_rows s (λ q x. q.0 ≡ n → is_at node x ≡ true → x ≡ a) (λ q x h is t. same_some x a (sym (at q x h is t) ∙ e))) f)

    go : (o : Option Attachment) → fin.get s.attachments (n, node) ≡ o → find (is_at node) (attached s n) ≡ o
    go None e = none_among (fin.entries s.attachments) n (is_at node) (all_rows s (λ q a. q.0 ≡ n → is_at node a ≡ false) (off e))
    go (Some a) e = there a e (find (is_at node) (attached s n)) refl

-- ---- volumes by name

-- a volume that is found under a name
pub record Named (s : State) (name : Text) (v : Volume) : Type 0 where
  pub number : ℕ
  pub stands : fin.get s.volumes number ≡ Some v
  pub is : v.name ≡ name

pub named_from : (s : State) (name : Text) (v : Volume) → named s name ≡ Some v → Named s name v
named_from s name v f = go (fin.entries s.volumes) (all_entries nat_cmp_total fin.nat_cmp-IsAntisymmetric (λ k w. fin.get s.volumes k ≡ Some w) s.volumes (λ k w e. e)) f
  where
    go : (es : List (ℕ × Volume)) → AllByRecursion (λ e. fin.get s.volumes e.0 ≡ Some e.1) es → find (λ v. same_text v.name name) (map (λ e. e.1) es) ≡ Some v → Named s name v
    go [] h k = absurd (none_some v k)
    go (e ∷ es) h k = by_test (go es h.1) (same_text e.1.name name) refl k
      where
        by_test : (find (λ v. same_text v.name name) (map (λ e. e.1) es) ≡ Some v → Named s name v) → (b : Bool) → same_text e.1.name name ≡ b
            → cond b (Some e.1) (find (λ v. same_text v.name name) (map (λ e. e.1) es)) ≡ Some v → Named s name v
        by_test more true t k =
            let same : e.1 ≡ v = same_some e.1 v k in
            record { number = e.0; stands = h.0 ∙ ap Some same; is = ap (λ (x : Volume). x.name) (sym same) ∙ same_is e.1.name name t }
        by_test more false t k = more k

pub named_is : (config : Config) (s : State) (n : ℕ) (v : Volume) (name : Text) → IsInvariant config s → fin.get s.volumes n ≡ Some v → v.name ≡ name → named s name ≡ Some v
named_is config s n v name inv stands is = go (named s name) refl
  where
    go : (o : Option Volume) → named s name ≡ o → o ≡ Some v
    go None e = absurd (nobody s name n v e stands is)
    go (Some w) e =
        let f = named_from s name w e in
        let same : f.number ≡ n = inv.names f.number n w v f.stands stands (f.is ∙ sym is) in
        ap Some (same_some w v (sym f.stands ∙ ap (fin.get s.volumes) same ∙ stands))
