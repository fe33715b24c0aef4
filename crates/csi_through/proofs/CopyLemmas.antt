-- A copy, after volume after volume is restored.
use Rattle.std.proofs.Common.{◌≡◌, ◌∙◌, inl, inr, ap, sym, subst, cond, append-nil, arith, length-append, refl, ℕ, zero, suc, ◌+◌, ◌-◌, ◌<◌, ◌≤◌, max, nat_lt, not, ◌==◌, List, [], ◌∷◌, ◌++◌, length, get_or, map, find, take, Bool, true, false, T, Option, Some, None, IsSome, Ordering, eqb-true, eq-eqb}
use Rattle.std.proofs.Math.Nat.{sub-add-eq-max}
use Rattle.std.proofs.lemmas.Bool.Decides.{leb_tells}
use Rattle.std.proofs.lemmas.Cmp.{tied_itself}
use Rattle.std.specs.Cmp.{IsTotalOrder, nat_cmp_total}
use Rattle.std.specs.FinMap as fin
use Rattle.std.specs.FinMap.Entries.{below_all}
use Rattle.std.specs.List.{AllByRecursion}
use Rattle.std.specs.Ordering.{nat_cmp, eq_by_cmp, is_eq}
use lib.Pointwise.{bytes_decides}
use Rattle.csi_types.specs.Maps.{same_text}
use Rattle.csi_config.specs.declared.config.Config.{Config}
use Rattle.csi_keeper.specs.Invariant.{IsInvariant}
use Rattle.csi_memory.specs.Restoring.{CanRestore, from_number, restored}
use Rattle.csi_keeper.specs.State.{State, AttachmentKey, attachment_key_cmp, attached, beyond, changed, named, page, published, Allows, first_state}
use Rattle.csi_keeper.specs.Texts.{Text}
use Rattle.csi_keeper.specs.declared.change.Change.TheVariants.{Attach}
use Rattle.csi_keeper.specs.declared.volume.Attachment.{Attachment}
use Rattle.csi_keeper.specs.declared.volume.Volume.{Volume}
use Rattle.csi_keeper.specs.facts.Finite.{all_entries, both, entries_retained, found_below, less_apart, none_some, tied}
use Rattle.csi_keeper.specs.facts.Orders.{less_is, place_exact, place_total}
use Rattle.csi_through.specs.Copying.{AllowsEach, AreNext, IsHeld, IsNext, attached_each, last_number, up_to}

-- ---- numbers

below : (n k : ℕ) → k ≤ n → not (nat_lt n k) ≡ true
below n k h = elim (leb_tells (suc n) k) as (λ _. not (nat_lt n k) ≡ true) [ inl x ↦ absurd (omega (arith, x.1, h)) | inr x ↦ ap not x.0 ]

above : (n k : ℕ) → n < k → not (nat_lt n k) ≡ false
above n k h = elim (leb_tells (suc n) k) as (λ _. not (nat_lt n k) ≡ false) [ inl x ↦ ap not x.0 | inr x ↦ absurd (omega (arith, x.1, h)) ]

-- a number that passes the condition is at most n
kept : (n k : ℕ) → not (nat_lt n k) ≡ true → k ≤ n
kept n k e = elim (leb_tells (suc n) k) as (λ _. k ≤ n) [ inl x ↦ absurd (cc (e, ap not x.0)) | inr x ↦ omega (arith, x.1) ]

apart : (q k : ℕ) → eq_by_cmp nat_cmp q k ≡ false → q ≡ k → ⊥
apart q k e same = let y : eq_by_cmp nat_cmp q q ≡ true = ap is_eq (tied_itself nat_cmp_total q) in let z : eq_by_cmp nat_cmp q q ≡ false = subst (λ (j : ℕ). eq_by_cmp nat_cmp q j ≡ false) (sym same) e in absurd (cc (y, z))

no_choice : {X : Type 0} (b : Bool) → ◌≡◌ {A = Option X} (cond b None None) None
no_choice true = refl
no_choice false = refl

-- ---- the volumes up to a number

module _ (s : State) (n : ℕ) where
  kept_volumes : (q : ℕ) → fin.get (up_to s n).volumes q ≡ cond (not (nat_lt n q)) (fin.get s.volumes q) None
  kept_volumes q = fin.get-retain_keys s.volumes (λ k. not (nat_lt n k)) q (λ x t. ap (λ (k : ℕ). not (nat_lt n k)) (sym (fin.nat_cmp-IsAntisymmetric q x t)))

  kept_places : (q : AttachmentKey) → fin.get (up_to s n).attachments q ≡ cond (not (nat_lt n q.0)) (fin.get s.attachments q) None
  kept_places q = fin.get-retain_keys s.attachments (λ p. not (nat_lt n p.0)) q (λ x t. ap (λ (p : AttachmentKey). not (nat_lt n p.0)) (sym (place_exact q x t)))

  kept_volume : (k : ℕ) (w : Volume) → fin.get (up_to s n).volumes k ≡ Some w → (k ≤ n) × (fin.get s.volumes k ≡ Some w)
  kept_volume k w e = go (not (nat_lt n k)) refl (sym (kept_volumes k) ∙ e)
    where
      go : (b : Bool) → not (nat_lt n k) ≡ b → cond b (fin.get s.volumes k) None ≡ Some w → (k ≤ n) × (fin.get s.volumes k ≡ Some w)
      go true t h = (kept n k t, h)
      go false t h = absurd (none_some w h)

-- no volume comes before the first number
module _ (config : Config) (s : State) (inv : IsInvariant config s) where
  no_volume : (q : ℕ) → None ≡ fin.get (up_to s 0).volumes q
  no_volume q = go (not (nat_lt 0 q)) refl (fin.get s.volumes q) refl ∙ sym (kept_volumes s 0 q)
    where
      go : (b : Bool) → not (nat_lt 0 q) ≡ b → (o : Option Volume) → fin.get s.volumes q ≡ o → None ≡ cond b o None
      go false t o e = refl
      go true t None e = refl
      go true t (Some v) e = absurd (let given = (inv.volumes q v e).given.0 in let low = kept 0 q t in omega (arith, given, low))

  no_place : (q : AttachmentKey) → None ≡ fin.get (up_to s 0).attachments q
  no_place q = go (not (nat_lt 0 q.0)) refl (fin.get s.attachments q) refl ∙ sym (kept_places s 0 q)
    where
      go : (b : Bool) → not (nat_lt 0 q.0) ≡ b → (o : Option Attachment) → fin.get s.attachments q ≡ o → None ≡ cond b o None
      go false t o e = refl
      go true t None e = refl
      go true t (Some a) e = absurd (let on = inv.attachments q.0 q.1 a e in let given = (inv.volumes q.0 on.volume on.stands).given.0 in let low = kept 0 q.0 t in omega (arith, given, low))

  pub begins : first_state 1 ≡ up_to s 0
  begins =
      let volumes : fin.empty ≡ (up_to s 0).volumes = fin.same_map nat_cmp_total fin.nat_cmp-IsAntisymmetric _ _ (λ q. fin.get-empty nat_cmp q ∙ no_volume q) in
      let places : fin.empty ≡ (up_to s 0).attachments = fin.same_map place_total place_exact _ _ (λ q. fin.get-empty attachment_key_cmp q ∙ no_place q) in
      λ i. record { next = 1; volumes = volumes i; attachments = places i }

-- ---- one more volume

find_none : (name : Text) (es : List (ℕ × Volume)) → AllByRecursion (λ e. e.1.name ≡ name → ⊥) es → find (λ w. same_text w.name name) (map (λ e. e.1) es) ≡ None
find_none name [] all = refl
find_none name (e ∷ es) all = go (same_text e.1.name name) refl (find_none name es all.1)
  where
    go : (b : Bool) → same_text e.1.name name ≡ b → find (λ w. same_text w.name name) (map (λ e. e.1) es) ≡ None → cond b (Some e.1) (find (λ w. same_text w.name name) (map (λ e. e.1) es)) ≡ None
    go true t more = absurd (all.0 ((bytes_decides e.1.name name).0 t))
    go false t more = more

module _ (config : Config) (s : State) (n : ℕ) (v : Volume) (inv : IsInvariant config s) (next : IsNext s n v) where
  unnamed : named (up_to s n) v.name ≡ None
  unnamed = find_none v.name (fin.entries (up_to s n).volumes) (all_entries nat_cmp_total fin.nat_cmp-IsAntisymmetric (λ k (w : Volume). w.name ≡ v.name → ⊥) (up_to s n).volumes (λ k w e is.
      let old = kept_volume s n k w e in
      let same : k ≡ v.number = inv.names k v.number w v old.1 next.stands is in
      let greater = next.greater in
      let low = old.0 in
      omega (arith, same, greater, low)))

  can : CanRestore (up_to s n) v
  can = (
    omega (arith, next.greater),
    kept_volumes s n v.number ∙ ap (λ b. cond b (fin.get s.volumes v.number) None) (above n v.number next.greater),
    unnamed,
  )

  -- the State with the volume, and with its attachments still to come
  abbrev half : State
  half = record { next = v.number + 1; volumes = (up_to s v.number).volumes; attachments = (up_to s n).attachments }

  one_more : (q : ℕ) → fin.get (fin.insert (up_to s n).volumes v.number v) q ≡ fin.get (up_to s v.number).volumes q
  one_more q = fin.get-insert nat_cmp_total (up_to s n).volumes v.number v q ∙ go (eq_by_cmp nat_cmp q v.number) refl ∙ sym (kept_volumes s v.number q)
    where
      old : (o : Option Volume) → fin.get s.volumes q ≡ o → (q ≡ v.number → ⊥) → cond (not (nat_lt n q)) o None ≡ cond (not (nat_lt v.number q)) o None
      old None e far = no_choice (not (nat_lt n q)) ∙ sym (no_choice (not (nat_lt v.number q)))
      old (Some w) e far = elim (leb_tells (suc n) q) as (λ _. cond (not (nat_lt n q)) (Some w) None ≡ cond (not (nat_lt v.number q)) (Some w) None) [
        | inl x ↦
            let first : v.number ≤ q = next.first q w e x.1 in
            let over : v.number < q = elim (leb_tells (suc v.number) q) as (λ _. v.number < q) [ inl y ↦ y.1 | inr y ↦ absurd (far (omega (arith, first, y.1))) ] in
            ap (λ b. cond b (Some w) None) (above n q x.1) ∙ sym (ap (λ b. cond b (Some w) None) (above v.number q over))
        | inr x ↦
            let greater = next.greater in
            ap (λ b. cond b (Some w) None) (below n q (omega (arith, x.1))) ∙ sym (ap (λ b. cond b (Some w) None) (below v.number q (omega (arith, x.1, greater))))
      ]

      go : (b : Bool) → eq_by_cmp nat_cmp q v.number ≡ b → cond b (Some v) (fin.get (up_to s n).volumes q) ≡ cond (not (nat_lt v.number q)) (fin.get s.volumes q) None
      go true t =
          let same : q ≡ v.number = fin.nat_cmp-IsAntisymmetric q v.number (tied _ t) in
          sym (ap (λ b. cond b (fin.get s.volumes q) None) (below v.number q (omega (arith, same))) ∙ ap (fin.get s.volumes) same ∙ next.stands)
      go false t = kept_volumes s n q ∙ old (fin.get s.volumes q) refl (apart q v.number t)

  is_half : restored (up_to s n) v ≡ half
  is_half =
      let greater = next.greater in
      let whole : n + 1 - v.number + v.number ≡ v.number = omega (arith, greater) in
      let number : max (n + 1) v.number ≡ v.number = sym (sub-add-eq-max (n + 1) v.number) ∙ whole in
      let volumes : fin.insert (up_to s n).volumes v.number v ≡ (up_to s v.number).volumes = fin.same_map nat_cmp_total fin.nat_cmp-IsAntisymmetric _ _ one_more in
      λ i. record { next = number i + 1; volumes = volumes i; attachments = (up_to s n).attachments }

-- ---- its attachments

abbrev or_else : {X : Type 0} → Option X → Option X → Option X
or_else None y = y
or_else (Some x) y = Some x

module _ {K X : Type 0} {R : K → K → Ordering} (o : IsTotalOrder R) (exact : fin.IsAntisymmetric R) where
  abbrev put_each : fin.FinMap R X → List (K × X) → fin.FinMap R X
  put_each m [] = m
  put_each m (e ∷ es) = put_each (fin.insert m e.0 e.1) es

  -- the head of a rising list does not occur again in it
  head_apart : (e : K × X) (es : List (K × X)) (q : K) (x : X) → T (fin.is_sorted R (e ∷ es)) → fin.find R q es ≡ Some x → eq_by_cmp R q e.0 ≡ false
  head_apart e es q x rises f = less_apart (R q e.0) (R e.0 q) (o.antisymm q e.0) (found_below o exact e.0 q x es (both (below_all R e.0 es) (fin.is_sorted R es) rises).0 f)

  get_put : (m : fin.FinMap R X) (es : List (K × X)) → T (fin.is_sorted R es) → (q : K) → fin.get (put_each m es) q ≡ or_else (fin.find R q es) (fin.get m q)
  get_put m [] rises q = refl
  get_put m (e ∷ es) rises q =
      get_put (fin.insert m e.0 e.1) es (both (below_all R e.0 es) (fin.is_sorted R es) rises).1 q
      ∙ ap (or_else (fin.find R q es)) (fin.get-insert o m e.0 e.1 q)
      ∙ go (eq_by_cmp R q e.0) refl (fin.find R q es) refl
    where
      go : (b : Bool) → eq_by_cmp R q e.0 ≡ b → (f : Option X) → fin.find R q es ≡ f → or_else f (cond b (Some e.1) (fin.get m q)) ≡ or_else (cond b (Some e.1) f) (fin.get m q)
      go false t f u = refl
      go true t None u = refl
      go true t (Some x) u = absurd (let z : eq_by_cmp R q e.0 ≡ false = head_apart e es q x rises u in cc (t, z))

-- attachments that are stored at their places
abbrev ArePlaced : ℕ → List (AttachmentKey × Attachment) → Type 0
ArePlaced k es = AllByRecursion (λ e. e.0 ≡ (k, e.1.node)) es

attached_put : (t : State) (k : ℕ) (es : List (AttachmentKey × Attachment)) → ArePlaced k es → attached_each t k (map (λ e. e.1) es) ≡ record t { attachments = put_each place_total place_exact t.attachments es }
attached_put t k [] all = refl
attached_put t k (e ∷ es) all =
    attached_put (changed t (Attach k e.1)) k es all.1
    ∙ ap (λ (p : AttachmentKey). record t { attachments = put_each place_total place_exact (fin.insert t.attachments p e.1) es }) (sym all.0)

allows_each : (t : State) (k : ℕ) (es : List (AttachmentKey × Attachment)) → ArePlaced k es → T (fin.is_sorted attachment_key_cmp es) → IsSome (fin.get t.volumes k)
    → ((q : AttachmentKey) (x : Attachment) → fin.find attachment_key_cmp q es ≡ Some x → fin.get t.attachments q ≡ None) → AllowsEach t k (map (λ e. e.1) es)
allows_each t k [] all rises some fresh = tt
allows_each t k (e ∷ es) all rises some fresh = (
  (some, subst (λ (p : AttachmentKey). fin.get t.attachments p ≡ None) all.0 (fresh e.0 e.1 (ap (λ d. cond d (Some e.1) (fin.find attachment_key_cmp e.0 es)) (ap is_eq (tied_itself place_total e.0))))),
  allows_each (changed t (Attach k e.1)) k es all.1 (both (below_all attachment_key_cmp e.0 es) (fin.is_sorted attachment_key_cmp es) rises).1 some (λ q x f.
      let far : eq_by_cmp attachment_key_cmp q e.0 ≡ false = head_apart place_total place_exact e es q x rises f in
      subst (λ (p : AttachmentKey). fin.get (fin.insert t.attachments p e.1) q ≡ None) all.0
      (fin.get-insert place_total t.attachments e.0 e.1 q ∙ ap (λ b. cond b (Some e.1) (fin.get t.attachments q)) far
      ∙ fresh q x (ap (λ b. cond b (Some e.1) (fin.find attachment_key_cmp q es)) far ∙ f))),
)

module _ (config : Config) (s : State) (n : ℕ) (v : Volume) (inv : IsInvariant config s) (next : IsNext s n v) where
  abbrev own : fin.FinMap attachment_key_cmp Attachment
  own = fin.retain_keys s.attachments (λ p. p.0 == v.number)

  get_own : (q : AttachmentKey) → fin.get own q ≡ cond (q.0 == v.number) (fin.get s.attachments q) None
  get_own q = fin.get-retain_keys s.attachments (λ p. p.0 == v.number) q (λ x t. ap (λ (p : AttachmentKey). p.0 == v.number) (sym (place_exact q x t)))

  own_place : (q : AttachmentKey) (a : Attachment) → fin.get own q ≡ Some a → (q.0 ≡ v.number) × (fin.get s.attachments q ≡ Some a)
  own_place q a e = go (q.0 == v.number) refl (sym (get_own q) ∙ e)
    where
      go : (b : Bool) → (q.0 == v.number) ≡ b → cond b (fin.get s.attachments q) None ≡ Some a → (q.0 ≡ v.number) × (fin.get s.attachments q ≡ Some a)
      go true t h = (eqb-true _ _ t, h)
      go false t h = absurd (none_some a h)

  placed : ArePlaced v.number (fin.entries own)
  placed = all_entries place_total place_exact (λ (q : AttachmentKey) (a : Attachment). q ≡ (v.number, a.node)) own (λ q a e.
      let is = own_place q a e in
      let at : a.node ≡ q.1 = (inv.attachments q.0 q.1 a is.1).at in
      λ i. (is.0 i, sym at i))

  is_own : attached s v.number ≡ map (λ e. e.1) (fin.entries own)
  is_own = ap (map (λ (e : AttachmentKey × Attachment). e.1)) (sym (entries_retained place_total place_exact s.attachments (λ p. p.0 == v.number)))

  stands_half : IsSome (fin.get (half config s n v inv next).volumes v.number)
  stands_half = subst (λ (o : Option Volume). IsSome o) (sym (kept_volumes s v.number v.number ∙ ap (λ b. cond b (fin.get s.volumes v.number) None) (below v.number v.number (omega arith)) ∙ next.stands)) refl

  fresh : (q : AttachmentKey) (x : Attachment) → fin.find attachment_key_cmp q (fin.entries own) ≡ Some x → fin.get (up_to s n).attachments q ≡ None
  fresh q x f =
      let is = own_place q x (fin.get-entries own q ∙ f) in
      let greater = next.greater in
      let here = is.0 in
      kept_places s n q ∙ ap (λ b. cond b (fin.get s.attachments q) None) (above n q.0 (omega (arith, greater, here)))

  all_places : (q : AttachmentKey) → fin.get (put_each place_total place_exact (up_to s n).attachments (fin.entries own)) q ≡ fin.get (up_to s v.number).attachments q
  all_places q =
      get_put place_total place_exact (up_to s n).attachments (fin.entries own) (fin.entries_sorted own) q
      ∙ ap (λ o. or_else o (fin.get (up_to s n).attachments q)) (sym (fin.get-entries own q) ∙ get_own q)
      ∙ ap (or_else (cond (q.0 == v.number) (fin.get s.attachments q) None)) (kept_places s n q)
      ∙ go (fin.get s.attachments q) refl (q.0 == v.number) refl
      ∙ sym (kept_places s v.number q)
    where
      go : (o : Option Attachment) → fin.get s.attachments q ≡ o → (b : Bool) → (q.0 == v.number) ≡ b
          → or_else (cond b o None) (cond (not (nat_lt n q.0)) o None) ≡ cond (not (nat_lt v.number q.0)) o None
      go None e true t = no_choice (not (nat_lt n q.0)) ∙ sym (no_choice (not (nat_lt v.number q.0)))
      go None e false t = no_choice (not (nat_lt n q.0)) ∙ sym (no_choice (not (nat_lt v.number q.0)))
      go (Some a) e true t = let same : q.0 ≡ v.number = eqb-true _ _ t in sym (ap (λ b. cond b (Some a) None) (below v.number q.0 (omega (arith, same))))
      go (Some a) e false t = elim (leb_tells (suc n) q.0) as (λ _. cond (not (nat_lt n q.0)) (Some a) None ≡ cond (not (nat_lt v.number q.0)) (Some a) None) [
        | inl x ↦
            let on = inv.attachments q.0 q.1 a e in
            let first : v.number ≤ q.0 = next.first q.0 on.volume on.stands x.1 in
            let over : v.number < q.0 = elim (leb_tells (suc v.number) q.0) as (λ _. v.number < q.0) [
              | inl y ↦ y.1
              | inr y ↦ absurd (let same : (q.0 == v.number) ≡ true = eq-eqb _ _ (omega (arith, first, y.1)) in cc (same, t))
            ] in
            ap (λ b. cond b (Some a) None) (above n q.0 x.1) ∙ sym (ap (λ b. cond b (Some a) None) (above v.number q.0 over))
        | inr x ↦
            let greater = next.greater in
            ap (λ b. cond b (Some a) None) (below n q.0 (omega (arith, x.1))) ∙ sym (ap (λ b. cond b (Some a) None) (below v.number q.0 (omega (arith, x.1, greater))))
      ]

  -- a volume can be restored and then its attachments can be made; after that the copy is complete up to its
  -- number
  pub restores : (rows : List Attachment) → rows ≡ attached s v.number
      → CanRestore (up_to s n) v × AllowsEach (restored (up_to s n) v) v.number rows × (attached_each (restored (up_to s n) v) v.number rows ≡ up_to s v.number)
  restores rows is =
      let mid = half config s n v inv next in
      let to_half = sym (is_half config s n v inv next) in
      let listed : map (λ e. e.1) (fin.entries own) ≡ rows = sym (is ∙ is_own) in
      let places : put_each place_total place_exact (up_to s n).attachments (fin.entries own) ≡ (up_to s v.number).attachments = fin.same_map place_total place_exact _ _ all_places in (
        can config s n v inv next,
        subst (λ (t : State). AllowsEach t v.number rows) to_half (subst (λ (bs : List Attachment). AllowsEach mid v.number bs) listed (allows_each mid v.number (fin.entries own) placed (fin.entries_sorted own) stands_half fresh)),
        subst (λ (t : State). attached_each t v.number rows ≡ up_to s v.number) to_half (subst (λ (bs : List Attachment). attached_each mid v.number bs ≡ up_to s v.number) listed
            (attached_put mid v.number (fin.entries own) placed ∙ (λ i. record { next = v.number + 1; volumes = (up_to s v.number).volumes; attachments = places i }))),
      )

-- ---- pages

module _ (config : Config) (s : State) (inv : IsInvariant config s) where
  -- entries that rise, of all volumes with a greater number
  record IsRest (n : ℕ) (es : List (ℕ × Volume)) : Type 0 where
    pub rises : T (fin.is_sorted nat_cmp es)
    pub all : (k : ℕ) (w : Volume) → fin.get s.volumes k ≡ Some w → n < k → fin.find nat_cmp k es ≡ Some w
    pub theirs : (k : ℕ) (w : Volume) → fin.find nat_cmp k es ≡ Some w → (fin.get s.volumes k ≡ Some w) × (n < k)

  head_found : (e : ℕ × Volume) (es : List (ℕ × Volume)) → fin.find nat_cmp e.0 (e ∷ es) ≡ Some e.1
  head_found e es = ap (λ d. cond d (Some e.1) (fin.find nat_cmp e.0 es)) (ap is_eq (tied_itself nat_cmp_total e.0))

  first_of : (n : ℕ) (e : ℕ × Volume) (es : List (ℕ × Volume)) → IsRest n (e ∷ es) → IsNext s n e.1
  first_of n e es rest =
      let here = rest.theirs e.0 e.1 (head_found e es) in
      let number : e.1.number ≡ e.0 = (inv.volumes e.0 e.1 here.0).number in
      record {
        stands = subst (λ (k : ℕ). fin.get s.volumes k ≡ Some e.1) (sym number) here.0;
        greater = let over = here.1 in omega (arith, number, over);
        first = λ k w stands over. go k w (eq_by_cmp nat_cmp k e.0) refl (rest.all k w stands over) number;
      }
    where
      go : (k : ℕ) (w : Volume) (b : Bool) → eq_by_cmp nat_cmp k e.0 ≡ b → cond b (Some e.1) (fin.find nat_cmp k es) ≡ Some w → e.1.number ≡ e.0 → e.1.number ≤ k
      go k w true t f number = let same : k ≡ e.0 = fin.nat_cmp-IsAntisymmetric k e.0 (tied _ t) in omega (arith, same, number)
      go k w false t f number = let over = less_is e.0 k (found_below nat_cmp_total fin.nat_cmp-IsAntisymmetric e.0 k w es (both (below_all nat_cmp e.0 es) (fin.is_sorted nat_cmp es) rest.rises).0 f) in omega (arith, number, over)

  rest_of : (n : ℕ) (e : ℕ × Volume) (es : List (ℕ × Volume)) → IsRest n (e ∷ es) → IsRest e.0 es
  rest_of n e es rest =
      let two = both (below_all nat_cmp e.0 es) (fin.is_sorted nat_cmp es) rest.rises in
      let here = rest.theirs e.0 e.1 (head_found e es) in
      record {
        rises = two.1;
        all = λ k w stands over. go k w over (eq_by_cmp nat_cmp k e.0) refl (rest.all k w stands (let low = here.1 in omega (arith, low, over)));
        theirs = λ k w f. (
          (rest.theirs k w (ap (λ b. cond b (Some e.1) (fin.find nat_cmp k es)) (head_apart nat_cmp_total fin.nat_cmp-IsAntisymmetric e es k w rest.rises f) ∙ f)).0,
          less_is e.0 k (found_below nat_cmp_total fin.nat_cmp-IsAntisymmetric e.0 k w es two.0 f),
        );
      }
    where
      go : (k : ℕ) (w : Volume) → e.0 < k → (b : Bool) → eq_by_cmp nat_cmp k e.0 ≡ b → cond b (Some e.1) (fin.find nat_cmp k es) ≡ Some w → fin.find nat_cmp k es ≡ Some w
      go k w over true t f = absurd (let same : k ≡ e.0 = fin.nat_cmp-IsAntisymmetric k e.0 (tied _ t) in omega (arith, same, over))
      go k w over false t f = f

  are_next : (n : ℕ) (count : ℕ) (es : List (ℕ × Volume)) → IsRest n es → AreNext s n (take count (map (λ e. e.1) es))
  are_next n zero es rest = tt
  are_next n (suc count) [] rest = tt
  are_next n (suc count) (e ∷ es) rest =
      let here = rest.theirs e.0 e.1 (head_found e es) in
      let number : e.1.number ≡ e.0 = (inv.volumes e.0 e.1 here.0).number in
      (first_of n e es rest, subst (λ (m : ℕ). AreNext s m (take count (map (λ e. e.1) es))) (sym number) (are_next e.0 count es (rest_of n e es rest)))

  abbrev later : ℕ → fin.FinMap nat_cmp Volume
  later n = fin.retain_keys s.volumes (λ k. nat_lt n k)

  get_later : (n q : ℕ) → fin.get (later n) q ≡ cond (nat_lt n q) (fin.get s.volumes q) None
  get_later n q = fin.get-retain_keys s.volumes (λ k. nat_lt n k) q (λ x t. ap (nat_lt n) (sym (fin.nat_cmp-IsAntisymmetric q x t)))

  is_later : (n : ℕ) → beyond s n ≡ map (λ e. e.1) (fin.entries (later n))
  is_later n = ap (map (λ (e : ℕ × Volume). e.1)) (sym (entries_retained nat_cmp_total fin.nat_cmp-IsAntisymmetric s.volumes (λ k. nat_lt n k)))

  is_rest : (n : ℕ) → IsRest n (fin.entries (later n))
  is_rest n = record {
    rises = fin.entries_sorted (later n);
    all = λ k w stands over. sym (fin.get-entries (later n) k) ∙ get_later n k ∙ elim (leb_tells (suc n) k) as (λ _. cond (nat_lt n k) (fin.get s.volumes k) None ≡ Some w) [
      | inl x ↦ ap (λ b. cond b (fin.get s.volumes k) None) x.0 ∙ stands
      | inr x ↦ absurd (omega (arith, x.1, over))
    ];
    theirs = λ k w f. found k w (sym (get_later n k) ∙ fin.get-entries (later n) k ∙ f);
  }
    where
      found : (k : ℕ) (w : Volume) → cond (nat_lt n k) (fin.get s.volumes k) None ≡ Some w → (fin.get s.volumes k ≡ Some w) × (n < k)
      found k w f = elim (leb_tells (suc n) k) as (λ _. (fin.get s.volumes k ≡ Some w) × (n < k)) [
        | inl x ↦ (sym (ap (λ b. cond b (fin.get s.volumes k) None) x.0) ∙ f, x.1)
        | inr x ↦ absurd (none_some w (sym (ap (λ b. cond b (fin.get s.volumes k) None) x.0) ∙ f))
      ]

  -- a page has the next volumes
  pub page_next : (n count : ℕ) → AreNext s n (page s n count)
  page_next n count = subst (λ (vs : List Volume). AreNext s n (take count vs)) (sym (is_later n)) (are_next n count (fin.entries (later n)) (is_rest n))

  take_none : {X : Type 0} (count : ℕ) (xs : List X) → 1 ≤ count → take count xs ≡ [] → xs ≡ []
  take_none zero xs some e = absurd (omega (arith, some))
  take_none (suc count) [] some e = refl
  take_none (suc count) (x ∷ xs) some e = absurd (cc (e))

  no_entry : (es : List (ℕ × Volume)) → map (λ e. e.1) es ≡ [] → es ≡ []
  no_entry [] e = refl
  no_entry (x ∷ xs) e = absurd (cc (e))

  -- a page without volumes comes after the last volume
  pub ends : (n count : ℕ) → 1 ≤ count → page s n count ≡ [] → up_to s n ≡ record s { next = n + 1 }
  ends n count some none =
      let volumes : (up_to s n).volumes ≡ s.volumes = fin.same_map nat_cmp_total fin.nat_cmp-IsAntisymmetric _ _ (λ q. kept_volumes s n q ∙ row q (fin.get s.volumes q) refl) in
      let places : (up_to s n).attachments ≡ s.attachments = fin.same_map place_total place_exact _ _ (λ q. kept_places s n q ∙ place q (fin.get s.attachments q) refl) in
      λ i. record { next = n + 1; volumes = volumes i; attachments = places i }
    where
      nobody : fin.entries (later n) ≡ []
      nobody = no_entry (fin.entries (later n)) (sym (is_later n) ∙ take_none count (beyond s n) some none)

      last : (k : ℕ) (w : Volume) → fin.get s.volumes k ≡ Some w → k ≤ n
      last k w stands = elim (leb_tells (suc n) k) as (λ _. k ≤ n) [
        | inl x ↦ absurd (none_some w (sym (ap (fin.find nat_cmp k) nobody) ∙ (is_rest n).all k w stands x.1))
        | inr x ↦ omega (arith, x.1)
      ]

      row : (q : ℕ) (o : Option Volume) → fin.get s.volumes q ≡ o → cond (not (nat_lt n q)) o None ≡ o
      row q None e = no_choice (not (nat_lt n q))
      row q (Some w) e = ap (λ b. cond b (Some w) None) (below n q (last q w e))

      place : (q : AttachmentKey) (o : Option Attachment) → fin.get s.attachments q ≡ o → cond (not (nat_lt n q.0)) o None ≡ o
      place q None e = no_choice (not (nat_lt n q.0))
      place q (Some a) e = let on = inv.attachments q.0 q.1 a e in ap (λ b. cond b (Some a) None) (below n q.0 (last q.0 on.volume on.stands))

  -- the number of the last volume was given
  pub last_given : (n : ℕ) (vs : List Volume) → n < s.next → AreNext s n vs → last_number n vs < s.next
  last_given n [] low next = low
  last_given n (v ∷ vs) low next = last_given v.number vs (inv.volumes v.number v next.0.stands).given.1 next.1

  -- the numbers that were given are not given again
  pub whole : (n : ℕ) → n < s.next → from_number (record s { next = n + 1 }) s.next ≡ s
  whole n low =
      let exact : n + 1 - s.next + s.next ≡ s.next = omega (arith, low) in
      let next : max (n + 1) s.next ≡ s.next = sym (sub-add-eq-max (n + 1) s.next) ∙ exact in
      λ i. record { next = next i; volumes = s.volumes; attachments = s.attachments }

-- a list split at a volume has the volume at that place
pub stands_at : (done rest vs : List Volume) (v : Volume) → done ++ v ∷ rest ≡ vs → (length done < length vs) × (v ≡ get_or vs (length done) v)
stands_at done rest vs v is = subst (λ (ws : List Volume). (length done < length ws) × (v ≡ get_or ws (length done) v)) is (go done)
  where
    go : (xs : List Volume) → (length xs < length (xs ++ v ∷ rest)) × (v ≡ get_or (xs ++ v ∷ rest) (length xs) v)
    go [] = (omega arith, refl)
    go (x ∷ xs) = let r = go xs in (let low = r.0 in omega (arith, low), r.1)

-- if as many volumes were restored as exist, all were restored
pub all_given : (done left vs : List Volume) → done ++ left ≡ vs → length done ≡ length vs → done ≡ vs
all_given done [] vs is size = sym (append-nil done) ∙ is
all_given done (v ∷ left) vs is size = absurd (let more = ap length is in omega (arith, length-append done (v ∷ left), more, size))

-- ---- one more item of a list

pub next_more : (s : State) (n : ℕ) (vs : List Volume) (v : Volume) → AreNext s n (vs ++ v ∷ []) → AreNext s n vs × IsNext s (last_number n vs) v
next_more s n [] v next = (tt, next.0)
next_more s n (w ∷ vs) v next = let more = next_more s w.number vs v next.1 in ((next.0, more.0), more.1)

pub held_more : (vs : List Volume) (v : Volume) → AllByRecursion IsHeld vs → IsHeld v → AllByRecursion IsHeld (vs ++ v ∷ [])
held_more [] v all held = (held, tt)
held_more (w ∷ vs) v all held = (all.0, held_more vs v all.1 held)

pub last_more : (n : ℕ) (vs : List Volume) (v : Volume) → last_number n (vs ++ v ∷ []) ≡ v.number
last_more n [] v = refl
last_more n (w ∷ vs) v = last_more w.number vs v

pub attached_more : (s : State) (n : ℕ) (rows : List Attachment) (a : Attachment) → attached_each s n (rows ++ a ∷ []) ≡ changed (attached_each s n rows) (Attach n a)
attached_more s n [] a = refl
attached_more s n (b ∷ rows) a = attached_more (changed s (Attach n b)) n rows a

pub allows_more : (s : State) (n : ℕ) (rows : List Attachment) (a : Attachment) → AllowsEach s n (rows ++ a ∷ []) → AllowsEach s n rows × Allows (attached_each s n rows) (Attach n a)
allows_more s n [] a allows = (tt, allows.0)
allows_more s n (b ∷ rows) a allows = let more = allows_more (changed s (Attach n b)) n rows a allows.1 in ((allows.0, more.0), more.1)

-- ---- volumes published nowhere

node_of_each : (s : State) (vs : List Volume) (i : ℕ) (d : Volume) → i < length vs → get_or (map (λ v. published s v.number) vs) i [] ≡ published s (get_or vs i d).number
node_of_each s [] i d low = absurd (omega (arith, low))
node_of_each s (v ∷ vs) zero d low = refl
node_of_each s (v ∷ vs) (suc i) d low = node_of_each s vs i d (omega (arith, low))

no_rows : (rows : List Attachment) → map (λ a. a.node) rows ≡ [] → rows ≡ []
no_rows [] e = refl
no_rows (a ∷ rows) e = absurd (cc (e))

-- a volume that is published nowhere has no attachment
pub none_attached : (s : State) (vs : List Volume) (nodes : List (List Text)) (i : ℕ) (v : Volume) → nodes ≡ map (λ w. published s w.number) vs → i < length vs → v ≡ get_or vs i v
    → get_or nodes i [] ≡ [] → attached s v.number ≡ []
none_attached s vs nodes i v are low is none =
    no_rows (attached s v.number) (ap (λ (w : Volume). published s w.number) is ∙ sym (node_of_each s vs i v low) ∙ ap (λ (ns : List (List Text)). get_or ns i []) (sym are) ∙ none)
