-- The index of nodes in memory.
use Rattle.std.proofs.Common.{◌≡◌, ◌∙◌, ap, ap₂, sym, subst, cond, refl, ℕ, List, [], ◌∷◌, map, filter, Bool, true, false, ◌&&◌, ◌||◌, T, is_some}
use Rattle.std.proofs.Common.{Option, Some, None, Ordering, Less, Equal, Greater}
use Rattle.std.specs.BTreeMap.{is_at}
use Rattle.std.specs.Cmp.{IsTotalOrder, nat_cmp_total}
use Rattle.std.specs.FinMap as fin
use Rattle.std.specs.FinMap.Entries.{below_all}
use Rattle.std.specs.List.{list_any}
use Rattle.std.specs.List.Sorted.{IsStrictlySortedBy}
use Rattle.std.specs.Map.{keys_of}
use Rattle.std.specs.Ordering.{nat_cmp, ordering_then, is_eq, is_lt, eq_by_cmp}
use Rattle.std.proofs.lemmas.Cmp.{then_total, on_total, nat_list_cmp_total, tied_itself}
use lib.Pointwise.{bytes_decides}
use Rattle.csi_types.specs.Maps.{same_text}
use Rattle.csi_keeper.specs.declared.volume.Attachment.{Attachment}
use Rattle.csi_maps.specs.Rows.{Spot, spot_cmp, places_of, Nodes, HasNoEmpty, has_spot, AreSpotted, IsSpotSet, numbers_by}
use Rattle.csi_keeper.specs.State.{AttachmentKey, attachment_key_cmp}
use Rattle.csi_keeper.specs.Texts.{Text, text_cmp}
use Rattle.csi_keeper.specs.facts.Finite.{tied}
use Rattle.csi_maps.specs.facts.Listing.{entries_are}
use Rattle.csi_keeper.specs.facts.Orders.{place_total, place_exact, text_exact, both_equal}

pub spot_total : IsTotalOrder spot_cmp
spot_total = then_total (on_total (λ (p : Spot). p.0) nat_list_cmp_total) (on_total (λ (p : Spot). p.1) nat_cmp_total)

pub spot_exact : fin.IsAntisymmetric spot_cmp
spot_exact a b e =
    let two = both_equal (text_cmp a.0 b.0) (nat_cmp a.1 b.1) e in
    let first : a.0 ≡ b.0 = text_exact a.0 b.0 two.0 in
    let second : a.1 ≡ b.1 = fin.nat_cmp-IsAntisymmetric a.1 b.1 two.1 in
    λ i. (first i, second i)

abbrev Row : Type 0
Row = AttachmentKey × Attachment

-- Changes

-- an attachment key and a spot are equal if they have the same node and number
spot_place : (p : AttachmentKey) (q : Spot) → is_at (spot_cmp (p.1, p.0)) q ≡ eq_by_cmp attachment_key_cmp (q.1, q.0) p
spot_place p q = go (is_at (spot_cmp (p.1, p.0)) q) refl (eq_by_cmp attachment_key_cmp (q.1, q.0) p) refl
  where
    go : (a : Bool) → is_at (spot_cmp (p.1, p.0)) q ≡ a → (b : Bool) → eq_by_cmp attachment_key_cmp (q.1, q.0) p ≡ b → a ≡ b
    go true s true t = refl
    go false s false t = refl
    go true s false t =
        let same : (p.1, p.0) ≡ q = spot_exact (p.1, p.0) q (tied _ s) in
        let here : eq_by_cmp attachment_key_cmp (q.1, q.0) p ≡ true =
        subst (λ (x : Spot). eq_by_cmp attachment_key_cmp (x.1, x.0) p ≡ true) same (ap is_eq (tied_itself place_total p)) in
        absurd (cc (here, t))
    go false s true t =
        let same : (q.1, q.0) ≡ p = place_exact (q.1, q.0) p (tied _ t) in
        let here : is_at (spot_cmp (p.1, p.0)) q ≡ true =
        subst (λ (x : AttachmentKey). is_at (spot_cmp (x.1, x.0)) q ≡ true) same (ap is_eq (tied_itself spot_total q)) in
        absurd (cc (here, s))

-- the index after an attachment and its spot are removed
pub spotted_less : (es fs : List Row) (spots ts : Nodes) (place : AttachmentKey) → places_of fs ≡ fin.remove (places_of es) place
    → IsSpotSet (place.1, place.0) false spots ts → (HasNoEmpty spots → HasNoEmpty ts) → AreSpotted es spots → AreSpotted fs ts
spotted_less es fs spots ts place less gone full old = record {
  found = λ q.
      gone q
      ∙ ap (cond (is_at (spot_cmp (place.1, place.0)) q) false) (old.found q)
      ∙ by (is_at (spot_cmp (place.1, place.0)) q) (fin.get (places_of es) (q.1, q.0))
      ∙ ap (λ b. is_some (cond b None (fin.get (places_of es) (q.1, q.0)))) (spot_place place q)
      ∙ sym (ap (λ (m : fin.FinMap attachment_key_cmp Attachment). is_some (fin.get m (q.1, q.0))) less
      ∙ ap is_some (fin.get-remove place_total (places_of es) place (q.1, q.0)));
  no_empty = full old.no_empty;
}
  where
    by : (b : Bool) (o : Option Attachment) → cond b false (is_some o) ≡ is_some (cond b None o)
    by true o = refl
    by false o = refl

-- the index after an attachment and its spot are added
pub spotted_more : (es fs : List Row) (spots ts : Nodes) (place : AttachmentKey) (v : Attachment) → places_of fs ≡ fin.insert (places_of es) place v
    → IsSpotSet (place.1, place.0) true spots ts → (HasNoEmpty spots → HasNoEmpty ts) → AreSpotted es spots → AreSpotted fs ts
spotted_more es fs spots ts place v more here full old = record {
  found = λ q.
      here q
      ∙ ap (cond (is_at (spot_cmp (place.1, place.0)) q) true) (old.found q)
      ∙ by (is_at (spot_cmp (place.1, place.0)) q) (fin.get (places_of es) (q.1, q.0))
      ∙ ap (λ b. is_some (cond b (Some v) (fin.get (places_of es) (q.1, q.0)))) (spot_place place q)
      ∙ sym (ap (λ (m : fin.FinMap attachment_key_cmp Attachment). is_some (fin.get m (q.1, q.0))) more
      ∙ ap is_some (fin.get-insert place_total (places_of es) place v (q.1, q.0)));
  no_empty = full old.no_empty;
}
  where
    by : (b : Bool) (o : Option Attachment) → cond b true (is_some o) ≡ is_some (cond b (Some v) o)
    by true o = refl
    by false o = refl

-- a spot put where the index has no spot, and removed again
pub spotted_again : (es : List Row) (spots ts us : Nodes) (place : AttachmentKey) → fin.get (places_of es) place ≡ None
    → IsSpotSet (place.1, place.0) true spots ts → IsSpotSet (place.1, place.0) false ts us → (HasNoEmpty spots → HasNoEmpty us) → AreSpotted es spots
    → AreSpotted es us
spotted_again es spots ts us place none here gone full old = record {
  found = λ q.
      gone q
      ∙ ap (cond (is_at (spot_cmp (place.1, place.0)) q) false) (here q)
      ∙ by q (is_at (spot_cmp (place.1, place.0)) q) refl;
  no_empty = full old.no_empty;
}
  where
    by : (q : Spot) (b : Bool) → is_at (spot_cmp (place.1, place.0)) q ≡ b
        → cond b false (cond b true (has_spot spots q)) ≡ is_some (fin.get (places_of es) (q.1, q.0))
    by q true t = sym (subst (λ (x : Spot). is_some (fin.get (places_of es) (x.1, x.0)) ≡ false) (spot_exact (place.1, place.0) q (tied _ t)) (ap is_some none))
    by q false t = old.found q

-- the index with the same spots, if a spot could not be put
pub spotted_same : (es : List Row) (spots ts : Nodes) → ((q : Spot) → has_spot ts q ≡ has_spot spots q) → (HasNoEmpty spots → HasNoEmpty ts)
    → AreSpotted es spots → AreSpotted es ts
spotted_same es spots ts same full old = record { found = λ q. same q ∙ old.found q; no_empty = full old.no_empty }

-- The numbers at a node: both lists rise, and the same numbers are found in them

-- a mark that the option has a value
abbrev mark : {X : Type 0} → Option X → Option (Unit {0})
mark None = None
mark (Some x) = Some tt

abbrev as_mark : Bool → Option (Unit {0})
as_mark b = cond b (Some tt) None

both : (a b : Bool) → T (a && b) → T a × T b
both true b h = (tt, h)
both false b h = absurd h

with_both : (a b : Bool) → T a → T b → T (a && b)
with_both true b h k = k
with_both false b h k = absurd h

abbrev alone : ℕ → ℕ × Unit {0}
alone n = (n, tt)

-- the numbers of the entries that pass
abbrev numbered : {K X : Type 0} → (K × X → Bool) → (K → ℕ) → List (K × X) → List (ℕ × Unit {0})
numbered p f es = map (λ e. alone (f e.0)) (filter p es)

module _ {K X : Type 0} (R : K → K → Ordering) (p : K × X → Bool) (f : K → ℕ) where
  module _ (up : (a b : K × X) → p a ≡ true → p b ≡ true → T (is_lt (R a.0 b.0)) → T (is_lt (nat_cmp (f a.0) (f b.0)))) where
    below_up : (a : K × X) (es : List (K × X)) → p a ≡ true → T (below_all R a.0 es) → T (below_all nat_cmp (f a.0) (numbered p f es))
    below_up a [] t h = tt
    below_up a (e ∷ es) t h = let two = both (is_lt (R a.0 e.0)) (below_all R a.0 es) h in by two.0 (below_up a es t two.1) (p e) refl
      where
        by : T (is_lt (R a.0 e.0)) → T (below_all nat_cmp (f a.0) (numbered p f es)) → (b : Bool) → p e ≡ b
            → T (below_all nat_cmp (f a.0) (map (λ e. alone (f e.0)) (cond b (e ∷ filter p es) (filter p es))))
        by here more true u = with_both _ _ (up a e t u here) more
        by here more false u = more

    rising : (es : List (K × X)) → T (fin.is_sorted R es) → T (fin.is_sorted nat_cmp (numbered p f es))
    rising [] h = tt
    rising (e ∷ es) h = let two = both (below_all R e.0 es) (fin.is_sorted R es) h in by two.0 (rising es two.1) (p e) refl
      where
        by : T (below_all R e.0 es) → T (fin.is_sorted nat_cmp (numbered p f es)) → (b : Bool) → p e ≡ b
            → T (fin.is_sorted nat_cmp (map (λ e. alone (f e.0)) (cond b (e ∷ filter p es) (filter p es))))
        by here more true u = with_both _ _ (below_up e es u here) more
        by here more false u = more

  -- a number is found exactly if its key is found
  found_number : (n : ℕ) (k : K) → ((e : K × X) → p e ≡ true → eq_by_cmp nat_cmp n (f e.0) ≡ eq_by_cmp R k e.0)
      → ((e : K × X) → eq_by_cmp R k e.0 ≡ true → p e ≡ true) → (es : List (K × X)) → fin.find nat_cmp n (numbered p f es) ≡ mark (fin.find R k es)
  found_number n k tie key [] = refl
  found_number n k tie key (e ∷ es) = by (p e) refl (eq_by_cmp R k e.0) refl (found_number n k tie key es)
    where
      by : (a : Bool) → p e ≡ a → (b : Bool) → eq_by_cmp R k e.0 ≡ b → fin.find nat_cmp n (numbered p f es) ≡ mark (fin.find R k es)
          → fin.find nat_cmp n (map (λ e. alone (f e.0)) (cond a (e ∷ filter p es) (filter p es))) ≡ mark (cond b (Some e.1) (fin.find R k es))
      by true t true u more = ap (λ d. cond d (Some tt) (fin.find nat_cmp n (numbered p f es))) (tie e t ∙ u)
      by true t false u more = ap (λ d. cond d (Some tt) (fin.find nat_cmp n (numbered p f es))) (tie e t ∙ u) ∙ more
      by false t true u more = let passes = key e u in absurd (cc (passes, t))
      by false t false u more = more

-- rising lists with equal look-ups are equal
same_list : (us vs : List (ℕ × Unit {0})) → T (fin.is_sorted nat_cmp us) → T (fin.is_sorted nat_cmp vs)
    → ((n : ℕ) → fin.find nat_cmp n us ≡ fin.find nat_cmp n vs) → us ≡ vs
same_list us vs a b h =
    let first = fin.entries-from_sorted nat_cmp us a in
    let second = fin.entries-from_sorted nat_cmp vs b in
    sym first
    ∙ ap fin.entries (fin.same_map nat_cmp_total fin.nat_cmp-IsAntisymmetric (fin.from_sorted us) (fin.from_sorted vs) (λ q.
    fin.get-entries (fin.from_sorted us) q ∙ ap (fin.find nat_cmp q) first ∙ h q
    ∙ sym (fin.get-entries (fin.from_sorted vs) q ∙ ap (fin.find nat_cmp q) second)))
    ∙ second

map_map : {A B C : Type 0} (g : B → C) (f : A → B) (xs : List A) → map g (map f xs) ≡ map (λ x. g (f x)) xs
map_map g f [] = refl
map_map g f (x ∷ xs) = ap (λ ys. g (f x) ∷ ys) (map_map g f xs)

alone_keys : (ns : List ℕ) → keys_of (map alone ns) ≡ ns
alone_keys [] = refl
alone_keys (n ∷ ns) = ap (λ ks. n ∷ ks) (alone_keys ns)

-- a number is found exactly if the list has it
alone_found : (n : ℕ) (ns : List ℕ) → fin.find nat_cmp n (map alone ns) ≡ as_mark (list_any (is_at (nat_cmp n)) ns)
alone_found n [] = refl
alone_found n (m ∷ ns) = by (is_at (nat_cmp n) m) (alone_found n ns)
  where
    by : (b : Bool) → fin.find nat_cmp n (map alone ns) ≡ as_mark (list_any (is_at (nat_cmp n)) ns)
        → cond b (Some tt) (fin.find nat_cmp n (map alone ns)) ≡ as_mark (b || list_any (is_at (nat_cmp n)) ns)
    by true more = refl
    by false more = more

module _ (attachments : List Row) (spots : Nodes) (node : Text) where
  abbrev by_place : Row → Bool
  by_place e = same_text e.0.1 node

  lesser : (r : Ordering) → T (is_lt (ordering_then r Equal)) → T (is_lt r)
  lesser Less h = h
  lesser Equal h = h
  lesser Greater h = h

  tie_of : (r : Ordering) → is_eq r ≡ is_eq (ordering_then r Equal)
  tie_of Less = refl
  tie_of Equal = refl
  tie_of Greater = refl

  places_up : (a b : Row) → by_place a ≡ true → by_place b ≡ true → T (is_lt (attachment_key_cmp a.0 b.0)) → T (is_lt (nat_cmp a.0.0 b.0.0))
  places_up a b s t h =
      let here : a.0.1 ≡ node = (bytes_decides a.0.1 node).0 s in
      let there : b.0.1 ≡ node = (bytes_decides b.0.1 node).0 t in
      let tie : text_cmp a.0.1 b.0.1 ≡ Equal = ap₂ text_cmp here there ∙ tied_itself nat_list_cmp_total node in
      lesser (nat_cmp a.0.0 b.0.0) (subst (λ r. T (is_lt (ordering_then (nat_cmp a.0.0 b.0.0) r))) tie h)

  place_found : (n : ℕ) (es : List Row) → fin.find nat_cmp n (map (λ e. alone e.0.0) (filter by_place es)) ≡ mark (fin.find attachment_key_cmp (n, node) es)
  place_found n es = found_number attachment_key_cmp by_place (λ (k : AttachmentKey). k.0) n (n, node) tie key es
    where
      tie : (e : Row) → by_place e ≡ true → eq_by_cmp nat_cmp n e.0.0 ≡ eq_by_cmp attachment_key_cmp (n, node) e.0
      tie e t =
          let there : e.0.1 ≡ node = (bytes_decides e.0.1 node).0 t in
          tie_of (nat_cmp n e.0.0) ∙ sym (ap (λ r. is_eq (ordering_then (nat_cmp n e.0.0) r)) (ap (text_cmp node) there ∙ tied_itself nat_list_cmp_total node))

      key : (e : Row) → eq_by_cmp attachment_key_cmp (n, node) e.0 ≡ true → by_place e ≡ true
      key e t =
          let same : (n, node) ≡ e.0 = place_exact (n, node) e.0 (tied _ t) in
          sym (ap (λ (q : AttachmentKey). same_text q.1 node) same) ∙ (bytes_decides node node).1 refl

  -- the index gives the node's attachments
  pub numbers_spotted : AreSpotted attachments spots → IsStrictlySortedBy nat_cmp (numbers_by spots node)
      → numbers_by spots node ≡ map (λ e. e.0.0) (filter (λ e. same_text e.0.1 node) (fin.entries (places_of attachments)))
  numbers_spotted spotted ordered =
      let ns = numbers_by spots node in
      let us = map alone ns in
      let vs = map (λ (e : Row). alone e.0.0) (filter by_place (fin.entries (places_of attachments))) in
      let up : IsStrictlySortedBy nat_cmp (keys_of us) = subst (IsStrictlySortedBy nat_cmp) (sym (alone_keys ns)) ordered in
      let in_order : T (fin.is_sorted nat_cmp us) =
      subst (λ (es : List (ℕ × Unit {0})). T (fin.is_sorted nat_cmp es)) (entries_are nat_cmp_total us up)
      (fin.entries_sorted (fin.from_entries {R = nat_cmp} us)) in
      let all : us ≡ vs = same_list us vs in_order
      (rising attachment_key_cmp by_place (λ (k : AttachmentKey). k.0) places_up (fin.entries (places_of attachments))
      (fin.entries_sorted (places_of attachments)))
      (λ n.
      alone_found n ns
      ∙ ap as_mark (spotted.found (node, n))
      ∙ once (fin.get (places_of attachments) (n, node))
      ∙ sym (place_found n (fin.entries (places_of attachments)) ∙ ap mark (sym (fin.get-entries (places_of attachments) (n, node))))) in
      sym (alone_keys ns)
      ∙ ap keys_of all
      ∙ map_map (λ (e : ℕ × Unit {0}). e.0) (λ (e : Row). alone e.0.0) (filter by_place (fin.entries (places_of attachments)))
    where
      once : (o : Option Attachment) → as_mark (is_some o) ≡ mark o
      once None = refl
      once (Some a) = refl
