-- A page of a listing, made from a part of the rows.
use Rattle.std.proofs.Common.{◌≡◌, ◌∙◌, ap, ap₂, sym, cond, arith, refl, ℕ, ◌+◌, ◌-◌, ◌≤◌, ◌^◌, ◌==◌, nat_lt, List, [], ◌∷◌, ◌++◌, map, filter, take}
use Rattle.std.proofs.Common.{length, Bool, true, false, ◌&&◌, not, Ordering, Less, Equal, Greater}
use Rattle.std.specs.BTreeMap.Range.{entries_between, range_contains, is_past_end}
use Rattle.std.specs.Cmp.{IsTotalOrder, nat_cmp_total, nat_cmp_is}
use Rattle.std.specs.FinMap as fin
use Rattle.std.specs.FinMap.Entries.{by_order}
use Rattle.std.specs.List.Sorted.{IsStrictlySortedBy}
use Rattle.std.specs.Map.{keys_of}
use Rattle.std.specs.Ordering.{nat_cmp, ordering_then, is_eq, is_lt, is_le}
use Rattle.std.specs.declared.ops.Bound.TheVariants.{Included, Excluded, Unbounded}
use Rattle.std.proofs.lemmas.Bool.{eqb-true}
use Rattle.std.proofs.lemmas.List.{length-map}
use Rattle.csi_keeper.specs.declared.volume.Attachment.{Attachment}
use Rattle.csi_keeper.specs.declared.volume.Volume.{Volume}
use Rattle.csi_maps.specs.Rows.{volumes_of, places_of, place_end}
use Rattle.csi_keeper.specs.State.{AttachmentKey, attachment_key_cmp}
use Rattle.csi_keeper.specs.facts.Finite.{none_listed}
use Rattle.csi_keeper.specs.facts.Orders.{place_total}
use Rattle.csi_keeper.specs.Texts.{Text, text_cmp}

-- the first part of a list, if as many items are taken as the part has
take_first : {A : Type 0} (xs ys : List A) → take (length xs) (xs ++ ys) ≡ xs
take_first [] [] = refl
take_first [] (y ∷ ys) = refl
take_first (x ∷ xs) ys = ap (λ zs. x ∷ zs) (take_first xs ys)

map_append : {A B : Type 0} (f : A → B) (xs ys : List A) → map f (xs ++ ys) ≡ map f xs ++ map f ys
map_append f [] ys = refl
map_append f (x ∷ xs) ys = ap (λ zs. f x ∷ zs) (map_append f xs ys)

pub page_full : {A B : Type 0} (f : A → B) (all some rest : List A) (copies : List B) (count : ℕ) → all ≡ some ++ rest → copies ≡ map f some
    → length copies ≤ count → count ≤ length copies → copies ≡ take count (map f all)
page_full f all some rest copies count e is most least =
    let same : count ≡ length copies = omega (arith, most, least) in
    sym (take_first copies (map f rest)) ∙ ap (λ n. take n (copies ++ map f rest)) (sym same)
    ∙ ap (λ xs. take count (xs ++ map f rest)) is ∙ ap (take count) (sym (map_append f some rest)) ∙ ap (λ xs. take count (map f xs)) (sym e)

-- the items found are the page, if there are as many as were asked for
pub page_first : {Y A B : Type 0} (d : Y → A) (f : A → B) (all : List A) (some : List Y) (rest : List A) (count : ℕ) → all ≡ map d some ++ rest
    → length some ≡ count → map f (map d some) ≡ take count (map f all)
page_first d f all some rest count e few =
    let many = length-map (map d some) f in
    let each = length-map some d in
    page_full f all (map d some) rest (map f (map d some)) count e refl (omega (arith, many, each, few)) (omega (arith, many, each, few))

-- a page with one more item
pub page_more : {Y A B : Type 0} (d : Y → A) (f : A → B) (some : List Y) (y : Y) → map f (map d some) ++ f (d y) ∷ [] ≡ map f (map d (some ++ y ∷ []))
page_more d f some y = sym (map_append f (map d some) (map d (y ∷ []))) ∙ ap (map f) (sym (map_append d some (y ∷ [])))

-- filters by tests that agree
pub filter_same : {A : Type 0} (p q : A → Bool) → ((x : A) → p x ≡ q x) → (xs : List A) → filter p xs ≡ filter q xs
filter_same p q h [] = refl
filter_same p q h (x ∷ xs) = ap (λ b. cond b (x ∷ filter p xs) (filter p xs)) (h x) ∙ ap (λ ys. cond (q x) (x ∷ ys) ys) (filter_same p q h xs)

-- a second filter whose test passes only items that the first test passes
pub filter_after : {A : Type 0} (p q : A → Bool) → ((x : A) → p x ≡ true → q x ≡ true) → (xs : List A) → filter p (filter q xs) ≡ filter p xs
filter_after p q h [] = refl
filter_after p q h (x ∷ xs) = go (filter_after p q h xs) (q x) refl (p x) refl
  where
    go : filter p (filter q xs) ≡ filter p xs → (b : Bool) → q x ≡ b → (d : Bool) → p x ≡ d
        → filter p (cond b (x ∷ filter q xs) (filter q xs)) ≡ cond d (x ∷ filter p xs) (filter p xs)
    go more true t true u = ap (λ d. cond d (x ∷ filter p (filter q xs)) (filter p (filter q xs))) u ∙ ap (λ ys. x ∷ ys) more
    go more true t false u = ap (λ d. cond d (x ∷ filter p (filter q xs)) (filter p (filter q xs))) u ∙ more
    go more false t true u = let y = h x u in absurd (cc (t, y))
    go more false t false u = more

sorted_rest : {K : Type 0} (R : K → K → Rattle.std.specs.declared.cmp.Ordering.Ordering) (k : K) (ks : List K) → IsStrictlySortedBy R (k ∷ ks)
    → IsStrictlySortedBy R ks
unfolding IsStrictlySortedBy
sorted_rest R k ks h = h.1

module _ {K X : Type 0} {R : K → K → Rattle.std.specs.declared.cmp.Ordering.Ordering} (o : IsTotalOrder R) where
  put_first : (k : K) (v : X) (es : List (K × X)) → IsStrictlySortedBy R (k ∷ keys_of es) → fin.put R k v es ≡ (k, v) ∷ es
  unfolding IsStrictlySortedBy
  put_first k v [] h = refl
  put_first k v (e ∷ es) h = ap (λ r. by_order r ((k, v) ∷ e ∷ es) ((e.0, v) ∷ es) (e ∷ fin.put R k v es)) h.0.0

  -- ordered entries are the entries of their map
  pub entries_are : (es : List (K × X)) → IsStrictlySortedBy R (keys_of es) → fin.entries (fin.from_entries {R = R} es) ≡ es
  entries_are [] h = none_listed R
  entries_are (e ∷ es) h =
      fin.entries-insert o (fin.from_entries es) e.0 e.1
      ∙ ap (fin.put R e.0 e.1) (entries_are es (sorted_rest R e.0 (keys_of es) h))
      ∙ put_first e.0 e.1 es h

pub rows_are : (es : List (ℕ × Volume)) → IsStrictlySortedBy nat_cmp (keys_of es) → fin.entries (volumes_of es) ≡ es
rows_are es h = entries_are nat_cmp_total es h

pub places_are : (es : List (AttachmentKey × Attachment)) → IsStrictlySortedBy attachment_key_cmp (keys_of es) → fin.entries (places_of es) ≡ es
places_are es h = entries_are place_total es h

above : (a q : ℕ) → range_contains nat_cmp (Excluded a) Unbounded q ≡ nat_lt a q
above a q = elim (nat_lt a q) as (λ b. (is_lt (cond b Less (cond (a == q) Equal Greater)) && true) ≡ b) [
  | true ↦ refl
  | false ↦ elim (a == q) as (λ b. (is_lt (cond b Equal Greater) && true) ≡ false) [ true ↦ refl | false ↦ refl ]
]

pub page_rows : (es : List (ℕ × Volume)) (a : ℕ) → entries_between nat_cmp (Excluded a) Unbounded es ≡ filter (λ e. nat_lt a e.0) es
page_rows es a = filter_same _ _ (λ e. above a e.0) es

pub empty_first : (t : Text) → is_le (text_cmp [] t) ≡ true
empty_first [] = refl
empty_first (b ∷ t) = refl

here : (n : ℕ) (q : AttachmentKey) → (q.0 == n) ≡ true → range_contains attachment_key_cmp (Included (n, [])) (place_end n) q ≡ true
here n q t =
    let is : q.0 ≡ n = eqb-true q.0 n t in
    let low : nat_cmp n q.0 ≡ Equal = sym (nat_cmp_is n q.0 Equal (sym is)) in
    let up : nat_cmp (n + 1) q.0 ≡ Greater = sym (nat_cmp_is (n + 1) q.0 Greater (omega (arith, is))) in
    ap₂ (λ (a b : Bool). a && b)
    (ap (λ r. is_le (ordering_then r (text_cmp [] q.1))) low ∙ empty_first q.1)
    (elim (n == 2 ^ 64 - 1) as (λ b. not (is_past_end attachment_key_cmp (cond b Unbounded (Excluded (n + 1, []))) q) ≡ true) [
      | true ↦ refl
      | false ↦ ap (λ r. not (is_le (ordering_then r (text_cmp [] q.1)))) up
    ])

pub place_rows : (es : List (AttachmentKey × Attachment)) (n : ℕ)
    → filter (λ e. e.0.0 == n) (entries_between attachment_key_cmp (Included (n, [])) (place_end n) es) ≡ filter (λ e. e.0.0 == n) es
place_rows es n = filter_after _ _ (λ e t. here n e.0 t) es
