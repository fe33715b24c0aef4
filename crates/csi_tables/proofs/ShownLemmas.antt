-- The rows that each query shows of the State.
use Rattle.std.proofs.Common.{◌≡◌, ◌∙◌, refl, sym, ap, ℕ, ℤ, zero, suc, ◌==◌, ◌&&◌, pos, arith, Bool, true, false, cond, List, [], ◌∷◌, map, filter, find, take, slice_get, Option, None, Some, is_some, option_map, IfSome, Ordering, Less, Equal, Greater, is_eq, is_gt, bytes_eq, nat_lt}
use Rattle.std.specs.Cmp.{nat_cmp_total, eq_by_cmp_equiv}
use Rattle.std.specs.FinMap as fin
use Rattle.std.specs.FinMap.{entries, entries_sorted}
use Rattle.std.specs.List.{AllByRecursion}
use Rattle.std.specs.Ordering.{nat_cmp, int_cmp, ordering_then}
use Rattle.std.proofs.lemmas.Bool.Decides.{nat_tests}
use Rattle.std.proofs.lemmas.Cmp.{tied_itself, nat_list_cmp_total}
use Rattle.std.proofs.lemmas.Map.Text.{is_eq-slice_cmp}
use Rattle.std.proofs.lemmas.Slice.Eq.{bytes_eq-Decides}
use Rattle.sqlite.specs.declared.types.Value.TheVariants.{Int, Text}
use Rattle.sqlite.specs.Collation.TheVariants.{Binary}
use Rattle.sqlite.specs.Ops.{binary, unary, is_true}
use Rattle.sqlite.specs.Order.{Row, column, value_cmp}
use Rattle.sqlite.specs.Query.{Output}
use Rattle.sqlite.specs.Tree.{Trees, IsAscending}
use Rattle.sqlite_keyed.proofs.ListLemmas.{filter-map, map-map}
use Rattle.sqlite_rules.proofs.ListLemmas.{all_from, has_filtered}
use Rattle.sqlite_sql.specs.declared.ops.BinaryOp.TheVariants.{Compare}
use Rattle.sqlite_sql.specs.declared.ops.CompareOp.TheVariants.{Gt}
use Rattle.sqlite_sql.specs.declared.ops.UnaryOp.TheVariants.{ToNumeric}
use Rattle.sqlite_trees.proofs.ListLemmas.{all-filter, ascending-filter, ascending_weaker}
use Rattle.sqlite_value.proofs.OrderLemmas.{value_cmp-Int, value_cmp-Text}
use Rattle.csi_keeper.specs.State.{State, AttachmentKey, attachment_key_cmp, attached, attached_at, named, page, sizes}
use Rattle.csi_keeper.specs.Texts.{text_cmp}
use Rattle.csi_keeper.specs.declared.volume.Attachment.{Attachment}
use Rattle.csi_keeper.specs.declared.volume.Volume.{Volume}
use Rattle.csi_sql.specs.Deletes.{is_same}
use Rattle.csi_sql.specs.Rows.{number_value, seen_volume, seen_attachment}
use Rattle.csi_sql.specs.Shown.{IsShownOf, IsFoundBy, IsBeginningOf}
use Rattle.csi_sql.specs.Statements.{attached_query, named_query, nodes_query, page_query, sizes_query, volume_query}
use Rattle.csi_columns.specs.Encoding.{AreKnown}
use Rattle.csi_columns.specs.Entries.{volume_entry, attachment_entry, node_entry}
use Rattle.csi_tables.specs.Holding.{IsRows, IsStored, IsPlaced, IsReadable, IsReadablePlace}
use Rattle.csi_tables.specs.Reading.{share}
use Rattle.csi_tables.specs.Refusing.{HasKnownModes}
use Rattle.csi_tables.proofs.EntryLemmas.{rises}
use Rattle.csi_tables.proofs.SortedLemmas.{shown_by}
use Rattle.csi_tables.proofs.TestLemmas.{same_numbers, same_texts, truth_test}

-- ---- tests

pub and_true : (b : Bool) → (b && true) ≡ b
and_true true = refl
and_true false = refl

pub nats_tie : (x y : ℕ) → is_eq (nat_cmp x y) ≡ (y == x)
nats_tie x y = grind (arith, nat_tests)

texts_tie : (a b : List ℕ) → is_same (Text a) (Text b) ≡ bytes_eq a b
texts_tie a b = same_texts a b ∙ (eq_by_cmp_equiv nat_list_cmp_total).symm b a ∙ is_eq-slice_cmp a b

numbers_tie : (a b : ℕ) → is_same (Int (pos a)) (Int (pos b)) ≡ (a == b)
numbers_tie a b = same_numbers a b ∙ nats_tie b a

pub to_numeric : (n : ℤ) → unary ToNumeric (Int n) ≡ Int n
unfolding unary
to_numeric n = refl

pub is_above : (a b : ℕ) → is_true (binary (Compare Gt Binary) (Int (pos b)) (Int (pos a))) ≡ nat_lt a b
unfolding binary
is_above a b = truth_test (is_gt (value_cmp (Int (pos b)) (Int (pos a)))) ∙ ap is_gt (value_cmp-Int (pos b) (pos a)) ∙ (let tie : is_gt (int_cmp (pos b) (pos a)) ≡ nat_lt a b = grind (arith, nat_tests) in tie)

-- ---- entries in the order of a query

lower : (a b : ℕ) → nat_cmp a b ≡ Less → value_cmp (number_value a) (number_value b) ≡ Less
lower a b h = value_cmp-Int (pos a) (pos b) ∙ grind (arith, nat_tests, h)

-- in ordered places, the places of one number are ordered by node, and the places at one node by number
same_first : (a b : AttachmentKey) → attachment_key_cmp a b ≡ Less → a.0 ≡ b.0 → text_cmp a.1 b.1 ≡ Less
same_first a b h e = let tied : nat_cmp a.0 b.0 ≡ Equal = ap (nat_cmp a.0) (sym e) ∙ tied_itself nat_cmp_total a.0 in ap (λ o. ordering_then o (text_cmp a.1 b.1)) (sym tied) ∙ h

second_less : (o : Ordering) → ordering_then o Equal ≡ Less → o ≡ Less
second_less Less h = refl
second_less Equal h = h
second_less Greater h = h

same_second : (a b : AttachmentKey) → attachment_key_cmp a b ≡ Less → a.1 ≡ b.1 → nat_cmp a.0 b.0 ≡ Less
same_second a b h e = second_less (nat_cmp a.0 b.0) (let tied : text_cmp a.1 b.1 ≡ Equal = ap (text_cmp a.1) (sym e) ∙ tied_itself nat_list_cmp_total a.1 in ap (ordering_then (nat_cmp a.0 b.0)) (sym tied) ∙ h)

ascending_on : {E : Type 0} {R S : E → E → Type 0} (P : E → Type 0) → ((a b : E) → P a → P b → R a b → S a b) → (es : List E) → AllByRecursion P es → IsAscending R es → IsAscending S es
ascending_on P f [] all up = tt
ascending_on {E} {R} {S} P f (e ∷ es) all up = (above es all.1 up.0, ascending_on P f es all.1 up.1)
  where
    above : (fs : List E) → AllByRecursion P fs → AllByRecursion (R e) fs → AllByRecursion (S e) fs
    above [] p h = tt
    above (x ∷ fs) p h = (f e x all.0 p.0 h.0, above fs p.1 h.1)

pub passed : {E : Type 0} (p : E → Bool) (es : List E) → AllByRecursion (λ e. p e ≡ true) (filter p es)
passed p es = all_from _ (filter p es) (λ e has. (has_filtered p es e has).1)

at_node : (node : List ℕ) (es : List (AttachmentKey × Attachment)) → IsAscending (λ a b. attachment_key_cmp a.0 b.0 ≡ Less) es → IsAscending (λ a b. nat_cmp a.0.0 b.0.0 ≡ Less) (filter (λ e. bytes_eq e.0.1 node) es)
at_node node es up = ascending_on (λ e. bytes_eq e.0.1 node ≡ true) (λ a b p q h. same_second a.0 b.0 h ((bytes_eq-Decides a.0.1 node).0 p ∙ sym ((bytes_eq-Decides b.0.1 node).0 q))) _ (passed _ es) (ascending-filter _ _ es up)

of_number : (number : ℕ) (es : List (AttachmentKey × Attachment)) → IsAscending (λ a b. attachment_key_cmp a.0 b.0 ≡ Less) es → IsAscending (λ a b. text_cmp a.0.1 b.0.1 ≡ Less) (filter (λ e. e.0.0 == number) es)
of_number number es up = ascending_on (λ e. (e.0.0 == number) ≡ true) (λ a b p q h. same_first a.0 b.0 h (same a.0.0 b.0.0 p q)) _ (passed _ es) (ascending-filter _ _ es up)
  where
    same : (x y : ℕ) → (x == number) ≡ true → (y == number) ≡ true → x ≡ y
    same x y p q = grind (arith, nat_tests, p, q)

-- at most one volume has a number, so the rows are in any order
numbered_once : (R : ℕ × Volume → ℕ × Volume → Type 0) (number : ℕ) (es : List (ℕ × Volume)) → IsAscending (λ a b. nat_cmp a.0 b.0 ≡ Less) es → IsAscending R (filter (λ e. e.0 == number) es)
numbered_once R number es up = ascending_on (λ e. (e.0 == number) ≡ true) (λ a b p q h. absurd (apart a.0 b.0 p q h)) _ (passed _ es) (ascending-filter _ _ es up)
  where
    apart : (x y : ℕ) → (x == number) ≡ true → (y == number) ≡ true → nat_cmp x y ≡ Less → ⊥
    apart x y p q h = grind (arith, nat_tests, p, q, h)

-- ---- rows that are taken

pub all-take : {E : Type 0} (P : E → Type 0) (n : ℕ) (es : List E) → AllByRecursion P es → AllByRecursion P (take n es)
all-take P zero es all = tt
all-take P (suc n) [] all = tt
all-take P (suc n) (e ∷ es) all = (all.0, all-take P n es all.1)

pub take-map : {E X : Type 0} (f : E → X) (n : ℕ) (es : List E) → take n (map f es) ≡ map f (take n es)
take-map f zero es = refl
take-map f (suc n) [] = refl
take-map f (suc n) (e ∷ es) = ap (λ xs. f e ∷ xs) (take-map f n es)

-- the first of the rows
first_row : {E : Type 0} (entry : E → Row) (shown : List Row) (es : List E) (found : Option Row) → shown ≡ map entry es → found ≡ slice_get shown 0 → found ≡ option_map entry (slice_get es 0)
first_row entry shown es found are is = is ∙ ap (λ rs. slice_get rs 0) are ∙ go es
  where
    go : (es : List _) → slice_get (map entry es) 0 ≡ option_map entry (slice_get es 0)
    go [] = refl
    go (e ∷ es) = refl

-- a fact of the first row is a fact of its value
pub some_found : (o : Option (ℕ × Volume)) → is_some (option_map volume_entry o) ≡ is_some (option_map (λ e. e.1) o)
some_found None = refl
some_found (Some e) = refl

-- the share of the first row's volume
pub share_found : (o : Option (ℕ × Volume)) → option_map (λ e. share e.1) o ≡ option_map share (option_map (λ e. e.1) o)
share_found None = refl
share_found (Some e) = refl

first_so : {E : Type 0} (P : E → Type 0) (es : List E) → AllByRecursion P es → IfSome (slice_get es 0) P
first_so P [] all = tt
first_so P (e ∷ es) all = all.0

first_found : (p : Volume → Bool) (es : List (ℕ × Volume)) → option_map (λ e. e.1) (slice_get (filter (λ e. p e.1) es) 0) ≡ find p (map (λ e. e.1) es)
first_found p [] = refl
first_found p (e ∷ es) = elim (p e.1) as (λ b. option_map (λ e. e.1) (slice_get (cond b (e ∷ filter (λ e. p e.1) es) (filter (λ e. p e.1) es)) 0) ≡ cond b (Some e.1) (find p (map (λ e. e.1) es))) [
  | true ↦ refl
  | false ↦ first_found p es
]

first_numbered : (n : ℕ) (es : List (ℕ × Volume)) → option_map (λ e. e.1) (slice_get (filter (λ e. e.0 == n) es) 0) ≡ fin.find nat_cmp n es
first_numbered n [] = refl
first_numbered n (e ∷ es) =
    elim (e.0 == n) as (λ b. option_map (λ e. e.1) (slice_get (cond b (e ∷ filter (λ e. e.0 == n) es) (filter (λ e. e.0 == n) es)) 0) ≡ cond b (Some e.1) (fin.find nat_cmp n es)) [
      | true ↦ refl
      | false ↦ first_numbered n es
    ] ∙ ap (λ b. cond b (Some e.1) (fin.find nat_cmp n es)) (sym (nats_tie n e.0))

-- ---- reading back

readable : (es : List (ℕ × Volume)) → AllByRecursion IsStored es → AllByRecursion (λ e. AreKnown e.1.caps) es → AllByRecursion IsReadable es
readable [] stored known = tt
readable (e ∷ es) stored known = (record { stored = stored.0; caps = known.0 }, readable es stored.1 known.1)

readable_places : (es : List (AttachmentKey × Attachment)) → AllByRecursion IsPlaced es → AllByRecursion (λ e. AreKnown (e.1.cap ∷ [])) es → AllByRecursion IsReadablePlace es
readable_places [] placed known = tt
readable_places (e ∷ es) placed known = (record { placed = placed.0; cap = known.0 }, readable_places es placed.1 known.1)

-- ---- the rows of a State

abbrev volume_output : Row → Output
volume_output x = (column x 0 ∷ [], x)

module _ (s : State) (db : Trees) (p : IsRows s db) where
  pub volumes_up : IsAscending (λ a b. nat_cmp a.0 b.0 ≡ Less) (entries s.volumes)
  volumes_up = rises nat_cmp (entries s.volumes) (entries_sorted s.volumes)

  pub places_up : IsAscending (λ a b. attachment_key_cmp a.0 b.0 ≡ Less) (entries s.attachments)
  places_up = rises attachment_key_cmp (entries s.attachments) (entries_sorted s.attachments)

  -- volumes by a query that orders them by number
  pub by_rising : {R : ℕ × Volume → ℕ × Volume → Type 0} (stays : ℕ × Volume → Bool) → ((a b : ℕ × Volume) → value_cmp (number_value a.0) (number_value b.0) ≡ Less → R a b) → IsAscending R (filter stays (entries s.volumes))
  by_rising {R} stays f = ascending_weaker _ R (λ a b h. f a b (lower a.0 b.0 h)) (filter stays (entries s.volumes)) (ascending-filter _ stays (entries s.volumes) volumes_up)

  -- the volume with a number
  numbered_rows : (n : ℕ) (shown : List Row) → IsShownOf volume_query (db 1) (number_value n ∷ []) shown → shown ≡ map volume_entry (filter (λ e. e.0 == n) (entries s.volumes))
  numbered_rows n shown h =
      shown_by volume_query (number_value n ∷ []) volume_entry seen_volume (λ x. ([], x)) (λ x. is_same (column x 0) (Int (pos n))) (λ r. refl) (λ r. and_true (is_same (column r 0) (Int (pos n))))
      (λ e. e.0 == n) (λ e. numbers_tie e.0 n) (entries s.volumes) (db 1) shown p.volumes (numbered_once _ n (entries s.volumes) volumes_up) h

  pub number_found : (n : ℕ) (found : Option Row) → IsFoundBy volume_query (db 1) (number_value n ∷ []) found
      → (o : Option (ℕ × Volume)) × IfSome o IsStored × (found ≡ option_map volume_entry o) × (option_map (λ e. e.1) o ≡ fin.get s.volumes n)
  number_found n found h =
      let es = filter (λ (e : ℕ × Volume). e.0 == n) (entries s.volumes) in (
        slice_get es 0,
        first_so IsStored es (all-filter IsStored (λ e. e.0 == n) (entries s.volumes) p.storable.volumes),
        first_row volume_entry h.0 es found (numbered_rows n h.0 h.1) h.2,
        first_numbered n (entries s.volumes) ∙ sym (fin.get-entries s.volumes n),
      )

  -- the volume with a name
  named_rows : (name : List ℕ) (shown : List Row) → IsShownOf named_query (db 1) (Text name ∷ []) shown → shown ≡ map volume_entry (filter (λ e. bytes_eq e.1.name name) (entries s.volumes))
  named_rows name shown h =
      shown_by named_query (Text name ∷ []) volume_entry seen_volume volume_output (λ x. is_same (column x 1) (Text name)) (λ r. refl) (λ r. and_true (is_same (column r 2) (Text name)))
      (λ e. bytes_eq e.1.name name) (λ e. texts_tie e.1.name name) (entries s.volumes) (db 1) shown p.volumes (by_rising _ (λ a b h. ap (λ o. ordering_then o Equal) h)) h

  pub name_found : (name : List ℕ) (found : Option Row) → IsFoundBy named_query (db 1) (Text name ∷ []) found
      → (o : Option (ℕ × Volume)) × IfSome o IsStored × (found ≡ option_map volume_entry o) × (option_map (λ e. e.1) o ≡ named s name)
  name_found name found h =
      let es = filter (λ (e : ℕ × Volume). bytes_eq e.1.name name) (entries s.volumes) in (
        slice_get es 0,
        first_so IsStored es (all-filter IsStored (λ e. bytes_eq e.1.name name) (entries s.volumes) p.storable.volumes),
        first_row volume_entry h.0 es found (named_rows name h.0 h.1) h.2,
        first_found (λ v. bytes_eq v.name name) (entries s.volumes),
      )

  -- the bytes of a pool's volumes
  pub sizes_rows : (pool : List ℕ) (shown : List Row) → IsShownOf sizes_query (db 1) (Text pool ∷ []) shown → shown ≡ map (λ n. number_value n ∷ []) (sizes s pool)
  sizes_rows pool shown h =
      let es = entries s.volumes in
      shown_by sizes_query (Text pool ∷ []) volume_entry seen_volume (λ x. (column x 0 ∷ [], column x 2 ∷ [])) (λ x. is_same (column x 3) (Text pool)) (λ r. refl) (λ r. and_true (is_same (column r 4) (Text pool)))
      (λ e. bytes_eq e.1.pool pool) (λ e. texts_tie e.1.pool pool) es (db 1) shown p.volumes (by_rising _ (λ a b h. ap (λ o. ordering_then o Equal) h)) h
      ∙ sym (
      ap (λ vs. map (λ n. number_value n ∷ []) (map (λ (v : Volume). v.bytes) vs)) (filter-map (λ v. bytes_eq v.pool pool) (λ e. e.1) es)
      ∙ ap (map (λ n. number_value n ∷ [])) (map-map (λ (v : Volume). v.bytes) (λ e. e.1) (filter (λ e. bytes_eq e.1.pool pool) es))
      ∙ map-map (λ n. number_value n ∷ []) (λ e. e.1.bytes) (filter (λ e. bytes_eq e.1.pool pool) es)
      )

  -- a page of the volumes
  pub page_shown : (after count : ℕ) (shown : List Row) → IsBeginningOf page_query (db 1) (number_value after ∷ number_value count ∷ []) count shown
      → shown ≡ map volume_entry (take count (filter (λ e. nat_lt after e.0) (entries s.volumes)))
  page_shown after count shown h =
      let params : Row = number_value after ∷ number_value count ∷ [] in
      let es = filter (λ (e : ℕ × Volume). nat_lt after e.0) (entries s.volumes) in
      let all = shown_by page_query params volume_entry seen_volume volume_output (λ x. is_true (binary (Compare Gt Binary) (column x 0) (Int (pos after)))) (λ r. refl) (λ r. and_true (is_true (binary (Compare Gt Binary) (column r 0) (Int (pos after)))))
      (λ e. nat_lt after e.0) (λ e. is_above after e.0) (entries s.volumes) (db 1) h.0 p.volumes (by_rising _ (λ a b h. ap (λ o. ordering_then o Equal) h)) h.1 in
      h.2 ∙ ap (take count) all ∙ take-map volume_entry count es

  pub page_rows : (after count : ℕ) (shown : List Row) → IsBeginningOf page_query (db 1) (number_value after ∷ number_value count ∷ []) count shown
      → (es : List (ℕ × Volume)) × AllByRecursion IsStored es × (shown ≡ map volume_entry es) × (map (λ e. e.1) es ≡ page s after count)
  page_rows after count shown h =
      let es = filter (λ (e : ℕ × Volume). nat_lt after e.0) (entries s.volumes) in (
        take count es,
        all-take IsStored count es (all-filter IsStored (λ e. nat_lt after e.0) (entries s.volumes) p.storable.volumes),
        page_shown after count shown h,
        sym (take-map (λ e. e.1) count es),
      )

  -- the attachments of a volume
  pub node_rows : (number : ℕ) (shown : List Row) → IsShownOf nodes_query (db 3) (number_value number ∷ []) shown
      → (es : List (AttachmentKey × Attachment)) × AllByRecursion IsPlaced es × (shown ≡ map node_entry es) × (map (λ e. e.1) es ≡ attached s number)
  node_rows number shown h =
      let es = entries s.attachments in (
        filter (λ e. e.0.0 == number) es,
        all-filter IsPlaced (λ e. e.0.0 == number) es p.storable.attachments,
        shown_by nodes_query (number_value number ∷ []) attachment_entry seen_attachment (λ x. (column x 1 ∷ [], column x 1 ∷ column x 2 ∷ column x 3 ∷ [])) (λ x. is_same (column x 0) (Int (pos number)))
            (λ r. refl) (λ r. rw (to_numeric (pos number)) (and_true (is_same (column r 1) (Int (pos number))))) (λ e. e.0.0 == number) (λ e. numbers_tie e.0.0 number) es (db 3) shown p.attachments
            (ascending_weaker _ _ (λ a b h. ap (λ o. ordering_then o Equal) (value_cmp-Text a.0.1 b.0.1 ∙ h)) _ (of_number number es places_up)) h,
        refl,
      )

  -- the numbers of the volumes attached at a node
  pub attached_rows : (node : List ℕ) (shown : List Row) → IsShownOf attached_query (db 3) (Text node ∷ []) shown → shown ≡ map (λ n. number_value n ∷ []) (attached_at s node)
  attached_rows node shown h =
      let es = entries s.attachments in
      shown_by attached_query (Text node ∷ []) attachment_entry seen_attachment (λ x. (column x 0 ∷ [], column x 0 ∷ [])) (λ x. is_same (column x 1) (Text node))
      (λ r. refl) (λ r. and_true (is_same (column r 2) (Text node))) (λ e. bytes_eq e.0.1 node) (λ e. texts_tie e.0.1 node) es (db 3) shown p.attachments
      (ascending_weaker _ _ (λ a b h. ap (λ o. ordering_then o Equal) (lower a.0.0 b.0.0 h)) _ (at_node node es places_up)) h
      ∙ sym (map-map (λ n. number_value n ∷ []) (λ e. e.0.0) (filter (λ e. bytes_eq e.0.1 node) es))

  -- ---- the same rows, which can be read again if the modes are known

  module _ (known : HasKnownModes s) where
    volumes_readable : AllByRecursion IsReadable (entries s.volumes)
    volumes_readable = readable (entries s.volumes) p.storable.volumes known.volumes

    pub number_readable : (n : ℕ) (found : Option Row) → IsFoundBy volume_query (db 1) (number_value n ∷ []) found → (o : Option (ℕ × Volume)) × IfSome o IsReadable × (found ≡ option_map volume_entry o)
    number_readable n found h =
        let es = filter (λ (e : ℕ × Volume). e.0 == n) (entries s.volumes) in (
          slice_get es 0,
          first_so IsReadable es (all-filter IsReadable (λ e. e.0 == n) (entries s.volumes) volumes_readable),
          first_row volume_entry h.0 es found (numbered_rows n h.0 h.1) h.2,
        )

    pub name_readable : (name : List ℕ) (found : Option Row) → IsFoundBy named_query (db 1) (Text name ∷ []) found → (o : Option (ℕ × Volume)) × IfSome o IsReadable × (found ≡ option_map volume_entry o)
    name_readable name found h =
        let es = filter (λ (e : ℕ × Volume). bytes_eq e.1.name name) (entries s.volumes) in (
          slice_get es 0,
          first_so IsReadable es (all-filter IsReadable (λ e. bytes_eq e.1.name name) (entries s.volumes) volumes_readable),
          first_row volume_entry h.0 es found (named_rows name h.0 h.1) h.2,
        )

    pub page_readable : (after count : ℕ) (shown : List Row) → IsBeginningOf page_query (db 1) (number_value after ∷ number_value count ∷ []) count shown
        → (es : List (ℕ × Volume)) × AllByRecursion IsReadable es × (shown ≡ map volume_entry es)
    unfolding page_rows
    page_readable after count shown h =
        let es = filter (λ (e : ℕ × Volume). nat_lt after e.0) (entries s.volumes) in (
          take count es,
          all-take IsReadable count es (all-filter IsReadable (λ e. nat_lt after e.0) (entries s.volumes) volumes_readable),
          (page_rows after count shown h).2,
        )

    pub nodes_readable : (number : ℕ) (shown : List Row) → IsShownOf nodes_query (db 3) (number_value number ∷ []) shown → (es : List (AttachmentKey × Attachment)) × AllByRecursion IsReadablePlace es × (shown ≡ map node_entry es)
    unfolding node_rows
    nodes_readable number shown h =
        let es = entries s.attachments in (
          filter (λ e. e.0.0 == number) es,
          all-filter IsReadablePlace (λ e. e.0.0 == number) es (readable_places es p.storable.attachments known.attachments),
          (node_rows number shown h).2,
        )
