-- The rows that the two queries of a page's nodes show of the State.
use Rattle.std.proofs.Common.{◌≡◌, ◌∙◌, refl, sym, ap, ap₂, subst, arith, ℕ, zero, suc, ◌-◌, ◌<◌, ◌≤◌, ◌==◌, ◌&&◌, pos, Bool, true, false, cond, List, [], ◌∷◌, map, filter, take, length, slice_get, unwrap_or, option_and_then, Some, Ordering, Less, Equal, Greater, is_le, nat_lt, nat_le}
use Rattle.std.specs.FinMap.{entries}
use Rattle.std.specs.List.{AllByRecursion}
use Rattle.std.specs.Ordering.{nat_cmp, int_cmp, ordering_then}
use Rattle.std.proofs.lemmas.Bool.Decides.{nat_tests}
use Rattle.sqlite.specs.Collation.TheVariants.{Binary}
use Rattle.sqlite.specs.declared.types.Value.TheVariants.{Int}
use Rattle.sqlite.specs.Ops.{binary, is_true}
use Rattle.sqlite.specs.Order.{Row, column, value_cmp}
use Rattle.sqlite.specs.Tree.{Trees, IsAscending}
use Rattle.sqlite_keyed.proofs.ListLemmas.{map-map}
use Rattle.sqlite_sql.specs.declared.ops.BinaryOp.TheVariants.{Compare}
use Rattle.sqlite_sql.specs.declared.ops.CompareOp.TheVariants.{Gt, Le}
use Rattle.sqlite_trees.proofs.ListLemmas.{ascending-filter, ascending-map, ascending_weaker, all-filter}
use Rattle.sqlite_value.proofs.OrderLemmas.{value_cmp-Int, value_cmp-Text}
use Rattle.csi_keeper.specs.State.{State, AttachmentKey, attachment_key_cmp, page, published, published_of_page}
use Rattle.csi_keeper.specs.Texts.{text_cmp}
use Rattle.csi_keeper.specs.declared.volume.Attachment.{Attachment}
use Rattle.csi_keeper.specs.declared.volume.Volume.{Volume}
use Rattle.csi_sql.specs.Cells.{as_number}
use Rattle.csi_sql.specs.Rows.{number_value, seen_attachment}
use Rattle.csi_sql.specs.Shown.{IsShownOf, IsBeginningOf, last_number}
use Rattle.csi_sql.specs.Statements.{page_query, places_query}
use Rattle.csi_columns.specs.Entries.{volume_entry, attachment_entry}
use Rattle.csi_tables.specs.Holding.{IsRows, IsStored, IsPlaced}
use Rattle.csi_tables.specs.Places.{place_row, nodes_at, IsRisen, AreRising, AreTexts}
use Rattle.csi_tables.proofs.ShownLemmas.{and_true, is_above, to_numeric, all-take, take-map, volumes_up, places_up, page_shown, passed}
use Rattle.csi_tables.proofs.SortedLemmas.{shown_by}
use Rattle.csi_tables.proofs.TestLemmas.{truth_test}

-- ---- tests and orders

up_to : (a b : ℕ) → is_true (binary (Compare Le Binary) (Int (pos a)) (Int (pos b))) ≡ nat_le a b
unfolding binary
up_to a b = truth_test (is_le (value_cmp (Int (pos a)) (Int (pos b)))) ∙ ap is_le (value_cmp-Int (pos a) (pos b)) ∙ (let tie : is_le (int_cmp (pos a) (pos b)) ≡ nat_le a b = grind (arith, nat_tests) in tie)

ints_cmp : (a b : ℕ) → value_cmp (number_value a) (number_value b) ≡ nat_cmp a b
ints_cmp a b = value_cmp-Int (pos a) (pos b) ∙ tie a b
  where
    tie : (x y : ℕ) → int_cmp (pos x) (pos y) ≡ nat_cmp x y
    tie x y = grind (arith, nat_tests)

then_nothing : (o : Ordering) → ordering_then o Equal ≡ o
then_nothing Less = refl
then_nothing Equal = refl
then_nothing Greater = refl

less_is : (x y : ℕ) → nat_cmp x y ≡ Less → x < y
less_is x y e = grind (arith, nat_tests, e)

less_or_same : (a b : AttachmentKey) → attachment_key_cmp a b ≡ Less → a.0 ≤ b.0
less_or_same a b h = go (nat_cmp a.0 b.0) refl h
  where
    go : (o : Ordering) → nat_cmp a.0 b.0 ≡ o → ordering_then o (text_cmp a.1 b.1) ≡ Less → a.0 ≤ b.0
    go Less e h = grind (arith, nat_tests, e)
    go Equal e h = grind (arith, nat_tests, e)
    go Greater e h = absurd cc

ascending-take : {E : Type 0} (R : E → E → Type 0) (n : ℕ) (es : List E) → IsAscending R es → IsAscending R (take n es)
ascending-take R zero es up = tt
ascending-take R (suc n) [] up = tt
ascending-take R (suc n) (e ∷ es) up = (all-take (R e) n es up.0, ascending-take R n es up.1)

-- ---- the number in the last row

last_of : ℕ → List ℕ → ℕ
last_of n [] = n
last_of n (m ∷ ms) = last_of m ms

abbrev numbers_of : List (ℕ × Volume) → List ℕ
numbers_of es = map (λ e. e.0) es

last_row : (e : ℕ × Volume) (es : List (ℕ × Volume)) → option_and_then (λ (r : Row). as_number (column r 0)) (slice_get (map volume_entry (e ∷ es)) (length (map volume_entry es))) ≡ Some (last_of e.0 (numbers_of es))
unfolding last_of
last_row e [] = refl
last_row e (k ∷ es) = last_row k es

last_is : (n : ℕ) (e : ℕ × Volume) (es : List (ℕ × Volume)) → last_number n (map volume_entry (e ∷ es)) ≡ last_of e.0 (numbers_of es)
last_is n e es =
    let rows : List Row = map volume_entry (e ∷ es) in
    let at : length rows - 1 ≡ length (map volume_entry es) = omega arith in
    ap (λ o. unwrap_or o n) (ap (λ i. option_and_then (λ (r : Row). as_number (column r 0)) (slice_get rows i)) at ∙ last_row e es)

below_last : (m : ℕ) (ms : List ℕ) → AreRising (m ∷ ms) → m ≤ last_of m ms
unfolding last_of
below_last m [] up = omega arith
below_last m (k ∷ ms) up = let h = below_last k ms up.1 in let low = up.0.0 in omega (arith, h, low)

all_below : (m : ℕ) (ms : List ℕ) → AreRising (m ∷ ms) → AllByRecursion (λ k. k ≤ last_of m ms) (m ∷ ms)
unfolding last_of
all_below m [] up = (omega arith, tt)
all_below m (k ∷ ms) up = (below_last m (k ∷ ms) up, all_below k ms up.1)

up_to_last : (n : ℕ) (es : List (ℕ × Volume)) → AreRising (numbers_of es) → AllByRecursion (λ k. k ≤ last_number n (map volume_entry es)) (numbers_of es)
up_to_last n [] up = tt
up_to_last n (e ∷ es) up = subst (λ (l : ℕ). AllByRecursion (λ k. k ≤ l) (numbers_of (e ∷ es))) (sym (last_is n e es)) (all_below e.0 (numbers_of es) up)

-- ---- the nodes of one number, and of each number

stays : ℕ → ℕ → AttachmentKey × Attachment → Bool
stays after last e = nat_lt after e.0.0 && nat_le e.0.0 last

-- the places with a number between the two bounds are the State's
nodes_here : (after last n : ℕ) → after < n → n ≤ last → (es : List (AttachmentKey × Attachment)) → AllByRecursion IsPlaced es
    → nodes_at (map (λ e. e.0) (filter (stays after last) es)) n ≡ map (λ a. a.node) (map (λ e. e.1) (filter (λ e. e.0.0 == n) es))
unfolding stays
nodes_here after last n low high [] all = refl
nodes_here after last n low high (e ∷ es) all = go (stays after last e) refl (e.0.0 == n) refl (nodes_here after last n low high es all.1)
  where
    inside : (k : ℕ) → (k == n) ≡ true → (nat_lt after k && nat_le k last) ≡ true
    inside k is = grind (arith, nat_tests, is, low, high)

    go : (b : Bool) → stays after last e ≡ b → (d : Bool) → (e.0.0 == n) ≡ d → nodes_at (map (λ e. e.0) (filter (stays after last) es)) n ≡ map (λ a. a.node) (map (λ e. e.1) (filter (λ e. e.0.0 == n) es))
        → nodes_at (map (λ e. e.0) (cond b (e ∷ filter (stays after last) es) (filter (stays after last) es))) n ≡ map (λ a. a.node) (map (λ e. e.1) (cond d (e ∷ filter (λ e. e.0.0 == n) es) (filter (λ e. e.0.0 == n) es)))
    go true t true u more =
        ap (λ b. map (λ (p : AttachmentKey). p.1) (cond b (e.0 ∷ filter (λ p. p.0 == n) (map (λ e. e.0) (filter (stays after last) es))) (filter (λ p. p.0 == n) (map (λ e. e.0) (filter (stays after last) es))))) u
        ∙ ap₂ ◌∷◌ (sym all.0.node) more
    go true t false u more = ap (λ b. map (λ (p : AttachmentKey). p.1) (cond b (e.0 ∷ filter (λ p. p.0 == n) (map (λ e. e.0) (filter (stays after last) es))) (filter (λ p. p.0 == n) (map (λ e. e.0) (filter (stays after last) es))))) u ∙ more
    go false t true u more = absurd (let h = inside e.0.0 u in let k : true ≡ false = sym h ∙ t in cc)
    go false t false u more = more

map_on : {E X : Type 0} (f g : E → X) (es : List E) → AllByRecursion (λ e. f e ≡ g e) es → map f es ≡ map g es
map_on f g [] all = refl
map_on f g (e ∷ es) all = ap₂ ◌∷◌ all.0 (map_on f g es all.1)

module _ (s : State) (db : Trees) (p : IsRows s db) where
  -- the volumes with a greater number
  behind : ℕ → ℕ → List (ℕ × Volume)
  behind after count = take count (filter (λ e. nat_lt after e.0) (entries s.volumes))

  numbers_rise : (after count : ℕ) → AreRising (map (λ e. e.0) (behind after count))
  unfolding behind
  numbers_rise after count =
      ascending-map (λ a b. a < b) (λ e. e.0) _ (ascending_weaker _ _ (λ a b h. less_is a.0 b.0 h) _ (ascending-take (λ a b. nat_cmp a.0 b.0 ≡ Less) count _ (ascending-filter _ (λ e. nat_lt after e.0) (entries s.volumes) (volumes_up s db p))))

  places_shown : (after last : ℕ) (places : List Row) → IsShownOf places_query (db 3) (number_value after ∷ number_value last ∷ []) places → places ≡ map place_row (map (λ e. e.0) (filter (stays after last) (entries s.attachments)))
  unfolding stays
  places_shown after last places h =
      let es = entries s.attachments in
      let above = λ (x : Row). is_true (binary (Compare Gt Binary) (column x 0) (Int (pos after))) in
      let below = λ (x : Row). is_true (binary (Compare Le Binary) (column x 0) (Int (pos last))) in
      shown_by places_query (number_value after ∷ number_value last ∷ []) attachment_entry seen_attachment (λ x. (column x 0 ∷ column x 1 ∷ [], column x 0 ∷ column x 1 ∷ [])) (λ x. above x && below x) (λ r. refl)
      (λ r. rw (to_numeric (pos after), to_numeric (pos last)) (ap (λ b. above (seen_attachment r) && b) (and_true (below (seen_attachment r)))))
      (λ e. nat_lt after e.0.0 && nat_le e.0.0 last) (λ e. ap₂ (λ a b. a && b) (is_above after e.0.0) (up_to e.0.0 last)) es (db 3) places p.attachments
      (ascending_weaker _ _ (λ a b h. ap₂ ordering_then (ints_cmp a.0.0 b.0.0) (ap (λ o. ordering_then o Equal) (value_cmp-Text a.0.1 b.0.1) ∙ then_nothing (text_cmp a.0.1 b.0.1)) ∙ h) _
      (ascending-filter _ _ es (places_up s db p))) h
      ∙ sym (map-map place_row (λ e. e.0) (filter (λ e. nat_lt after e.0.0 && nat_le e.0.0 last) es))

  places_rise : (after last : ℕ) → IsRisen (map (λ e. e.0) (filter (stays after last) (entries s.attachments)))
  places_rise after last = ascending-map (λ a b. a.0 ≤ b.0) (λ e. e.0) _ (ascending_weaker _ _ (λ a b h. less_or_same a.0 b.0 h) _ (ascending-filter _ (stays after last) (entries s.attachments) (places_up s db p)))

  -- the entry read for each volume of a page
  nodes_each : (after last : ℕ) (es : List (ℕ × Volume)) → AllByRecursion IsStored es → AllByRecursion (λ e. nat_lt after e.0 ≡ true) es → AllByRecursion (λ n. n ≤ last) (map (λ e. e.0) es)
      → AllByRecursion (λ e. nodes_at (map (λ e. e.0) (filter (stays after last) (entries s.attachments))) e.0 ≡ published s e.1.number) es
  nodes_each after last [] stored above below = tt
  nodes_each after last (e ∷ es) stored above below =
      let first = above.0 in (
        nodes_here after last e.0 (grind (arith, nat_tests, first)) below.0 (entries s.attachments) p.storable.attachments ∙ ap (published s) (sym stored.0.number),
        nodes_each after last es stored.1 above.1 below.1,
      )

  texts_of : (stays : AttachmentKey × Attachment → Bool) (es : List (AttachmentKey × Attachment)) → AllByRecursion IsPlaced es → AreTexts (map (λ e. e.0) (filter stays es))
  texts_of stays [] all = tt
  texts_of stays (e ∷ es) all = elim (stays e) as (λ b. AreTexts (map (λ e. e.0) (cond b (e ∷ filter stays es) (filter stays es)))) [ true ↦ (all.0.text, texts_of stays es all.1) | false ↦ texts_of stays es all.1 ]

  numbers_stored : (es : List (ℕ × Volume)) → AllByRecursion IsStored es → AllByRecursion (λ e. e.0 ≡ e.1.number) es
  numbers_stored [] all = tt
  numbers_stored (e ∷ es) all = (sym all.0.number, numbers_stored es all.1)

  -- The rows of a page are its volumes' rows, and the places after them are its nodes'; reading gives all
  -- of them back.
  pub record IsShownAs (after count : ℕ) (volumes places : List Row) : Type 0 where
    pub stored : List (ℕ × Volume)
    pub are_stored : AllByRecursion IsStored stored
    pub volumes_are : volumes ≡ map volume_entry stored
    pub page_is : map (λ e. e.1) stored ≡ page s after count
    pub rising : AreRising (map (λ v. v.number) (map (λ e. e.1) stored))
    pub placed : List AttachmentKey
    pub risen : IsRisen placed
    pub places_are : places ≡ map place_row placed
    pub texts : AreTexts placed
    pub nodes_are : map (nodes_at placed) (map (λ v. v.number) (map (λ e. e.1) stored)) ≡ published_of_page s after count

  pub page_with_nodes_rows : (after count : ℕ) (volumes places : List Row) → IsBeginningOf page_query (db 1) (number_value after ∷ number_value count ∷ []) count volumes
      → IsShownOf places_query (db 3) (number_value after ∷ number_value (last_number after volumes) ∷ []) places → IsShownAs after count volumes places
  unfolding behind
  page_with_nodes_rows after count volumes places h k =
      let all = filter (λ (e : ℕ × Volume). nat_lt after e.0) (entries s.volumes) in
      let es = take count all in
      let last = last_number after volumes in
      let are = page_shown s db p after count volumes h in
      let rising = numbers_rise after count in
      let ps = map (λ (e : AttachmentKey × Attachment). e.0) (filter (stays after last) (entries s.attachments)) in
      let stored = all-take IsStored count all (all-filter IsStored (λ e. nat_lt after e.0) (entries s.volumes) p.storable.volumes) in
      let below = subst (λ (rows : List Row). AllByRecursion (λ n. n ≤ last_number after rows) (numbers_of es)) (sym are) (up_to_last after es rising) in
      let each = nodes_each after last es stored (all-take _ count all (passed (λ e. nat_lt after e.0) (entries s.volumes))) below in
      let numbers : numbers_of es ≡ map (λ v. v.number) (map (λ (e : ℕ × Volume). e.1) es) = map_on (λ e. e.0) (λ e. e.1.number) es (numbers_stored es stored) ∙ sym (map-map (λ v. v.number) (λ (e : ℕ × Volume). e.1) es) in
      record {
        stored = es;
        are_stored = stored;
        volumes_are = are;
        page_is = sym (take-map (λ e. e.1) count all);
        rising = subst AreRising numbers rising;
        placed = ps;
        risen = places_rise after last;
        places_are = places_shown after last places k;
        texts = texts_of (stays after last) (entries s.attachments) p.storable.attachments;
        nodes_are =
            ap (map (nodes_at ps)) (sym numbers) ∙ map-map (nodes_at ps) (λ e. e.0) es ∙ map_on (λ e. nodes_at ps e.0) (λ e. published s e.1.number) es each ∙ sym (map-map (λ v. published s v.number) (λ e. e.1) es)
            ∙ ap (map (λ v. published s v.number)) (sym (take-map (λ e. e.1) count all));
      }
