-- Places in rising order, number by number.
use Rattle.std.proofs.Common.{◌≡◌, ◌∙◌, refl, sym, ap, ap₂, subst, arith, ℕ, zero, suc, ◌+◌, ◌<◌, ◌≤◌, ◌==◌, nat_lt, List, [], ◌∷◌, ◌++◌, map, filter, take, drop, length, get_or, Bool, true, false, cond, add-one}
use Rattle.std.specs.List.{AllByRecursion}
use Rattle.std.proofs.lemmas.Bool.Decides.{nat_tests}
use Rattle.std.proofs.lemmas.List.{map-append}
use Rattle.std.proofs.lemmas.List.Elements.{filter-append}
use Rattle.sqlite.specs.Order.{Row, column}
use Rattle.sqlite.specs.declared.types.Value.TheVariants.{Text as Words}
use Rattle.sqlite_trees.proofs.ListLemmas.{all-append}
use Rattle.csi_keeper.specs.State.{AttachmentKey}
use Rattle.csi_keeper.specs.Texts.{Text}
use Rattle.csi_sql.specs.Rows.{number_value}
use Rattle.csi_tables.specs.Places.{place_row, nodes_at, IsRisen, AreRising}

-- ---- lists

pub take_one : {E : Type 0} (es : List E) (i : ℕ) (d : E) → i < length es → take (i + 1) es ≡ take i es ++ get_or es i d ∷ []
take_one [] i d low = absurd (omega (arith, low))
take_one (e ∷ es) zero d low = refl
take_one (e ∷ es) (suc i) d low = rw add-one (ap (λ xs. e ∷ xs) (rw add-one at (take_one es i d (omega (arith, low)))))

pub take_whole : {E : Type 0} (es : List E) → take (length es) es ≡ es
take_whole [] = refl
take_whole (e ∷ es) = ap (λ xs. e ∷ xs) (take_whole es)

pub drop_whole : {E : Type 0} (es : List E) → drop (length es) es ≡ []
drop_whole [] = refl
drop_whole (e ∷ es) = drop_whole es

pub drop_row : {E : Type 0} (entry : E → Row) (i : ℕ) (es : List E) → drop i (map entry es) ≡ map entry (drop i es)
drop_row entry zero es = refl
drop_row entry (suc i) [] = refl
drop_row entry (suc i) (e ∷ es) = drop_row entry i es

row_at : (ps : List AttachmentKey) (i : ℕ) (d : Row) (p : AttachmentKey) → i < length ps → get_or (map place_row ps) i d ≡ place_row (get_or ps i p)
row_at [] i d p low = absurd (omega (arith, low))
row_at (q ∷ ps) zero d p low = refl
row_at (q ∷ ps) (suc i) d p low = row_at ps i d p (omega (arith, low))

-- ---- one number

pub numbers_differ : (m n : ℕ) → (m ≡ n → ⊥) → (m == n) ≡ false
numbers_differ m n far = go (m == n) refl
  where
    go : (b : Bool) → (m == n) ≡ b → b ≡ false
    go true e = absurd (far (grind (arith, nat_tests, e)))
    go false e = refl

pub as_many : (rows : List Row) (ps : List AttachmentKey) → rows ≡ map place_row ps → length rows ≡ length ps
as_many rows ps are = ap length are ∙ go ps
  where
    go : (ps : List AttachmentKey) → length (map place_row ps) ≡ length ps
    go [] = refl
    go (p ∷ ps) = let more = go ps in omega (arith, more)

-- the place at an index, by the cells of its row
module _ (rows : List Row) (ps : List AttachmentKey) (i : ℕ) (d : Row) (low : i < length rows) (are : rows ≡ map place_row ps) where
  small : i < length ps
  small = let n = as_many rows ps are in omega (arith, low, n)

  pub place_at : AttachmentKey
  place_at = get_or ps i (0, [])

  pub place_is : get_or rows i d ≡ place_row place_at
  unfolding place_at
  place_is = ap (λ rs. get_or rs i d) are ∙ row_at ps i d (0, []) small

  pub one_more_place : take (i + 1) ps ≡ take i ps ++ place_at ∷ []
  unfolding place_at
  one_more_place = take_one ps i (0, []) small

  -- the values that are read from the cells of the place's row
  module _ (is : d ≡ get_or rows i d) where
    pub number_at : (n : ℕ) → column d 0 ≡ number_value n → place_at.0 ≡ n
    number_at n read = let e : number_value place_at.0 ≡ number_value n = sym (ap (λ (r : Row). column r 0) (is ∙ place_is)) ∙ read in cc

    pub text_at : (t : Text) → column d 1 ≡ Words t → place_at.1 ≡ t
    text_at t read = let e : Words place_at.1 ≡ Words t = sym (ap (λ (r : Row). column r 1) (is ∙ place_is)) ∙ read in cc

pub nodes_append : (n : ℕ) (ps qs : List AttachmentKey) → nodes_at (ps ++ qs) n ≡ nodes_at ps n ++ nodes_at qs n
nodes_append n ps qs = ap (map (λ p. p.1)) (filter-append (λ p. p.0 == n) ps qs) ∙ map-append (λ p. p.1) (filter (λ p. p.0 == n) ps) (filter (λ p. p.0 == n) qs)

one_here : (n : ℕ) (p : AttachmentKey) → p.0 ≡ n → nodes_at (p ∷ []) n ≡ p.1 ∷ []
one_here n p is = let same : (p.0 == n) ≡ true = grind (arith, nat_tests, is) in ap (λ b. map (λ (p : AttachmentKey). p.1) (cond b (p ∷ []) [])) same

none_here : (n : ℕ) (p : AttachmentKey) (ps : List AttachmentKey) → (p.0 ≡ n → ⊥) → nodes_at (p ∷ ps) n ≡ nodes_at ps n
none_here n p ps far = ap (λ b. map (λ (p : AttachmentKey). p.1) (cond b (p ∷ filter (λ p. p.0 == n) ps) (filter (λ p. p.0 == n) ps))) (numbers_differ p.0 n far)

-- one more place, with this number or with another
pub nodes_more : (n : ℕ) (ps : List AttachmentKey) (p : AttachmentKey) (nodes : List Text) → p.0 ≡ n → nodes ≡ nodes_at ps n → nodes ++ p.1 ∷ [] ≡ nodes_at (ps ++ p ∷ []) n
nodes_more n ps p nodes is read = ap₂ (λ xs ys. xs ++ ys) read (sym (one_here n p is)) ∙ sym (nodes_append n ps (p ∷ []))

pub nodes_same : (n : ℕ) (ps : List AttachmentKey) (p : AttachmentKey) (nodes : List Text) → (p.0 ≡ n → ⊥) → nodes ≡ nodes_at ps n → nodes ≡ nodes_at (ps ++ p ∷ []) n
nodes_same n ps p nodes far read = read ∙ sym (nodes_append n ps (p ∷ []) ∙ ap (λ xs. nodes_at ps n ++ xs) (none_here n p [] far) ∙ append_nil (nodes_at ps n))
  where
    append_nil : (xs : List Text) → xs ++ [] ≡ xs
    append_nil [] = refl
    append_nil (x ∷ xs) = ap (λ ys. x ∷ ys) (append_nil xs)

all_beyond : (n : ℕ) (p : AttachmentKey) (ps : List AttachmentKey) → n < p.0 → AllByRecursion (λ q. p.0 ≤ q.0) ps → AllByRecursion (λ q. n < q.0) ps
all_beyond n p [] low all = tt
all_beyond n p (q ∷ ps) low all = (let h = all.0 in omega (arith, low, h), all_beyond n p ps low all.1)

-- after a place with a greater number all places have a greater number
pub rest_beyond : (n : ℕ) (ps : List AttachmentKey) (i : ℕ) (d : AttachmentKey) → IsRisen ps → i < length ps → n < (get_or ps i d).0 → AllByRecursion (λ p. n < p.0) (drop i ps)
rest_beyond n [] i d up low more = absurd (omega (arith, low))
rest_beyond n (p ∷ ps) zero d up low more = (more, all_beyond n p ps more up.0)
rest_beyond n (p ∷ ps) (suc i) d up low more = rest_beyond n ps i d up.1 (omega (arith, low)) more

-- a row with a greater number ends the rows of the number
pub stopped : (rows : List Row) (ps : List AttachmentKey) (i : ℕ) (d : Row) (low : i < length rows) (are : rows ≡ map place_row ps) → d ≡ get_or rows i d → (at : ℕ) → column d 0 ≡ number_value at
    → (n : ℕ) → n < at → IsRisen ps → AllByRecursion (λ p. n < p.0) (drop i ps)
unfolding place_at
stopped rows ps i d low are is at read n more up =
    let same = number_at rows ps i d low are is at read in
    let size = as_many rows ps are in
    let far : n < (get_or ps i (0, [])).0 = omega (arith, more, same) in
    rest_beyond n ps i (0, []) up (omega (arith, low, size)) far

beyond_none : (n : ℕ) (ps : List AttachmentKey) → AllByRecursion (λ p. n < p.0) ps → nodes_at ps n ≡ []
beyond_none n [] all = refl
beyond_none n (p ∷ ps) all = none_here n p ps (λ e. let h = all.0 in absurd (omega (arith, h, e))) ∙ beyond_none n ps all.1

beyond_all : (n : ℕ) (ps : List AttachmentKey) → AllByRecursion (λ p. n < p.0) ps → ps ≡ filter (λ p. nat_lt n p.0) ps
beyond_all n [] all = refl
beyond_all n (p ∷ ps) all =
    let h = all.0 in
    let passes : nat_lt n p.0 ≡ true = grind (arith, nat_tests, h) in
    ap (λ xs. p ∷ xs) (beyond_all n ps all.1) ∙ sym (ap (λ b. cond b (p ∷ filter (λ p. nat_lt n p.0) ps) (filter (λ p. nat_lt n p.0) ps)) passes)

-- the nodes of a number, if the places from an index on have greater numbers
pub split_nodes : (n : ℕ) (ps : List AttachmentKey) (i : ℕ) → AllByRecursion (λ p. n < p.0) (drop i ps) → nodes_at (take i ps) n ≡ nodes_at ps n
split_nodes n ps zero beyond = sym (beyond_none n ps beyond)
split_nodes n [] (suc i) beyond = refl
split_nodes n (p ∷ ps) (suc i) beyond = elim (p.0 == n) as (λ b. map (λ (p : AttachmentKey). p.1) (cond b (p ∷ filter (λ p. p.0 == n) (take i ps)) (filter (λ p. p.0 == n) (take i ps))) ≡ map (λ (p : AttachmentKey). p.1) (cond b (p ∷ filter (λ p. p.0 == n) ps) (filter (λ p. p.0 == n) ps))) [
  | true ↦ ap (λ xs. p.1 ∷ xs) (split_nodes n ps i beyond)
  | false ↦ split_nodes n ps i beyond
]

pub split_rest : (n : ℕ) (ps : List AttachmentKey) (i : ℕ) → AllByRecursion (λ p. p.0 ≤ n) (take i ps) → AllByRecursion (λ p. n < p.0) (drop i ps) → drop i ps ≡ filter (λ p. nat_lt n p.0) ps
split_rest n ps zero below beyond = beyond_all n ps beyond
split_rest n [] (suc i) below beyond = refl
split_rest n (p ∷ ps) (suc i) below beyond =
    let h = below.0 in
    let fails : nat_lt n p.0 ≡ false = grind (arith, nat_tests, h) in
    split_rest n ps i below.1 beyond ∙ sym (ap (λ b. cond b (p ∷ filter (λ p. nat_lt n p.0) ps) (filter (λ p. nat_lt n p.0) ps)) fails)

pub none_left : (n : ℕ) (ps : List AttachmentKey) (i : ℕ) → i ≡ length ps → AllByRecursion (λ p. n < p.0) (drop i ps)
none_left n ps i last = subst (λ (xs : List AttachmentKey). AllByRecursion (λ p. n < p.0) xs) (sym (ap (λ k. drop k ps) last ∙ drop_whole ps)) tt

pub below_whole : (n : ℕ) (ps : List AttachmentKey) (i k : ℕ) → i ≡ k → k ≡ length ps → AllByRecursion (λ p. p.0 ≤ n) (take i ps) → AllByRecursion (λ p. p.0 ≤ n) (take k ps)
below_whole n ps i k same last all = subst (λ (j : ℕ). AllByRecursion (λ p. p.0 ≤ n) (take j ps)) same all

pub all_more : (n : ℕ) (ps : List AttachmentKey) (p : AttachmentKey) → p.0 ≤ n → AllByRecursion (λ p. p.0 ≤ n) ps → AllByRecursion (λ p. p.0 ≤ n) (ps ++ p ∷ [])
all_more n ps p low all = all-append (λ (p : AttachmentKey). p.0 ≤ n) ps (p ∷ []) all (low, tt)

-- ---- each number

-- the places after a number have the nodes of each greater number
later_nodes : (n m : ℕ) (qs : List AttachmentKey) → n < m → nodes_at (filter (λ p. nat_lt n p.0) qs) m ≡ nodes_at qs m
later_nodes n m [] low = refl
later_nodes n m (q ∷ qs) low = go (nat_lt n q.0) refl (q.0 == m) refl (later_nodes n m qs low)
  where
    go : (b : Bool) → nat_lt n q.0 ≡ b → (d : Bool) → (q.0 == m) ≡ d → nodes_at (filter (λ p. nat_lt n p.0) qs) m ≡ nodes_at qs m
        → nodes_at (cond b (q ∷ filter (λ p. nat_lt n p.0) qs) (filter (λ p. nat_lt n p.0) qs)) m ≡ map (λ p. p.1) (cond d (q ∷ filter (λ p. p.0 == m) qs) (filter (λ p. p.0 == m) qs))
    go true t true u more = ap (λ b. map (λ (p : AttachmentKey). p.1) (cond b (q ∷ filter (λ p. p.0 == m) (filter (λ p. nat_lt n p.0) qs)) (filter (λ p. p.0 == m) (filter (λ p. nat_lt n p.0) qs)))) u ∙ ap (λ xs. q.1 ∷ xs) more
    go true t false u more = ap (λ b. map (λ (p : AttachmentKey). p.1) (cond b (q ∷ filter (λ p. p.0 == m) (filter (λ p. nat_lt n p.0) qs)) (filter (λ p. p.0 == m) (filter (λ p. nat_lt n p.0) qs)))) u ∙ more
    go false t true u more = absurd (let e : false ≡ true = grind (arith, nat_tests, t, u, low) in cc)
    go false t false u more = more

rising_beyond : (ns : List ℕ) (i : ℕ) → AreRising ns → i < length ns → AllByRecursion (λ m. get_or ns i 0 < m) (drop (i + 1) ns)
rising_beyond [] i up low = absurd (omega (arith, low))
rising_beyond (n ∷ ns) zero up low = up.0
rising_beyond (n ∷ ns) (suc i) up low = rw add-one (rw add-one at (rising_beyond ns i up.1 (omega (arith, low))))

dropped : (ns : List ℕ) (i : ℕ) → i < length ns → drop i ns ≡ get_or ns i 0 ∷ drop (i + 1) ns
dropped [] i low = absurd (omega (arith, low))
dropped (n ∷ ns) zero low = refl
dropped (n ∷ ns) (suc i) low = rw add-one (rw add-one at (dropped ns i (omega (arith, low))))

pub later_same : (ps qs : List AttachmentKey) (ns : List ℕ) (i : ℕ) → AreRising ns → i < length ns → AllByRecursion (λ n. nodes_at qs n ≡ nodes_at ps n) (drop i ns)
    → (nodes_at qs (get_or ns i 0) ≡ nodes_at ps (get_or ns i 0)) × AllByRecursion (λ n. nodes_at (filter (λ p. nat_lt (get_or ns i 0) p.0) qs) n ≡ nodes_at ps n) (drop (i + 1) ns)
later_same ps qs ns i up low all =
    let both = subst (λ (ms : List ℕ). AllByRecursion (λ n. nodes_at qs n ≡ nodes_at ps n) ms) (dropped ns i low) all in
    (both.0, go (drop (i + 1) ns) (rising_beyond ns i up low) both.1)
  where
    go : (ms : List ℕ) → AllByRecursion (λ m. get_or ns i 0 < m) ms → AllByRecursion (λ n. nodes_at qs n ≡ nodes_at ps n) ms → AllByRecursion (λ n. nodes_at (filter (λ p. nat_lt (get_or ns i 0) p.0) qs) n ≡ nodes_at ps n) ms
    go [] far same = tt
    go (m ∷ ms) far same = (later_nodes (get_or ns i 0) m qs far.0 ∙ same.0, go ms far.1 same.1)

pub each_more : (ps : List AttachmentKey) (ns : List ℕ) (i : ℕ) (all : List (List Text)) (nodes : List Text) → i < length ns → all ≡ map (nodes_at ps) (take i ns) → nodes ≡ nodes_at ps (get_or ns i 0)
    → all ++ nodes ∷ [] ≡ map (nodes_at ps) (take (i + 1) ns)
each_more ps ns i all nodes low read is =
    ap₂ (λ xs x. xs ++ x ∷ []) read is ∙ sym (ap (map (nodes_at ps)) (take_one ns i 0 low) ∙ map-append (nodes_at ps) (take i ns) (get_or ns i 0 ∷ []))

pub all_same : (ps : List AttachmentKey) (ns : List ℕ) → AllByRecursion (λ n. nodes_at ps n ≡ nodes_at ps n) ns
all_same ps [] = tt
all_same ps (n ∷ ns) = (refl, all_same ps ns)
