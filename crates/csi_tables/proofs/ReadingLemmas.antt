-- The values that are read from cells and from rows, in order.
use Rattle.std.proofs.Common.{◌≡◌, ◌∙◌, inl, inr, sym, ap, ap₂, subst, arith, ℕ, zero, suc, add-one, ◌+◌, ◌<◌, ◌≤◌, ◌==◌, true, refl, List, [], ◌∷◌, ◌++◌, append-nil, append_assoc, drop, drop_of_length-le, cond, filter, map, take, length, get_or, Option, Some, option_to_list}
use Rattle.std.specs.Bool.{⊤}
use Rattle.std.specs.List.{AllByRecursion}
use Rattle.std.proofs.lemmas.Bool.Decides.{nat_tests}
use Rattle.std.proofs.lemmas.List.{map-append}
use Rattle.std.proofs.lemmas.List.Elements.{filter-append}
use Rattle.sqlite.specs.Order.{Row, column}
use Rattle.sqlite.specs.declared.types.Value.{Value}
use Rattle.sqlite.specs.declared.types.Value.TheVariants as value
use Rattle.sqlite_rules.proofs.ProbeLemmas.{mapped_has}
use Rattle.sqlite_rules.specs.Lists.{Has}
use Rattle.csi_keeper.specs.Texts.{Text}
use Rattle.csi_keeper.specs.declared.capability.CapKey.{CapKey}
use Rattle.csi_sql.specs.Cells.{as_blob, as_number}
use Rattle.csi_sql.specs.Rows.{meta_row, number_value, seen_meta}
use Rattle.csi_tables.specs.Reading.{AreNodesOf, AreReadOf, ShowNodes, ShowsNumber, is_number}
use Rattle.csi_tables.proofs.CellLemmas.{read_more}
use Rattle.csi_tables.proofs.PlaceLemmas.{numbers_differ, take_one, take_whole}

-- the bytes that a cell has
pub one_blob : (cell : Value) (bytes other : List ℕ) → Some bytes ≡ as_blob cell → cell ≡ value.Blob other → other ≡ bytes
one_blob cell bytes other found is = let same : Some bytes ≡ Some other = found ∙ ap as_blob is in cc

-- a key that leaves none after it is the one key
pub alone : (keys rest : List CapKey) (last : Option CapKey) (key : CapKey) → keys ≡ rest ++ option_to_list last → last ≡ Some key → rest ≡ [] → keys ≡ key ∷ []
alone keys rest last key are is none = are ∙ ap₂ (λ xs o. xs ++ option_to_list o) none is

pub empty_items : {X : Type 0} (xs : List X) → (length xs == 0) ≡ true → xs ≡ []
empty_items [] h = refl
empty_items (x ∷ xs) h = absurd (let none : length (x ∷ xs) ≡ 0 = grind (arith, nat_tests, h) in omega (arith, none))

-- the existing row of meta has the next number
pub stated : (rows : List Row) (format next : ℕ) (kept : Row) → map seen_meta rows ≡ meta_row format next ∷ [] → Has rows kept → column kept 3 ≡ number_value next
stated rows format next kept are has = go (subst (λ (xs : List Row). Has xs (seen_meta kept)) are (mapped_has seen_meta rows kept has))
  where
    go : Has (meta_row format next ∷ []) (seen_meta kept) → column kept 3 ≡ number_value next
    go (inl same) = ap (λ r. column r 2) same
    go (inr none) = absurd none

pub one_number : (m n : ℕ) → number_value m ≡ number_value n → m ≡ n
one_number m n same = cc

-- one more number
pub number_next : (rows : List Row) (i : ℕ) (d : Row) (xs : List ℕ) (x : ℕ) → i < length rows → column (get_or rows i d) 0 ≡ number_value x
    → (ns : List ℕ) → rows ≡ map (λ n. number_value n ∷ []) ns → xs ≡ take i ns → xs ++ x ∷ [] ≡ take (i + 1) ns
number_next rows i d xs x low is ns are read =
    read_more (λ (n : ℕ). number_value n ∷ []) (λ (n : ℕ). n) (λ (n : ℕ). ⊤) rows ns i d xs x low (λ n _ row. one_number x n (sym is ∙ ap (λ (r : Row). column r 0) row)) (each ns) are (read ∙ sym (same (take i ns)))
    ∙ same (take (i + 1) ns)
  where
    each : (ns : List ℕ) → AllByRecursion (λ (n : ℕ). ⊤) ns
    each [] = tt
    each (n ∷ ns) = (tt, each ns)

    same : (ns : List ℕ) → map (λ (n : ℕ). n) ns ≡ ns
    same [] = refl
    same (n ∷ ns) = ap (λ ms. n ∷ ms) (same ns)

-- ---- a value of each row

module _ {X : Type 0} (Of : Row → X → Type 0) where
  one_more : (rows : List Row) (xs : List X) (row : Row) (x : X) → AreReadOf Of rows xs → Of row x → AreReadOf Of (rows ++ row ∷ []) (xs ++ x ∷ [])
  one_more [] [] row x all of = (of, tt)
  one_more [] (y ∷ xs) row x all of = absurd all
  one_more (r ∷ rows) [] row x all of = absurd all
  one_more (r ∷ rows) (y ∷ xs) row x all of = (all.0, one_more rows xs row x all.1 of)

  pub read_next : (rows : List Row) (i : ℕ) (d : Row) (xs : List X) (x : X) → i < length rows → AreReadOf Of (take i rows) xs → Of (get_or rows i d) x → AreReadOf Of (take (i + 1) rows) (xs ++ x ∷ [])
  read_next rows i d xs x low all of = subst (λ (some : List Row). AreReadOf Of some (xs ++ x ∷ [])) (sym (take_one rows i d low)) (one_more (take i rows) xs (get_or rows i d) x all of)

  pub read_whole : (rows : List Row) (i : ℕ) (xs : List X) → i ≡ length rows → AreReadOf Of (take i rows) xs → AreReadOf Of rows xs
  read_whole rows i xs last all = subst (λ (some : List Row). AreReadOf Of some xs) (ap (λ n. take n rows) last ∙ take_whole rows) all

-- ---- the nodes of a number, with one more row

module _ (n : ℕ) (rows : List Row) (i : ℕ) (d : Row) (nodes : List Text) (at : ℕ) (low : i < length rows) (is : column (get_or rows i d) 0 ≡ number_value at) (old : ShowNodes n (take i rows) nodes) where
  test : is_number n (as_number (column (get_or rows i d) 0)) ≡ (at == n)
  test = ap (λ v. is_number n (as_number v)) is

  abbrev cells : List Row → List Value
  cells rs = map (λ row. column row 1) (filter (λ row. is_number n (as_number (column row 0))) rs)

  next_cells : cells (take (i + 1) rows) ≡ cells (take i rows) ++ cells (get_or rows i d ∷ [])
  next_cells =
      ap cells (take_one rows i d low)
      ∙ ap (map (λ (row : Row). column row 1)) (filter-append (λ row. is_number n (as_number (column row 0))) (take i rows) (get_or rows i d ∷ []))
      ∙ map-append (λ (row : Row). column row 1) (filter (λ row. is_number n (as_number (column row 0))) (take i rows)) (filter (λ row. is_number n (as_number (column row 0))) (get_or rows i d ∷ []))

  numbered_next : AreReadOf ShowsNumber (take (i + 1) rows) (old.numbers ++ at ∷ [])
  numbered_next = read_next ShowsNumber rows i d old.numbers at low old.numbered is

  pub nodes_next : (t : Text) → at ≡ n → column (get_or rows i d) 1 ≡ value.Text t → ShowNodes n (take (i + 1) rows) (nodes ++ t ∷ [])
  nodes_next t same text =
      let passes : (at == n) ≡ true = grind (arith, nat_tests, same) in
      let here : cells (get_or rows i d ∷ []) ≡ value.Text t ∷ [] = ap (λ b. map (λ (row : Row). column row 1) (cond b (get_or rows i d ∷ []) [])) (test ∙ passes) ∙ ap (λ v. v ∷ []) text in
      record { numbers = old.numbers ++ at ∷ []; numbered = numbered_next; nodes_are = map-append value.Text nodes (t ∷ []) ∙ ap₂ (λ xs ys. xs ++ ys) old.nodes_are (sym here) ∙ sym next_cells }

  pub nodes_kept : (at ≡ n → ⊥) → ShowNodes n (take (i + 1) rows) nodes
  nodes_kept far =
      let none : cells (get_or rows i d ∷ []) ≡ [] = ap (λ b. map (λ (row : Row). column row 1) (cond b (get_or rows i d ∷ []) [])) (test ∙ numbers_differ at n far) in
      record { numbers = old.numbers ++ at ∷ []; numbered = numbered_next; nodes_are = old.nodes_are ∙ sym (next_cells ∙ ap (λ xs. cells (take i rows) ++ xs) none ∙ append-nil (cells (take i rows))) }

-- ---- the nodes of each number

-- the numbers from an index on are the number at the index and the numbers after it
numbers_from : (ns : List ℕ) (i : ℕ) → i < length ns → drop i ns ≡ get_or ns i 0 ∷ drop (i + 1) ns
numbers_from [] i low = absurd (omega (arith, low))
numbers_from (n ∷ ns) zero low = refl
numbers_from (n ∷ ns) (suc i) low = rw add-one (rw add-one at (numbers_from ns i (omega (arith, low))))

-- the nodes of each number so far, with the nodes of one more number
pub nodes_then : (ns : List ℕ) (i : ℕ) (places rest behind : List Row) (found : List (List Text)) (nodes : List Text) (now : List (List Text)) (passed : ℕ) → i < length ns
    → ShowNodes (get_or ns i 0) (take passed rest) nodes → behind ≡ drop passed rest → now ≡ found ++ nodes ∷ []
    → ((more : List (List Text)) → AreNodesOf (drop i ns) rest more → AreNodesOf ns places (found ++ more))
    → (more : List (List Text)) → AreNodesOf (drop (i + 1) ns) behind more → AreNodesOf ns places (now ++ more)
nodes_then ns i places rest behind found nodes now passed low shows cut is so more after =
    let all : AreNodesOf (drop i ns) rest (nodes ∷ more) =
    subst (λ (xs : List ℕ). AreNodesOf xs rest (nodes ∷ more)) (sym (numbers_from ns i low))
    (passed, shows, subst (λ (rows : List Row). AreNodesOf (drop (i + 1) ns) rows more) cut after) in
    subst (λ (xs : List (List Text)). AreNodesOf ns places xs) (sym (ap (λ (xs : List (List Text)). xs ++ more) is ∙ append_assoc found (nodes ∷ []) more)) (so (nodes ∷ more) all)

-- the nodes of all numbers
pub nodes_whole : (ns : List ℕ) (i : ℕ) (places rest : List Row) (found : List (List Text)) → length ns ≤ i
    → ((more : List (List Text)) → AreNodesOf (drop i ns) rest more → AreNodesOf ns places (found ++ more)) → AreNodesOf ns places found
nodes_whole ns i places rest found ends so =
    subst (λ (xs : List (List Text)). AreNodesOf ns places xs) (append-nil found) (so [] (subst (λ (xs : List ℕ). AreNodesOf xs rest []) (sym (drop_of_length-le ns ends)) tt))
