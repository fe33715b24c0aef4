-- A walk over the attachments in memory.
use Rattle.std.proofs.Common.{◌≡◌, ◌∙◌, inl, inr, ap, sym, subst, cond, if◌then◌else◌, append_assoc, append-nil, arith, refl, ℕ, ◌+◌, ◌<◌, ◌≤◌, ◌==◌, List, [], ◌∷◌, ◌++◌, map, filter, Bool, true, false, ◌&&◌, Option, Some, None, Ordering, Less, Equal, Greater}
use Rattle.std.specs.BTreeMap.Range.{entries_between, range_contains}
use Rattle.std.specs.Borrow.{Bor}
use Rattle.std.specs.Cmp.{nat_cmp_is}
use Rattle.std.specs.List.{AllByRecursion}
use Rattle.std.specs.List.Sorted.{IsStrictlySortedBy}
use Rattle.std.specs.Map.{keys_of}
use Rattle.std.specs.Map.Iter.{TakesFirst, deref_pair}
use Rattle.std.specs.Ordering.{nat_cmp, ordering_then, is_le}
use Rattle.std.specs.declared.ops.Bound.TheVariants.{Included, Unbounded}
use Rattle.std.proofs.Math.Nat.{eq-or-lt_of_le}
use Rattle.std.proofs.lemmas.Bool.{eqb-true, ne_eqb}
use Rattle.std.proofs.lemmas.List.Kept.{IsStrictlySortedBy-filter}
use Rattle.std.proofs.lemmas.Map.Keys.{sorted_head, sorted_tail}
use Rattle.csi_keeper.specs.declared.volume.Attachment.{Attachment}
use Rattle.csi_keeper.specs.State.{AttachmentKey, attachment_key_cmp}
use Rattle.csi_keeper.specs.Texts.{Text, text_cmp}
use Rattle.csi_maps.specs.Walking.{Row, rows_at, put_back, AreAhead, BeginsAbove}
use Rattle.csi_maps.specs.facts.Listing.{empty_first, filter_after, places_are}

-- the nodes of the entries of a number
abbrev pub nodes_at : ℕ → List Row → List Text
nodes_at n es = map (λ (a : Attachment). a.node) (map (λ (e : Row). e.1) (rows_at n es))

-- A number that no attachment has

far : (n : ℕ) (q p : AttachmentKey) → attachment_key_cmp q p ≡ Less → n < q.0 → (p.0 == n) ≡ false
far n q p less low = ne_eqb p.0 n (λ e.
    let up : nat_cmp q.0 p.0 ≡ Greater = sym (nat_cmp_is q.0 p.0 Greater (omega (arith, e, low))) in
    let is : attachment_key_cmp q p ≡ Greater = ap (λ r. ordering_then r (text_cmp q.1 p.1)) up in
    cc (less, is))

none_at : (n : ℕ) (q : AttachmentKey) (es : List Row) → n < q.0 → AllByRecursion (λ p. attachment_key_cmp q p ≡ Less) (keys_of es) → rows_at n es ≡ []
none_at n q [] low h = refl
none_at n q (e ∷ es) low h = ap (λ b. cond b (e ∷ rows_at n es) (rows_at n es)) (far n q e.0 h.0 low) ∙ none_at n q es low h.1

other : (n : ℕ) (e : Row) (es : List Row) → (e.0.0 ≡ n → ⊥) → rows_at n (e ∷ es) ≡ rows_at n es
other n e es far = ap (λ b. cond b (e ∷ rows_at n es) (rows_at n es)) (ne_eqb e.0.0 n far)

none_left : (n : ℕ) (es : List Row) → BeginsAbove n es → IsStrictlySortedBy attachment_key_cmp (keys_of es) → rows_at n es ≡ []
none_left n [] low h = refl
none_left n (e ∷ es) low h = other n e es (λ is. omega (arith, is, low)) ∙ none_at n e.0 es low (sorted_head attachment_key_cmp e.0 (keys_of es) h)

-- Where a walk begins

keys_kept : (p : AttachmentKey → Bool) (es : List Row) → keys_of (filter (λ e. p e.0) es) ≡ filter p (keys_of es)
keys_kept p [] = refl
keys_kept p (e ∷ es) = go (keys_kept p es) (p e.0)
  where
    go : keys_of (filter (λ e. p e.0) es) ≡ filter p (keys_of es) → (b : Bool) → keys_of (cond b (e ∷ filter (λ e. p e.0) es) (filter (λ e. p e.0) es)) ≡ cond b (e.0 ∷ filter p (keys_of es)) (filter p (keys_of es))
    go more true = ap (λ ks. e.0 ∷ ks) more
    go more false = more

first_le : (r t : Ordering) → is_le t ≡ true → is_le (ordering_then r t) ≡ is_le r
first_le Less t h = refl
first_le Equal t h = h
first_le Greater t h = refl

not_above : (a b : ℕ) → a ≤ b → is_le (nat_cmp a b) ≡ true
not_above a b h = elim (eq-or-lt_of_le h) as (λ _. is_le (nat_cmp a b) ≡ true) [
  | inl e ↦ ap is_le (sym (nat_cmp_is a b Equal e))
  | inr e ↦ ap is_le (sym (nat_cmp_is a b Less e))
]

from_start : (start n : ℕ) (q : AttachmentKey) → start ≤ n → (q.0 == n) ≡ true → range_contains attachment_key_cmp (Included (start, [])) Unbounded q ≡ true
from_start start n q low t =
    let is : q.0 ≡ n = eqb-true q.0 n t in
    let up : start ≤ q.0 = omega (arith, is, low) in
    ap (λ b. b && true) (first_le (nat_cmp start q.0) (text_cmp [] q.1) (empty_first q.1) ∙ not_above start q.0 up)

back : (es fs : List Row) (r : Option (Bor AttachmentKey × Bor Attachment)) → TakesFirst deref_pair es r fs → put_back r fs ≡ es
back es fs None h = sym h.0
back es fs (Some p) h = sym h

pub begun : (all es fs : List Row) (start passed : ℕ) (r : Option (Bor AttachmentKey × Bor Attachment)) → start ≤ passed + 1 → IsStrictlySortedBy attachment_key_cmp (keys_of all)
    → es ≡ entries_between attachment_key_cmp (Included (start, [])) Unbounded all → TakesFirst deref_pair es r fs → AreAhead all (put_back r fs) passed
begun all es fs start passed r low rise is took =
    let within = range_contains attachment_key_cmp (Included (start, [])) Unbounded in
    let left : put_back r fs ≡ entries_between attachment_key_cmp (Included (start, [])) Unbounded all = back es fs r took ∙ is in
    record {
      rise = subst (λ xs. IsStrictlySortedBy attachment_key_cmp (keys_of xs)) (sym left) (subst (IsStrictlySortedBy attachment_key_cmp) (sym (keys_kept within all)) (IsStrictlySortedBy-filter attachment_key_cmp within (keys_of all) rise));
      whole = λ n more. ap (rows_at n) (places_are all rise) ∙ sym (filter_after _ _ (λ e t. from_start start n e.0 (omega (arith, low, more)) t) all) ∙ ap (rows_at n) (sym left);
    }

-- A walk that goes on

pub gone_past : (all es fs : List Row) (n : ℕ) (e : Row) → es ≡ e ∷ fs → e.0.0 ≤ n → AreAhead all es n → AreAhead all fs n
gone_past all es fs n e is low o = record {
  rise = sorted_tail attachment_key_cmp e.0 (keys_of fs) (subst (λ xs. IsStrictlySortedBy attachment_key_cmp (keys_of xs)) is o.rise);
  whole = λ m more. o.whole m more ∙ ap (rows_at m) is ∙ other m e fs (λ same. omega (arith, same, low, more));
}

-- The nodes of a number

one_reported : (n : ℕ) (e : Row) (es : List Row) → (if e.0.0 == n then e.1.node ∷ [] else []) ++ nodes_at n es ≡ nodes_at n (e ∷ es)
one_reported n e es = elim (e.0.0 == n) as (λ b. (if b then e.1.node ∷ [] else []) ++ nodes_at n es ≡ map (λ (a : Attachment). a.node) (map (λ (e : Row). e.1) (cond b (e ∷ rows_at n es) (rows_at n es)))) [ true ↦ refl | false ↦ refl ]

pub reported_more : (n : ℕ) (e : Row) (es fs : List Row) (nodes pushed reported : List Text) → es ≡ e ∷ fs → pushed ≡ nodes ++ (if e.0.0 == n then e.1.node ∷ [] else []) → nodes ++ nodes_at n es ≡ reported → pushed ++ nodes_at n fs ≡ reported
reported_more n e es fs nodes pushed reported is push so_far =
    ap (λ xs. xs ++ nodes_at n fs) push ∙ append_assoc nodes (if e.0.0 == n then e.1.node ∷ [] else []) (nodes_at n fs)
    ∙ ap (λ xs. nodes ++ xs) (one_reported n e fs) ∙ ap (λ xs. nodes ++ nodes_at n xs) (sym is) ∙ so_far

pub reported_all : (all es : List Row) (n : ℕ) (nodes reported : List Text) → BeginsAbove n es → AreAhead all es n → nodes ++ nodes_at n es ≡ reported → nodes ≡ reported
reported_all all es n nodes reported above o so_far =
    sym (append-nil nodes) ∙ ap (λ xs. nodes ++ map (λ (a : Attachment). a.node) (map (λ (e : Row). e.1) xs)) (sym (none_left n es above o.rise)) ∙ so_far
