-- Pages that are asked for in order, at moments that have States of their own.
use Rattle.std.proofs.Common.{◌≡◌, ◌∙◌, sym, subst, arith, cond, ℕ, ◌<◌, ◌≤◌, nat_lt, List, [], ◌∷◌, ◌++◌, map, filter, take, suc, zero, inl, inr, ◌⊎◌, refl, Some, Bool, true, false, Ordering, Less, Equal, Greater, T}
use Rattle.std.specs.List.{AllByRecursion}
use Rattle.std.specs.Ordering.{nat_cmp, is_eq, eq_by_cmp}
use Rattle.std.proofs.lemmas.Bool.Decides.{leb_tells}
use Rattle.std.specs.FinMap as fin
use Rattle.std.specs.FinMap.Entries.{below_all}
use Rattle.csi_keeper.specs.declared.volume.Volume.{Volume}
use Rattle.csi_keeper.specs.State.{State, beyond}
use Rattle.csi_keeper.specs.facts.Finite.{both}
use Rattle.csi_keeper.specs.facts.Orders.{less_is}
use Rattle.csi_machine.specs.calls.Listing.{entries_for, listed, last_of}

-- the moment of a request for a page: the State, and the number of entries that it asks for
abbrev pub Moment : Type 0
Moment = State × ℕ

-- the volumes of the pages: the first page begins after a number, and each other page after the last
-- volume of the page before
abbrev pub walked : ℕ → List Moment → List (List Volume)
walked after [] = []
walked after (m ∷ ms) = listed m.0 after m.1 ∷ walked (last_of after (listed m.0 after m.1)) ms

-- numbers that rise from one on
abbrev pub Rises : ℕ → List Volume → Type 0
Rises n [] = Unit {0}
Rises n (v ∷ vs) = (n < v.number) × Rises v.number vs

-- each volume of the moments exists under its number
abbrev pub AreNumbered : List Moment → Type 0
AreNumbered ms = AllByRecursion (λ m. AllByRecursion (λ e. e.1.number ≡ e.0) (fin.entries m.0.volumes)) ms

abbrev pub joined : List (List Volume) → List Volume
joined [] = []
joined (vs ∷ pages) = vs ++ joined pages

-- a volume with the number is among the volumes
abbrev pub Lists : ℕ → List Volume → Type 0
Lists n [] = ⊥
Lists n (v ∷ vs) = (v.number ≡ n) ⊎ Lists n vs

-- a volume with the number exists at each moment
abbrev pub Stands : ℕ → List Moment → Type 0
Stands n ms = AllByRecursion (λ m. (v : Volume) × (fin.get m.0.volumes n ≡ Some v)) ms

-- no volume comes after the last page
abbrev pub Ends : ℕ → List Moment → Type 0
Ends after [] = ⊥
Ends after (m ∷ []) = beyond m.0 (last_of after (listed m.0 after m.1)) ≡ []
Ends after (m ∷ k ∷ ms) = Ends (last_of after (listed m.0 after m.1)) (k ∷ ms)

rises_take : (k n : ℕ) (vs : List Volume) → Rises n vs → Rises n (take k vs)
rises_take zero n vs h = tt
rises_take (suc k) n [] h = tt
rises_take (suc k) n (v ∷ vs) h = (h.0, rises_take k v.number vs h.1)

rises_append : (n : ℕ) (vs ws : List Volume) → Rises n vs → Rises (last_of n vs) ws → Rises n (vs ++ ws)
rises_append n [] ws h k = k
rises_append n (v ∷ vs) ws h k = (h.0, rises_append v.number vs ws h.1 k)

abbrev IsNumbered : List (ℕ × Volume) → Type 0
IsNumbered es = AllByRecursion (λ e. e.1.number ≡ e.0) es

abbrev AreAbove : ℕ → List (ℕ × Volume) → Type 0
AreAbove n es = AllByRecursion (λ e. n < e.0) es

above_all : (x : ℕ) (es : List (ℕ × Volume)) → T (below_all nat_cmp x es) → AreAbove x es
above_all x [] h = tt
above_all x (e ∷ es) h = let two = both _ _ h in (less_is x e.0 two.0, above_all x es two.1)

rises_from : (p : ℕ × Volume → Bool) (n : ℕ) (es : List (ℕ × Volume)) → AreAbove n es → T (fin.is_sorted nat_cmp es) → IsNumbered es → Rises n (map (λ e. e.1) (filter p es))
rises_from p n [] a s i = tt
rises_from p n (e ∷ es) a s i =
    let two = both _ _ s in
    elim (p e) as (λ b. Rises n (map (λ e. e.1) (cond b (e ∷ filter p es) (filter p es)))) [
      | true ↦ (omega (arith, a.0, i.0), subst (λ (m : ℕ). Rises m (map (λ e. e.1) (filter p es))) (sym i.0) (rises_from p e.0 es (above_all e.0 es two.0) two.1 i.1))
      | false ↦ rises_from p n es a.1 two.1 i.1
    ]

rises_beyond : (n : ℕ) (es : List (ℕ × Volume)) → T (fin.is_sorted nat_cmp es) → IsNumbered es → Rises n (map (λ e. e.1) (filter (λ e. nat_lt n e.0) es))
rises_beyond n [] s i = tt
rises_beyond n (e ∷ es) s i =
    let two = both _ _ s in
    elim (leb_tells (suc n) e.0) as (λ _. Rises n (map (λ e. e.1) (cond (nat_lt n e.0) (e ∷ filter (λ e. nat_lt n e.0) es) (filter (λ e. nat_lt n e.0) es)))) [
      | inl a ↦ subst (λ b. Rises n (map (λ e. e.1) (cond b (e ∷ filter (λ e. nat_lt n e.0) es) (filter (λ e. nat_lt n e.0) es)))) (sym a.0)
          (omega (arith, a.1, i.0), subst (λ (m : ℕ). Rises m (map (λ e. e.1) (filter (λ e. nat_lt n e.0) es))) (sym i.0) (rises_from (λ e. nat_lt n e.0) e.0 es (above_all e.0 es two.0) two.1 i.1))
      | inr b ↦ subst (λ b. Rises n (map (λ e. e.1) (cond b (e ∷ filter (λ e. nat_lt n e.0) es) (filter (λ e. nat_lt n e.0) es)))) (sym b.0) (rises_beyond n es two.1 i.1)
    ]

-- over the whole walk the numbers rise, so no volume is listed twice
pub walked_rises : (after : ℕ) (ms : List Moment) → AreNumbered ms → Rises after (joined (walked after ms))
walked_rises after [] h = tt
walked_rises after (m ∷ ms) h =
    rises_append after (listed m.0 after m.1) (joined (walked (last_of after (listed m.0 after m.1)) ms))
    (rises_take (entries_for m.1) after (beyond m.0 after) (rises_beyond after (fin.entries m.0.volumes) (fin.entries_sorted m.0.volumes) h.0))
    (walked_rises (last_of after (listed m.0 after m.1)) ms h.1)

equal_is : (r : Ordering) → is_eq r ≡ true → r ≡ Equal
equal_is Less e = absurd (cc)
equal_is Equal e = refl
equal_is Greater e = absurd (cc)

above : (n a : ℕ) (vs : List Volume) → Rises a vs → Lists n vs → a < n
above n a [] h l = absurd l
above n a (v ∷ vs) h l = elim l as (λ _. a < n) [
  | inl e ↦ omega (arith, h.0, e)
  | inr r ↦ let more = above n v.number vs h.1 r in omega (arith, h.0, more)
]

in_take : (k n a : ℕ) (vs : List Volume) → Rises a vs → Lists n vs → n ≤ last_of a (take k vs) → Lists n (take k vs)
in_take zero n a vs h l le = let more = above n a vs h l in absurd (omega (arith, more, le))
in_take (suc k) n a [] h l le = l
in_take (suc k) n a (v ∷ vs) h l le = elim l as (λ _. (v.number ≡ n) ⊎ Lists n (take k vs)) [ inl e ↦ inl e | inr r ↦ inr (in_take k n v.number vs h.1 r le) ]

lists_filter : (after n : ℕ) (es : List (ℕ × Volume)) (v : Volume) → IsNumbered es → after < n → fin.find nat_cmp n es ≡ Some v → Lists n (map (λ e. e.1) (filter (λ e. nat_lt after e.0) es))
lists_filter after n [] v i h f = absurd (cc)
lists_filter after n (e ∷ es) v i h f = go (λ k. lists_filter after n es v i.1 h k) (eq_by_cmp nat_cmp n e.0) refl f (nat_lt after e.0) refl
  where
    go : (fin.find nat_cmp n es ≡ Some v → Lists n (map (λ e. e.1) (filter (λ e. nat_lt after e.0) es))) → (b : Bool) → eq_by_cmp nat_cmp n e.0 ≡ b → cond b (Some e.1) (fin.find nat_cmp n es) ≡ Some v
        → (d : Bool) → nat_lt after e.0 ≡ d → Lists n (map (λ e. e.1) (cond d (e ∷ filter (λ e. nat_lt after e.0) es) (filter (λ e. nat_lt after e.0) es)))
    go more true t k true u = inl (i.0 ∙ sym (fin.nat_cmp-IsAntisymmetric n e.0 (equal_is _ t)))
    go more true t k false u =
        let same : n ≡ e.0 = fin.nat_cmp-IsAntisymmetric n e.0 (equal_is _ t) in
        elim (leb_tells (suc after) e.0) as (λ _. Lists n (map (λ e. e.1) (filter (λ e. nat_lt after e.0) es))) [ inl x ↦ absurd (cc (u, x.0)) | inr x ↦ absurd (omega (arith, same, x.1, h)) ]
    go more false t k true u = inr (more k)
    go more false t k false u = more k

lists_append : (n : ℕ) (vs ws : List Volume) → Lists n vs ⊎ Lists n ws → Lists n (vs ++ ws)
lists_append n [] ws h = elim h as (λ _. Lists n ws) [ inl a ↦ absurd a | inr b ↦ b ]
lists_append n (v ∷ vs) ws h = elim h as (λ _. (v.number ≡ n) ⊎ Lists n (vs ++ ws)) [
  | inl a ↦ elim a as (λ _. (v.number ≡ n) ⊎ Lists n (vs ++ ws)) [ inl e ↦ inl e | inr r ↦ inr (lists_append n vs ws (inl r)) ]
  | inr b ↦ inr (lists_append n vs ws (inr b))
]

up_or_after : (a b : ℕ) → (a ≤ b) ⊎ (b < a)
up_or_after a b = elim (leb_tells a b) as (λ _. (a ≤ b) ⊎ (b < a)) [ inl x ↦ inl x.1 | inr x ↦ inr x.1 ]

lists_beyond : (s : State) (after n : ℕ) (v : Volume) → IsNumbered (fin.entries s.volumes) → after < n → fin.get s.volumes n ≡ Some v → Lists n (beyond s after)
lists_beyond s after n v i h g = lists_filter after n (fin.entries s.volumes) v i h (sym (fin.get-entries s.volumes n) ∙ g)

-- a volume that exists from the first page to the last is listed
pub walked_lists : (after n : ℕ) (ms : List Moment) → AreNumbered ms → Stands n ms → after < n → Ends after ms → Lists n (joined (walked after ms))
walked_lists after n [] i st h e = absurd e
walked_lists after n (m ∷ []) i st h e =
    let page = listed m.0 after m.1 in
    let all = lists_beyond m.0 after n st.0.0 i.0 h st.0.1 in
    elim (up_or_after n (last_of after page)) as (λ _. Lists n (page ++ [])) [
      | inl le ↦ lists_append n page [] (inl (in_take (entries_for m.1) n after (beyond m.0 after) (rises_beyond after (fin.entries m.0.volumes) (fin.entries_sorted m.0.volumes) i.0) all le))
      | inr lt ↦ absurd (subst (Lists n) e (lists_beyond m.0 (last_of after page) n st.0.0 i.0 lt st.0.1))
    ]
walked_lists after n (m ∷ k ∷ ms) i st h e =
    let page = listed m.0 after m.1 in
    let all = lists_beyond m.0 after n st.0.0 i.0 h st.0.1 in
    elim (up_or_after n (last_of after page)) as (λ _. Lists n (page ++ joined (walked (last_of after page) (k ∷ ms)))) [
      | inl le ↦ lists_append n page _ (inl (in_take (entries_for m.1) n after (beyond m.0 after) (rises_beyond after (fin.entries m.0.volumes) (fin.entries_sorted m.0.volumes) i.0) all le))
      | inr lt ↦ lists_append n page _ (inr (walked_lists (last_of after page) n (k ∷ ms) i.1 st.1 lt e))
    ]
