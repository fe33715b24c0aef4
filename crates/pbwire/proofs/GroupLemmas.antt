-- A varint by cases, byte after byte.
use Rattle.std.proofs.Common.{◌≡◌, ℕ, zero, suc, ◌<◌, ◌≤◌, List, [], ◌∷◌, ◌++◌, length, All, refl, sym, ap, subst, arith}
use Rattle.std.proofs.lemmas.List.Elements.{All-nil, All-cons, All-head, All-tail}
use Rattle.pbwire.specs.Wire.{groups_value, IsVarint}

-- At most `left` bytes are left, and the last possible one is at most 1.
abbrev pub AreGroups : ℕ → List ℕ → Type 0
AreGroups left [] = ⊥
AreGroups zero (b ∷ bs) = ⊥
AreGroups (suc zero) (b ∷ []) = b ≤ 1
AreGroups (suc zero) (b ∷ c ∷ bs) = ⊥
AreGroups (suc (suc left)) (b ∷ []) = b < 128
AreGroups (suc (suc left)) (b ∷ c ∷ bs) = (128 ≤ b) × AreGroups (suc left) (c ∷ bs)

pub AreGroups-cons : (left b : ℕ) (bytes : List ℕ) → 128 ≤ b → AreGroups (suc left) bytes → AreGroups (suc (suc left)) (b ∷ bytes)
AreGroups-cons left b [] goes g = absurd g
AreGroups-cons left b (c ∷ bs) goes g = (goes, g)

abbrev Goes : ℕ → Type 0
Goes b = 128 ≤ b

groups_of : (left : ℕ) (more : List ℕ) (last : ℕ) → All Goes more → last < 128 → length more ≤ left → (length more ≡ left → last ≤ 1) → AreGroups (suc left) (more ++ last ∷ [])
groups_of zero [] last all ended short tenth = tenth refl
groups_of zero (b ∷ bs) last all ended short tenth = absurd (omega (arith, short))
groups_of (suc left) [] last all ended short tenth = ended
groups_of (suc left) (b ∷ []) last all ended short tenth =
    (All-head Goes b [] all, groups_of left [] last (All-tail Goes b [] all) ended (omega (arith, short)) (λ e. tenth (ap suc e)))
groups_of (suc left) (b ∷ c ∷ bs) last all ended short tenth =
    (All-head Goes b (c ∷ bs) all, groups_of left (c ∷ bs) last (All-tail Goes b (c ∷ bs) all) ended (omega (arith, short)) (λ e. tenth (ap suc e)))

record Ends (left : ℕ) (bytes : List ℕ) : Type 0 where
  more : List ℕ
  last : ℕ
  whole : bytes ≡ more ++ last ∷ []
  continued : All Goes more
  ended : last < 128
  short : length more ≤ left
  tenth : length more ≡ left → last ≤ 1

one_ends : (left b : ℕ) → b < 128 → (0 ≡ left → b ≤ 1) → Ends left (b ∷ [])
one_ends left b small tenth = record { more = []; last = b; whole = refl; continued = All-nil Goes; ended = small; short = omega arith; tenth = tenth }

more_ends : (left b : ℕ) (bytes : List ℕ) → 128 ≤ b → Ends left bytes → Ends (suc left) (b ∷ bytes)
more_ends left b bytes goes e = record {
  more = b ∷ e.more;
  last = e.last;
  whole = ap (λ (l : List ℕ). b ∷ l) e.whole;
  continued = All-cons Goes b e.more goes e.continued;
  ended = e.ended;
  short = omega (arith, e.short);
  tenth = λ same. e.tenth (omega (arith, same));
}

ends : (left : ℕ) (bytes : List ℕ) → AreGroups (suc left) bytes → Ends left bytes
ends left [] g = absurd g
ends zero (b ∷ []) g = one_ends 0 b (omega (arith, g)) (λ e. g)
ends zero (b ∷ c ∷ bs) g = absurd g
ends (suc left) (b ∷ []) g = one_ends (suc left) b g (λ e. absurd (omega (arith, e)))
ends (suc left) (b ∷ c ∷ bs) g = more_ends left b (c ∷ bs) g.0 (ends left (c ∷ bs) g.1)

pub groups : (bytes : List ℕ) (n : ℕ) → IsVarint bytes n → AreGroups 10 bytes
groups bytes n v = subst (AreGroups 10) (sym v.whole) (groups_of 9 v.more v.last v.continued v.ended v.at_most_ten v.tenth)

pub is_varint : (bytes : List ℕ) (n : ℕ) → AreGroups 10 bytes → n ≡ groups_value bytes → IsVarint bytes n
is_varint bytes n g value =
    let e = ends 9 bytes g in
    record { more = e.more; last = e.last; whole = e.whole; continued = e.continued; ended = e.ended; at_most_ten = e.short; tenth = e.tenth; value = value }
