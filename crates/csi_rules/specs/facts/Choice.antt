-- The first pair that fits, term by term.
use Rattle.std.proofs.Common.{◌≡◌, ◌∙◌, ap, sym, cond, arith, refl, ℕ, ◌+◌, ◌<◌, suc, nat_le, add-one, List, [], ◌∷◌, ◌++◌, map, find, length, drop}
use Rattle.std.proofs.Common.{get_or, Bool, true, false, ◌&&◌, Option, Some, None, option_map}
use Rattle.std.specs.FinMap.{empty}
use Rattle.std.proofs.Math.Seq.{drop-cons}
use Rattle.csi_types.specs.Maps.{TextMap}
use Rattle.csi_config.specs.declared.pools.Pool.{Pool}
use Rattle.csi_rules.specs.declared.choice.Room as code
use Rattle.csi_rules.specs.Choice.{Room, room_value, free, fits, pairs, choice}
use Rattle.csi_rules.specs.Topology.{serves, or_empty}

abbrev pub or_else : {A : Type 0} → Option A → Option A → Option A
or_else None b = b
or_else (Some x) b = Some x

find_app : {A : Type 0} (p : A → Bool) (xs ys : List A) → find p (xs ++ ys) ≡ or_else (find p xs) (find p ys)
find_app p [] ys = refl
find_app p (x ∷ xs) ys = elim (p x)
    as (λ b. cond b (Some x) (find p (xs ++ ys)) ≡ or_else (cond b (Some x) (find p xs)) (find p ys)) [
      | true ↦ refl
      | false ↦ find_app p xs ys
    ]

map_or : {A B : Type 0} (f : A → B) (a b : Option A) → option_map f (or_else a b) ≡ or_else (option_map f a) (option_map f b)
map_or f None b = refl
map_or f (Some x) b = refl

find_map : {A B : Type 0} (p : B → Bool) (f : A → B) (xs : List A) → find p (map f xs) ≡ option_map f (find (λ x. p (f x)) xs)
find_map p f [] = refl
find_map p f (x ∷ xs) = elim (p (f x))
    as (λ b. cond b (Some (f x)) (find p (map f xs)) ≡ option_map f (cond b (Some x) (find (λ x. p (f x)) xs))) [
      | true ↦ refl
      | false ↦ find_map p f xs
    ]

map_map : {A B C : Type 0} (g : B → C) (f : A → B) (o : Option A) → option_map g (option_map f o) ≡ option_map (λ x. g (f x)) o
map_map g f None = refl
map_map g f (Some x) = refl

append-nil : {A : Type 0} (xs : List A) → xs ++ [] ≡ xs
append-nil [] = refl
append-nil (x ∷ xs) = ap (λ l. x ∷ l) (append-nil xs)

abbrev pub first_for : List Room → TextMap → ℕ → Option Pool
first_for rooms t n = option_map (λ r. r.0) (find (λ r. serves r.0.segments t && nat_le n (free r)) rooms)

first_is : (rooms : List Room) (t : TextMap) (n : ℕ) → option_map (λ p. p.1.0) (find (fits n) (map (λ r. (t, r)) rooms)) ≡ first_for rooms t n
first_is rooms t n = ap (option_map (λ (p : TextMap × Room). p.1.0)) (find_map (fits n) (λ r. (t, r)) rooms)
    ∙ map_map (λ (p : TextMap × Room). p.1.0) (λ r. (t, r)) (find (λ r. fits n (t, r)) rooms)

pub choice_one : (rooms : List Room) (t : TextMap) (n : ℕ) → choice rooms (t ∷ []) n ≡ first_for rooms t n
choice_one rooms t n = ap (λ ps. option_map (λ (p : TextMap × Room). p.1.0) (find (fits n) ps)) (append-nil (map (λ r. (t, r)) rooms)) ∙ first_is rooms t n

pub choice_cons : (rooms : List Room) (t : TextMap) (ts : List TextMap) (n : ℕ)
    → choice rooms (t ∷ ts) n ≡ or_else (choice rooms (t ∷ []) n) (choice rooms ts n)
choice_cons rooms t ts n =
    ap (option_map (λ (p : TextMap × Room). p.1.0)) (find_app (fits n) (map (λ r. (t, r)) rooms) (pairs ts rooms))
    ∙ map_or (λ p. p.1.0) (find (fits n) (map (λ r. (t, r)) rooms)) (find (fits n) (pairs ts rooms))
    ∙ ap (λ o. or_else o (choice rooms ts n)) (first_is rooms t n ∙ sym (choice_one rooms t n))

pub choice_of_one : (rooms : List code.Room) (t : TextMap) (n : ℕ)
    → choice (map room_value rooms) (t ∷ []) n
    ≡ option_map (λ r. r.pool.now) (find (λ r. serves r.pool.now.segments t && nat_le n (free (room_value r))) rooms)
choice_of_one rooms t n =
    choice_one (map room_value rooms) t n
    ∙ ap (option_map (λ (r : Room). r.0)) (find_map (λ r. serves r.0.segments t && nat_le n (free r)) room_value rooms)
    ∙ map_map (λ (r : Room). r.0) room_value (find (λ r. serves r.pool.now.segments t && nat_le n (free (room_value r))) rooms)

assoc_or : {A : Type 0} (a b c : Option A) → or_else (or_else a b) c ≡ or_else a (or_else b c)
assoc_or None b c = refl
assoc_or (Some x) b c = refl

pub choice_append : (rooms : List Room) (ts us : List TextMap) (n : ℕ) → choice rooms (ts ++ us) n ≡ or_else (choice rooms ts n) (choice rooms us n)
choice_append rooms [] us n = refl
choice_append rooms (t ∷ ts) us n =
    choice_cons rooms t (ts ++ us) n ∙ ap (or_else (choice rooms (t ∷ []) n)) (choice_append rooms ts us n)
    ∙ sym (assoc_or (choice rooms (t ∷ []) n) (choice rooms ts n) (choice rooms us n))
    ∙ sym (ap (λ o. or_else o (choice rooms us n)) (choice_cons rooms t ts n))

ends-there : {A : Type 0} (o : Option A) → or_else o None ≡ o
ends-there None = refl
ends-there (Some x) = refl

-- the term at this position is tried, and then the terms after it
pub choice_at : (rooms : List Room) (ts : List TextMap) (i n : ℕ) (d : TextMap) → i < length ts
    → choice rooms (drop i ts) n ≡ or_else (choice rooms (get_or ts i d ∷ []) n) (choice rooms (drop (i + 1) ts) n)
choice_at rooms ts i n d h =
    ap (λ l. choice rooms l n) (drop-cons ts i d h) ∙ choice_cons rooms (get_or ts i d) (drop (suc i) ts) n
    ∙ ap (λ k. or_else (choice rooms (get_or ts i d ∷ []) n) (choice rooms (drop k ts) n)) (sym (add-one i))

pub choice_found : (rooms : List Room) (ts : List TextMap) (i n : ℕ) (d : TextMap) (p : Pool) → i < length ts → d ≡ get_or ts i d
    → Some p ≡ choice rooms (d ∷ []) n
    → choice rooms (drop i ts) n ≡ choice rooms ts n → Some p ≡ choice rooms ts n
choice_found rooms ts i n d p h is here rest =
    ap (λ o. or_else o (choice rooms (drop (i + 1) ts) n)) (here ∙ ap (λ t. choice rooms (t ∷ []) n) is) ∙ sym (choice_at rooms ts i n d h) ∙ rest

pub choice_missed : (rooms : List Room) (ts : List TextMap) (i n : ℕ) (d : TextMap) → i < length ts → d ≡ get_or ts i d → None ≡ choice rooms (d ∷ []) n
    → choice rooms (drop i ts) n ≡ choice rooms ts n → choice rooms (drop (i + 1) ts) n ≡ choice rooms ts n
choice_missed rooms ts i n d h is here rest =
    ap (λ o. or_else o (choice rooms (drop (i + 1) ts) n)) (here ∙ ap (λ t. choice rooms (t ∷ []) n) is) ∙ sym (choice_at rooms ts i n d h) ∙ rest

pub choice_first : (rooms : List Room) (ts us : List TextMap) (n : ℕ) (p : Pool) → Some p ≡ choice rooms ts n → Some p ≡ choice rooms (ts ++ us) n
choice_first rooms ts us n p here = ap (λ o. or_else o (choice rooms us n)) here ∙ sym (choice_append rooms ts us n)

pub choice_second : (rooms : List Room) (ts us : List TextMap) (n : ℕ) (o : Option Pool) → None ≡ choice rooms ts n → o ≡ choice rooms us n
    → o ≡ choice rooms (ts ++ us) n
choice_second rooms ts us n o none here = here ∙ ap (λ o. or_else o (choice rooms us n)) none ∙ sym (choice_append rooms ts us n)

pub or_empty_none : (rooms : List Room) (ts : List TextMap) (n : ℕ) → length ts ≡ 0 → choice rooms (or_empty ts) n ≡ choice rooms (empty ∷ []) n
or_empty_none rooms [] n h = refl
or_empty_none rooms (t ∷ ts) n h = absurd (omega arith)

pub or_empty_some : (rooms : List Room) (ts : List TextMap) (n : ℕ) → 0 < length ts → choice rooms (or_empty ts) n ≡ choice rooms ts n
or_empty_some rooms [] n h = absurd (omega arith)
or_empty_some rooms (t ∷ ts) n h = refl
