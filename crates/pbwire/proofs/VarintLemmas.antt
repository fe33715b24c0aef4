-- Reading and writing one group after the other.
use Rattle.std.proofs.Common.{◌≡◌, ℕ, zero, suc, ◌+◌, ◌-◌, ◌*◌, ◌/◌, ◌%◌, ◌^◌, ◌<◌, ◌≤◌, Bool, true, false, cond, ltb, leb, List, [], ◌∷◌, ◌++◌, length, get_or, drop, Result, Ok, Err, refl, sym, ap, subst, ◌∙◌, add-one, drop-cons, append_assoc, length-append, arith, inl, inr}
use Rattle.std.proofs.lemmas.Bool.{lt-ltb, le-ltb, cases_lt}
use Rattle.std.proofs.lemmas.Nat.{shl_whole, pow-add, shr_below}
use Rattle.std.proofs.Math.Nat.{mul_comm, mul-le-mul_right}
use Rattle.std.proofs.Math.ListN.{drop_of_length-le}
use Rattle.pbwire.specs.declared.field.WireWhy.{WireWhy}
use Rattle.pbwire.specs.declared.field.WireWhy.TheVariants as why
use Rattle.pbwire.specs.Reading.{◌>>=◌, with_group, groups_at}
use Rattle.pbwire.specs.Writing.{minimal}

-- the bytes read before, and the bytes still read
abbrev pub with_low : ℕ → ℕ → Result (ℕ × List ℕ) WireWhy → Result (ℕ × List ℕ) WireWhy
with_low value weight read = read >>= λ x. Ok (value + weight * x.0, x.1)

regroup : (value weight b : ℕ) (read : Result (ℕ × List ℕ) WireWhy) → with_low value weight (with_group b read) ≡ with_low (value + (b % 128) * weight) (weight * 128) read
regroup value weight b (Ok x) = ap (λ (n : ℕ). Ok (n, x.1)) (grind arith)
regroup value weight b (Err e) = refl

-- the byte at an index
pub here_is : (i b : ℕ) (bytes : List ℕ) → i < length bytes → b ≡ get_or bytes i b → drop i bytes ≡ b ∷ drop (i + 1) bytes
here_is i b bytes lt is = rw add-one (drop-cons bytes i b lt ∙ ap (λ (n : ℕ). n ∷ drop (suc i) bytes) (sym is))

next_group : (left b : ℕ) (bs : List ℕ) → 128 ≤ b → groups_at (suc (suc left)) (b ∷ bs) ≡ with_group b (groups_at (suc left) bs)
unfolding groups_at
next_group left b bs h = ap (λ (t : Bool). cond t (Ok (b, bs)) (with_group b (groups_at (suc left) bs))) (le-ltb b 128 h)

last_group : (left b : ℕ) (bs : List ℕ) → b < 128 → groups_at (suc (suc left)) (b ∷ bs) ≡ Ok (b, bs)
unfolding groups_at
last_group left b bs h = ap (λ (t : Bool). cond t (Ok (b, bs)) (with_group b (groups_at (suc left) bs))) (lt-ltb b 128 h)

no_group : (left : ℕ) → groups_at (suc left) [] ≡ Err why.CutShort
unfolding groups_at
no_group zero = refl
no_group (suc left) = refl

whole : (i a : ℕ) → i < 9 → a < 128 → (a * 2 ^ (7 * i)) % 2 ^ 64 ≡ a * 2 ^ (7 * i)
whole i a lt small = shl_whole a 7 (7 * i) 64 small (omega arith)

next_weight : (i : ℕ) → 2 ^ (7 * (i + 1)) ≡ 2 ^ (7 * i) * 128
next_weight i = let e : 7 * (i + 1) ≡ 7 * i + 7 = omega arith in ap (λ (k : ℕ). 2 ^ k) e ∙ pow-add 2 (7 * i) 7

at_nine : (i : ℕ) → i < 9 → 10 - i ≡ suc (suc (8 - i))
at_nine i lt = omega arith

-- one more group is read
pub reads_more : (i v b : ℕ) (bytes : List ℕ) (read : Result (ℕ × List ℕ) WireWhy) → i < 9 → drop i bytes ≡ b ∷ drop (i + 1) bytes → 128 ≤ b → b < 256
    → with_low v (2 ^ (7 * i)) (groups_at (10 - i) (drop i bytes)) ≡ read
    → with_low (v + ((b % 128) * 2 ^ (7 * i)) % 2 ^ 64) (2 ^ (7 * (i + 1))) (groups_at (10 - (i + 1)) (drop (i + 1) bytes)) ≡ read
reads_more i v b bytes read lt here more byte so_far =
    let k : 10 - (i + 1) ≡ suc (8 - i) = omega arith in
    let one : with_low v (2 ^ (7 * i)) (groups_at (10 - i) (drop i bytes)) ≡ with_low (v + (b % 128) * 2 ^ (7 * i)) (2 ^ (7 * i) * 128) (groups_at (suc (8 - i)) (drop (i + 1) bytes)) =
    ap (λ (n : ℕ). with_low v (2 ^ (7 * i)) (groups_at n (drop i bytes))) (at_nine i lt)
    ∙ ap (λ (bs : List ℕ). with_low v (2 ^ (7 * i)) (groups_at (suc (suc (8 - i))) bs)) here
    ∙ ap (with_low v (2 ^ (7 * i))) (next_group (8 - i) b (drop (i + 1) bytes) more)
    ∙ regroup v (2 ^ (7 * i)) b (groups_at (suc (8 - i)) (drop (i + 1) bytes)) in
    ap (λ (n : ℕ). with_low (v + n) (2 ^ (7 * (i + 1))) (groups_at (10 - (i + 1)) (drop (i + 1) bytes))) (whole i (b % 128) lt (omega arith))
    ∙ ap (λ (n : ℕ). with_low (v + (b % 128) * 2 ^ (7 * i)) n (groups_at (10 - (i + 1)) (drop (i + 1) bytes))) (next_weight i)
    ∙ ap (λ (n : ℕ). with_low (v + (b % 128) * 2 ^ (7 * i)) (2 ^ (7 * i) * 128) (groups_at n (drop (i + 1) bytes))) k
    ∙ sym one ∙ so_far

pub low_more : (i v b : ℕ) → i < 9 → b < 256 → v < 2 ^ (7 * i) → v + ((b % 128) * 2 ^ (7 * i)) % 2 ^ 64 < 2 ^ (7 * (i + 1))
low_more i v b lt byte low =
    let m : b % 128 ≤ 127 = omega arith in
    let w : (b % 128) * 2 ^ (7 * i) ≤ 127 * 2 ^ (7 * i) = mul-le-mul_right (2 ^ (7 * i)) m in
    rw (whole i (b % 128) lt (omega arith), next_weight i) (omega arith)

pub reads_last : (i v b : ℕ) (bytes : List ℕ) (read : Result (ℕ × List ℕ) WireWhy) → i < 9 → drop i bytes ≡ b ∷ drop (i + 1) bytes → b < 128
    → with_low v (2 ^ (7 * i)) (groups_at (10 - i) (drop i bytes)) ≡ read
    → Ok (v + (b * 2 ^ (7 * i)) % 2 ^ 64, drop (i + 1) bytes) ≡ read
reads_last i v b bytes read lt here small so_far =
    let fits : (b * 2 ^ (7 * i)) % 2 ^ 64 ≡ 2 ^ (7 * i) * b = whole i b lt small ∙ mul_comm b (2 ^ (7 * i)) in
    let e : with_low v (2 ^ (7 * i)) (groups_at (10 - i) (drop i bytes)) ≡ Ok (v + 2 ^ (7 * i) * b, drop (i + 1) bytes) =
    ap (λ (n : ℕ). with_low v (2 ^ (7 * i)) (groups_at n (drop i bytes))) (at_nine i lt)
    ∙ ap (λ (bs : List ℕ). with_low v (2 ^ (7 * i)) (groups_at (suc (suc (8 - i))) bs)) here
    ∙ ap (with_low v (2 ^ (7 * i))) (last_group (8 - i) b (drop (i + 1) bytes) small) in
    ap (λ (n : ℕ). Ok (v + n, drop (i + 1) bytes)) fits ∙ sym e ∙ so_far

pub ends_short : (i v : ℕ) (bytes : List ℕ) (read : Result (ℕ × List ℕ) WireWhy) → i ≤ 9 → length bytes ≤ i
    → with_low v (2 ^ (7 * i)) (groups_at (10 - i) (drop i bytes)) ≡ read → Err why.CutShort ≡ read
ends_short i v bytes read le past so_far =
    let k : 10 - i ≡ suc (9 - i) = omega arith in
    sym (ap (λ (n : ℕ). with_low v (2 ^ (7 * i)) (groups_at n (drop i bytes))) k ∙ ap (λ (bs : List ℕ). with_low v (2 ^ (7 * i)) (groups_at (suc (9 - i)) bs)) (drop_of_length-le bytes past) ∙ ap (with_low v (2 ^ (7 * i))) (no_group (9 - i))) ∙ so_far

tenth : (b : ℕ) (bs : List ℕ) → groups_at 1 (b ∷ bs) ≡ cond (leb b 1) (Ok (b, bs)) (Err why.Varint)
unfolding groups_at
tenth b bs = refl

pub reads_tenth : (v b : ℕ) (bytes : List ℕ) (high : Result ℕ WireWhy) (read : Result (ℕ × List ℕ) WireWhy) → drop 9 bytes ≡ b ∷ drop 10 bytes
    → high ≡ cond (leb b 1) (Ok (2 ^ 63 * b)) (Err why.Varint)
    → with_low v (2 ^ 63) (groups_at 1 (drop 9 bytes)) ≡ read → (high >>= λ h. Ok (v + h, drop 10 bytes)) ≡ read
reads_tenth v b bytes high read here is so_far =
    ap (λ (r : Result ℕ WireWhy). r >>= λ h. Ok (v + h, drop 10 bytes)) is
    ∙ by_bit (leb b 1)
    ∙ sym (ap (λ (bs : List ℕ). with_low v (2 ^ 63) (groups_at 1 bs)) here ∙ ap (with_low v (2 ^ 63)) (tenth b (drop 10 bytes)))
    ∙ so_far
  where
    by_bit : (t : Bool) → (cond t (Ok (2 ^ 63 * b)) (Err why.Varint) >>= λ h. Ok (v + h, drop 10 bytes)) ≡ with_low v (2 ^ 63) (cond t (Ok (b, drop 10 bytes)) (Err why.Varint))
    by_bit true = refl
    by_bit false = refl

-- ---- writing

pub minimal_more : (k n : ℕ) → 128 ≤ n → minimal (suc k) n ≡ (n % 128 + 128) ∷ minimal k (n / 128)
unfolding minimal
minimal_more k n h = ap (λ (t : Bool). cond t (n ∷ []) ((n % 128 + 128) ∷ minimal k (n / 128))) (le-ltb n 128 h)

pub minimal_last : (k n : ℕ) → n < 128 → minimal k n ≡ n ∷ []
unfolding minimal
minimal_last zero n h = refl
minimal_last (suc k) n h = ap (λ (t : Bool). cond t (n ∷ []) ((n % 128 + 128) ∷ minimal k (n / 128))) (lt-ltb n 128 h)

pub length-minimal : (k n : ℕ) → length (minimal k n) ≤ k + 1
unfolding minimal
length-minimal zero n = omega arith
length-minimal (suc k) n = elim (ltb n 128) as (λ t. length (cond t (n ∷ []) ((n % 128 + 128) ∷ minimal k (n / 128))) ≤ suc k + 1) [
  | true ↦ omega arith
  | false ↦ omega (arith, length-minimal k (n / 128))
]

-- the bytes written so far, and the rest of the number
pub record Writes (start out whole : List ℕ) (rest : ℕ) : Type 0 where
  pub longer : length start ≤ length out
  pub short : length out ≤ length start + 9
  pub below : rest < 2 ^ (64 - 7 * (length out - length start))
  pub spelled : out ++ minimal (9 - (length out - length start)) rest ≡ whole

at_end : (j rest : ℕ) → j ≤ 9 → rest < 2 ^ (64 - 7 * j) → 128 ≤ rest → j < 9
at_end j rest le below more = elim (cases_lt j 9) [
  | inl lt ↦ lt
  | inr ge ↦ let e : j ≡ 9 = omega arith in let b : rest < 2 = subst (λ (n : ℕ). rest < 2 ^ (64 - 7 * n)) e below in absurd (omega arith)
]

pub writes_more : (start out whole new : List ℕ) (rest : ℕ) → Writes start out whole rest → 128 ≤ rest → new ≡ out ++ (rest % 128 + 128) ∷ [] → Writes start new whole (rest / 128)
writes_more start out whole new rest w more is =
    let len : length new ≡ length out + 1 = rw is (length-append out ((rest % 128 + 128) ∷ [])) in
    let j : ℕ = length out - length start in
    let lt : length out - length start < 9 = at_end (length out - length start) rest (let s = w.short in omega arith) w.below more in
    let l = w.longer in
    let one : length new - length start ≡ (length out - length start) + 1 = omega arith in
    let exp : (64 - 7 * ((length out - length start) + 1)) + 7 ≡ 64 - 7 * (length out - length start) = omega arith in
    let k : 9 - (length out - length start) ≡ suc (9 - ((length out - length start) + 1)) = omega arith in
    record {
      longer = omega arith;
      short = omega arith;
      below = subst (λ (n : ℕ). rest / 128 < 2 ^ (64 - 7 * n)) (sym one) (shr_below rest (64 - 7 * ((length out - length start) + 1)) 7 (subst (λ (n : ℕ). rest < 2 ^ n) (sym exp) w.below));
      spelled =
          ap (λ (n : ℕ). new ++ minimal (9 - n) (rest / 128)) one
          ∙ ap (λ (bs : List ℕ). bs ++ minimal (9 - ((length out - length start) + 1)) (rest / 128)) is
          ∙ append_assoc out ((rest % 128 + 128) ∷ []) (minimal (9 - ((length out - length start) + 1)) (rest / 128))
          ∙ ap (λ (bs : List ℕ). out ++ bs) (sym (minimal_more (9 - ((length out - length start) + 1)) rest more))
          ∙ ap (λ (n : ℕ). out ++ minimal n rest) (sym k)
          ∙ w.spelled;
    }
