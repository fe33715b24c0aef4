-- The reasons why there is no copy of a keeper.
use Rattle.std.proofs.Common.{◌≡◌, ◌∙◌, ◌↔◌, inl, inr, ap, sym, subst, cond, arith, refl, ℕ, zero, suc, ◌+◌, ◌<◌, ◌≤◌, ◌^◌, nat_lt, List, [], ◌∷◌, length, get_or, take, find, sum, sum_by, min, Bool, true, false, Option, Some, None, IsSome, IsTrue, Result, Ok, Err, IfErr}
use Rattle.std.proofs.lemmas.Bool.Decides.{leb_tells}
use Rattle.std.proofs.lemmas.List.Sums.{sum_by-cons}
use Rattle.std.specs.FinMap as fin
use Rattle.std.specs.Option.{option_or}
use lib.Pointwise.{bytes_decides}
use Rattle.csi_types.specs.Maps.{same_text}
use Rattle.csi_types.specs.declared.limits.TheConstants.{MAX_NUMBER, MAX_POOL_BYTES}
use Rattle.csi_config.specs.Faults.{all_bytes, fault_if, plugin_fault, pool_bytes_fault, pool_fault, pool_names_fault, sizes_fault}
use Rattle.csi_config.specs.Values.{Has}
use Rattle.csi_config.specs.declared.config.Config.{Config}
use Rattle.csi_config.specs.declared.fault.PoolRule.{PoolRule}
use Rattle.csi_config.specs.declared.pools.Pool.{Pool}
use Rattle.csi_keeper.specs.Invariant.{IsInvariant}
use Rattle.csi_keeper.specs.Keeper.{IsQuiet, count_after}
use Rattle.csi_keeper.specs.Lookup.{pool_named}
use Rattle.csi_keeper.specs.Model.{Model}
use Rattle.csi_keeper.specs.State.{State, sizes}
use Rattle.csi_keeper.specs.Texts.{Text}
use Rattle.csi_keeper.specs.declared.change.StoreFault.{StoreFault}
use Rattle.csi_keeper.specs.declared.change.StoreFault.TheVariants.{NoMemory, Refused, Down}
use Rattle.csi_keeper.specs.declared.volume.Volume.{Volume}
use Rattle.csi_keeper.specs.facts.Sums.{taken_sum}
use Rattle.csi_through.specs.Copying.{AreNext, IsHeld, IsNext, IsReportedFor, IsWhy, last_number}

-- ---- the bytes of a volume

first_none : {A : Type 0} (a b : Option A) → option_or a b ≡ None → a ≡ None
first_none (Some x) b h = absurd (cc)
first_none None b h = refl

rest_none : {A : Type 0} (a b : Option A) → option_or a b ≡ None → b ≡ None
rest_none (Some x) b h = absurd (cc)
rest_none None b h = h

if_none : {A : Type 0} (b : Bool) (x : A) → fault_if b x ≡ None → b ≡ false
if_none true x h = absurd (cc)
if_none false x h = refl

not_over : (a b : ℕ) → nat_lt a b ≡ false → b ≤ a
not_over a b e = elim (leb_tells (suc a) b) as (λ _. b ≤ a) [ inl x ↦ absurd (cc (e, x.0)) | inr x ↦ omega (arith, x.1) ]

in_sum : (ps : List Pool) (p : Pool) → Has ps p → p.bytes ≤ all_bytes ps
in_sum [] p h = absurd h
in_sum (q ∷ ps) p h = elim h as (λ _. p.bytes ≤ sum_by (λ p. p.bytes) (q ∷ ps)) [
  | inl e ↦ let b = ap (λ (p : Pool). p.bytes) e in omega (arith, sum_by-cons (λ (p : Pool). p.bytes) q ps, b)
  | inr r ↦ let b = in_sum ps p r in omega (arith, sum_by-cons (λ (p : Pool). p.bytes) q ps, b)
]

all_within : (config : Config) → all_bytes config.pools ≤ MAX_POOL_BYTES
unfolding pool_bytes_fault
all_within config =
    let from_sizes = rest_none (plugin_fault config.plugin) _ config.faultless in
    let from_names = rest_none (sizes_fault config.sizes) _ from_sizes in
    let from_bytes = rest_none (pool_names_fault config.pools) _ from_names in
    let bytes = first_none (pool_bytes_fault config.pools) _ from_bytes in
    not_over _ _ (if_none _ _ (first_none _ _ (rest_none (pool_fault PoolRule.Bytes config.pools) _ bytes)))

pool_found : (pools : List Pool) (name : Text) → IsSome (pool_named pools name) → (p : Pool) × Has pools p × (p.name ≡ name)
pool_found [] name some = absurd (cc (some))
pool_found (p ∷ ps) name some = go (same_text p.name name) refl some (pool_found ps name)
  where
    go : (b : Bool) → same_text p.name name ≡ b → IsSome (cond b (Some p) (pool_named ps name)) → (IsSome (pool_named ps name) → (q : Pool) × Has ps q × (q.name ≡ name)) → (q : Pool) × Has (p ∷ ps) q × (q.name ≡ name)
    go true t h next = (p, inl refl, (bytes_decides p.name name).0 t)
    go false t h next = let r = next h in (r.0, inr r.1, r.2)

bytes_within : (config : Config) (s : State) (k : ℕ) (v : Volume) → IsInvariant config s → fin.get s.volumes k ≡ Some v → v.bytes ≤ MAX_POOL_BYTES
bytes_within config s k v inv stands =
    let at = pool_found config.pools v.pool (inv.volumes k v stands).pool in
    let taken = taken_sum s k v v.pool stands in
    let own : cond (same_text v.pool v.pool) v.bytes 0 ≡ v.bytes = ap (λ b. cond b v.bytes 0) ((bytes_decides v.pool v.pool).1 refl) in
    let room : sum (sizes s v.pool) ≤ at.0.bytes = subst (λ (t : Text). sum (sizes s t) ≤ at.0.bytes) at.2 (inv.rooms at.0 at.1) in
    let one = in_sum config.pools at.0 at.1 in
    let all = all_within config in
    omega (arith, taken, own, room, one, all)

-- a volume that meets the invariant is within the bounds of a keeper in memory
pub within : (config : Config) (s : State) (n : ℕ) (v : Volume) → IsInvariant config s → IsNext s n v → IsHeld v
within config s n v inv next =
    let given = (inv.volumes v.number v next.stands).given.1 in
    let most = inv.next.1 in
    record { number = omega (arith, given, most); bytes = bytes_within config s v.number v inv next.stands }

-- ---- numbers that rise

not_less : (s : State) (n : ℕ) (vs : List Volume) → AreNext s n vs → n ≤ last_number n vs
not_less s n [] next = omega arith
not_less s n (v ∷ vs) next = let greater = next.0.greater in let more = not_less s v.number vs next.1 in omega (arith, greater, more)

pub rises : (s : State) (n : ℕ) (vs : List Volume) → (vs ≡ [] → ⊥) → AreNext s n vs → n < last_number n vs
rises s n [] some next = absurd (some refl)
rises s n (v ∷ vs) some next = let greater = next.0.greater in let more = not_less s v.number vs next.1 in omega (arith, greater, more)

pub next_at : (s : State) (n : ℕ) (vs : List Volume) (i : ℕ) (v : Volume) → i < length vs → v ≡ get_or vs i v → AreNext s n vs → IsNext s (last_number n (take i vs)) v
next_at s n [] i v low is next = absurd (omega (arith, low))
next_at s n (w ∷ vs) zero v low is next = subst (IsNext s n) (sym is) next.0
next_at s n (w ∷ vs) (suc i) v low is next = next_at s w.number vs i v (omega (arith, low)) is next.1

-- ---- counts

pub on_err : {X E : Type 0} (P : E → Type 0) (r : Result X E) (e : E) → r ≡ Err e → P e → IfErr r P
on_err {X} {E} P r e is p = subst (λ (r : Result X E). IfErr r P) (sym is) p

abbrev pub counted : ℕ → StoreFault → ℕ
counted n fault = count_after {X = Unit {0}} n (Err fault)

same_count : (X : Type 0) (n : ℕ) (fault : StoreFault) → count_after {X = X} n (Err fault) ≡ counted n fault
same_count X n NoMemory = refl
same_count X n Refused = refl
same_count X n Down = refl

count_of : {X : Type 0} (n m : ℕ) (r : Result X StoreFault) (fault : StoreFault) → r ≡ Err fault → m ≡ count_after n r → m ≡ counted n fault
count_of {X} n m r fault is count = count ∙ ap (count_after n) is ∙ same_count X n fault

pub ok_count : {X : Type 0} (n m : ℕ) (r : Result X StoreFault) (x : X) → r ≡ Ok x → m ≡ count_after n r → m ≡ n
ok_count n m r x is count = count ∙ ap (count_after n) is

pub of_read : {X : Type 0} {P : State → Type 0} (old new : Model State) (r : Result X StoreFault) (fault : StoreFault) → r ≡ Err fault → new.refusals ≡ count_after old.refusals r → (r ≡ Err Down → IsTrue old.is_down)
    → IsReportedFor P old new fault
of_read old new r fault is count down = record {
  down = λ e. down (is ∙ ap Err e);
  count = λ d config s held inv p. count_of old.refusals new.refusals r fault is count;
}

pub of_memory : {P : State → Type 0} (old new : Model State) (fault : StoreFault) → (fault ≡ Down → ⊥) → new.refusals ≡ old.refusals
    → ((config : Config) (s : State) → IsInvariant config s → P s → fault ≡ NoMemory) → IsReportedFor P old new fault
of_memory old new fault up same alone = record {
  down = λ e. absurd (up e);
  count = λ d config s held inv p. same ∙ ap (counted old.refusals) (sym (alone config s inv p));
}

-- a fault after reads that were answered
pub reported_later : {P Q : State → Type 0} (a b c : Model State) (fault : StoreFault) → IsQuiet a b → b.doubt ≤ c.doubt → b.refusals ≡ a.refusals
    → (b.doubt ≡ 0 → (config : Config) (s : State) → a.holds s → IsInvariant config s → P s → Q s) → IsReportedFor Q b c fault → IsReportedFor P a c fault
reported_later a b c fault quiet clean same more reported = record {
  down = λ e. subst IsTrue quiet.down (reported.down e);
  count = λ d config s held inv p.
      let before : b.doubt ≡ 0 = omega (arith, d, clean) in
      reported.count d config s (quiet.state before s held) inv (more before config s held inv p) ∙ ap (λ n. counted n fault) same;
}

pub why_read : {X : Type 0} (old new : Model State) (r : Result X StoreFault) (fault : StoreFault) → r ≡ Err fault → new.refusals ≡ count_after old.refusals r → (r ≡ Err Down) ↔ IsTrue old.is_down → IsWhy old new fault
why_read old new r fault is count down = record {
  down = (λ e. down.0 (is ∙ ap Err e), λ t. let e = sym is ∙ down.1 t in cc (e));
  count = λ d config s held inv. count_of old.refusals new.refusals r fault is count;
}

-- the keeper is not down, because its first read was answered
module _ {X : Type 0} (old mid : Model State) (r : Result X StoreFault) (x : X) (is : r ≡ Ok x) (down : (r ≡ Err Down) ↔ IsTrue old.is_down) where
  up : IsTrue old.is_down → ⊥
  up t = absurd (let e = down.1 t in cc (is, e))

  pub why_then : (new : Model State) (fault : StoreFault) → IsQuiet old mid → mid.doubt ≤ new.doubt → mid.refusals ≡ old.refusals → IsReportedFor (λ _. Unit {0}) mid new fault → IsWhy old new fault
  why_then new fault quiet clean same reported = record {
    down = (λ e. absurd (up (subst IsTrue quiet.down (reported.down e))), λ t. absurd (up t));
    count = λ d config s held inv. reported.count d config s (quiet.state (omega (arith, d, clean)) s held) inv tt ∙ ap (λ n. counted n fault) same;
  }

  pub why_here : (fault : StoreFault) → (fault ≡ Down → ⊥) → (mid.doubt ≡ 0 → (config : Config) (s : State) → old.holds s → IsInvariant config s → mid.refusals ≡ counted old.refusals fault) → IsWhy old mid fault
  why_here fault other count = record { down = (λ e. absurd (other e), λ t. absurd (up t)); count = count }
