-- The results of one read or several.
use Rattle.std.proofs.Common.{◌≡◌, ◌∙◌, sym, arith, subst, refl, ap, ℕ, List, Bool, true, false, is_some, Option, None, Some, Result, Ok}
use Rattle.csi_keeper.specs.Keeper.{Reads, count_after}
use Rattle.csi_keeper.specs.Model.{Model}
use Rattle.csi_keeper.specs.State.{State}
use Rattle.csi_keeper.specs.declared.change.StoreFault.{StoreFault}
use Rattle.csi_keeper.specs.facts.Reads.{if_ok, quiet_then}
use Rattle.csi_rules.specs.Down.{ReportsDown}
use Rattle.csi_keeper.specs.declared.capability.CapKey.{CapKey}
use Rattle.csi_keeper.specs.declared.volume.Volume.{Volume}
use Rattle.csi_rules.specs.Finding.{Finds, keys_found, number_found, numbered}

-- a consequence of the answer of a keeper that is down
reported_more : {X : Type 0} {P Q : X → Type 0} {is_down : Bool} (result : Result X StoreFault) → ((x : X) → P x → Q x) → ReportsDown is_down P result
    → ReportsDown is_down Q result
reported_more result f reported = record { down = reported.down; refused = reported.refused; unasked = λ is. if_ok f result (reported.unasked is) }

-- a consequence of a found value
pub found_as : {X : Type 0} {P Q : State → X → Type 0} {a b : Model State} {result : Result X StoreFault} → ((s : State) (x : X) → P s x → Q s x)
    → Finds a b result P → Finds a b result Q
found_as {result = result} f found = record {
  value = if_ok (λ x reported d s h. f s x (reported d s h)) result found.value;
  quiet = found.quiet;
  count = found.count;
  down = reported_more result (λ x so s. f s x (so s)) found.down;
}

-- a value made from a found value
pub found_so : {X Y : Type 0} {P : State → X → Type 0} {Q : State → Y → Type 0} {a b : Model State} {x : X} {y : Y} → Finds a b (Ok x) P
    → ((s : State) → P s x → Q s y) → Finds a b (Ok y) Q
found_so found f = record {
  value = λ d s h. f s (found.value d s h);
  quiet = found.quiet;
  count = found.count;
  down = record { down = λ e. absurd (cc); refused = λ e. absurd (cc); unasked = λ is s. f s (found.down.unasked is s) };
}

-- a read after a read
pub found_then : {X Y : Type 0} {P : State → X → Type 0} {Q R : State → Y → Type 0} {a b c : Model State} {x : X} {result : Result Y StoreFault}
    → Finds a b (Ok x) P → Finds b c result Q
    → ((s : State) → P s x → (y : Y) → Q s y → R s y) → Finds a c result R
found_then {a = a} {b = b} {c = c} {result = result} read found f =
    let mid : c.doubt ≡ 0 → b.doubt ≡ 0 = λ d. let clean = found.quiet.clean in omega (arith, clean, d) in
    record {
      value = if_ok (λ y reported d s h. f s (read.value (mid d) s h) y (reported d s (read.quiet.state (mid d) s h))) result found.value;
      quiet = quiet_then read.quiet found.quiet;
      count = subst (λ n. c.refusals ≡ count_after n result) read.count found.count;
      down = record {
        down = λ is. sym read.quiet.down ∙ found.down.down is;
        refused = λ is. sym read.quiet.down ∙ found.down.refused is;
        unasked = λ is. if_ok (λ y so s. f s (read.down.unasked is s) y (so s)) result (found.down.unasked (read.quiet.down ∙ is));
      };
    }

-- a read that answers
pub read_found : {X : Type 0} {P : State → X → Type 0} {a b : Model State} {x : X} → Reads a b (Ok x) P → Finds a b (Ok x) P
read_found {a = a} read = record {
  value = read.value;
  quiet = read.quiet;
  count = read.count;
  down = record { down = λ e. absurd (cc); refused = λ e. absurd (cc); unasked = λ is s. absurd (let no = read.down.1 is in cc (no)) };
}

-- no keys, no volume
pub none_found : (o : Option (ℕ × Volume)) → keys_found o ≡ None → o ≡ None
none_found None none = refl
none_found (Some found) none = absurd (cc)

-- a fact about a volume, from its number and the keys found for it
pub keys_so : {Y : Type 0} (f : Option (ℕ × Volume) → Y) (g : ℕ → List CapKey → Y) (o : Option (ℕ × Volume)) (n : ℕ) (keys : List CapKey)
    → ((m : ℕ) (v : Volume) → f (Some (m, v)) ≡ g m v.caps) → Some (n, keys) ≡ keys_found o → g n keys ≡ f o
keys_so f g None n keys so is = absurd (cc)
keys_so {Y} f g (Some found) n keys so is = ap (λ (e : ℕ × List CapKey). g e.0 e.1) (same (n, keys) (found.0, found.1.caps) is) ∙ sym (so found.0 found.1)
  where
    same : (x y : ℕ × List CapKey) → Some x ≡ Some y → x ≡ y
    same x y e = cc

-- the number of a volume that exists, and of a volume that does not
pub number_has : (n : ℕ) (o : Option Volume) → true ≡ is_some o → Some n ≡ number_found (numbered n o)
number_has n None has = absurd (cc)
number_has n (Some v) has = refl

pub number_none : (n : ℕ) (o : Option Volume) → false ≡ is_some o → None ≡ number_found (numbered n o)
number_none n None none = refl
number_none n (Some v) none = absurd (cc)

-- no number, no volume
pub none_numbered : (o : Option (ℕ × Volume)) → number_found o ≡ None → o ≡ None
none_numbered None none = refl
none_numbered (Some found) none = absurd (cc)

-- a fact about a volume, from the number found for it
pub number_so : {Y : Type 0} (f : Option (ℕ × Volume) → Y) (g : ℕ → Y) (o : Option (ℕ × Volume)) (n : ℕ)
    → ((m : ℕ) (v : Volume) → f (Some (m, v)) ≡ g m) → Some n ≡ number_found o → g n ≡ f o
number_so f g None n so is = absurd (cc)
number_so {Y} f g (Some found) n so is = ap g (same n found.0 is) ∙ sym (so found.0 found.1)
  where
    same : (x y : ℕ) → Some x ≡ Some y → x ≡ y
    same x y e = cc
