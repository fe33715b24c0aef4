-- The views after one more field.
use Rattle.std.proofs.Common.{◌≡◌, ℕ, Bool, true, false, cond, eqb, List, [], ◌∷◌, ◌++◌, reverse, ℤ, of_z, to_z, ◌<◌, ◌^◌, Option, None, Some, refl}
use Rattle.std.proofs.Common.{sym, ap, ◌∙◌, Result, Ok, Err, OnOk}
use Rattle.std.specs.List.{filter_map, cons_option}
use Rattle.std.specs.Int.{cast_signed, w32, w64}
use Rattle.std.proofs.lemmas.Int.{of_z-to_z}
use Rattle.std.proofs.lemmas.List.{append-nil, reverse-append}
use Rattle.std.proofs.lemmas.Grind.{flat_map-append}
use Rattle.pbmessage.specs.Fields.{fields_of}
use Rattle.std.proofs.lemmas.List.Elements.{filter_map-append}
use Rattle.pbwire.specs.declared.field.Field.{Field}
use Rattle.pbwire.specs.declared.field.Value.{Value}
use Rattle.pbwire.specs.Wire.{WireField, Part, Number, Eight, Payload, Four}
use Rattle.pbwire.specs.Reading.{wire_field_of, part_of}
use Rattle.pbmessage.specs.Views.{Views, Payloads, views, payload_of, number_of, member_of, last_or, with_payload, with_number, joined, no_views}
use Rattle.pbmessage.specs.Views.{one_of, last_run, run_at, is_present}
use Rattle.pbmessage.specs.facts.Rows.{none_either}
use Rattle.std.proofs.lemmas.Bool.{eq-eqb, eqb-true}

abbrev pub with_part : ℕ → Part → Views → Views
with_part k (Number x) v = with_number k x v
with_part k (Eight p) v = v
with_part k (Payload p) v = with_payload k p v
with_part k (Four p) v = v

pushed : {A B : Type 0} (f : A → Option B) (xs : List A) (x : A) (t : Bool) (y : B) → f x ≡ cond t (Some y) None
    → filter_map f (xs ++ x ∷ []) ≡ cond t (filter_map f xs ++ y ∷ []) (filter_map f xs)
pushed {A} {B} f xs x t y e = filter_map-append f xs (x ∷ []) ∙ ap (λ (o : Option B). filter_map f xs ++ cons_option o []) e ∙ by t
  where
    by : (t : Bool) → filter_map f xs ++ cons_option (cond t (Some y) None) [] ≡ cond t (filter_map f xs ++ y ∷ []) (filter_map f xs)
    by true = refl
    by false = append-nil (filter_map f xs)

unchanged : {A B : Type 0} (f : A → Option B) (xs : List A) (x : A) → f x ≡ None → filter_map f (xs ++ x ∷ []) ≡ filter_map f xs
unchanged {A} {B} f xs x e = filter_map-append f xs (x ∷ []) ∙ ap (λ (o : Option B). filter_map f xs ++ cons_option o []) e ∙ append-nil (filter_map f xs)

-- the views after one more field
pub views-push : (fs : List WireField) (k : ℕ) (part : Part) → views (fs ++ record { number = k; part = part } ∷ []) ≡ with_part k part (views fs)
unfolding views
views-push fs k (Number x) = λ i. record {
  payloads = λ n. unchanged (payload_of n) fs (record { number = k; part = Number x }) (none_either (eqb k n)) i;
  numbers = λ n. pushed (number_of n) fs (record { number = k; part = Number x }) (eqb k n) x refl i;
  members = λ test. unchanged (member_of test) fs (record { number = k; part = Number x }) (none_either (test k)) i;
}
views-push fs k (Eight p) = λ i. record {
  payloads = λ n. unchanged (payload_of n) fs (record { number = k; part = Eight p }) (none_either (eqb k n)) i;
  numbers = λ n. unchanged (number_of n) fs (record { number = k; part = Eight p }) (none_either (eqb k n)) i;
  members = λ test. unchanged (member_of test) fs (record { number = k; part = Eight p }) (none_either (test k)) i;
}
views-push fs k (Payload p) = λ i. record {
  payloads = λ n. pushed (payload_of n) fs (record { number = k; part = Payload p }) (eqb k n) p refl i;
  numbers = λ n. unchanged (number_of n) fs (record { number = k; part = Payload p }) (none_either (eqb k n)) i;
  members = λ test. pushed (member_of test) fs (record { number = k; part = Payload p }) (test k) (k, p) refl i;
}
views-push fs k (Four p) = λ i. record {
  payloads = λ n. unchanged (payload_of n) fs (record { number = k; part = Four p }) (none_either (eqb k n)) i;
  numbers = λ n. unchanged (number_of n) fs (record { number = k; part = Four p }) (none_either (eqb k n)) i;
  members = λ test. unchanged (member_of test) fs (record { number = k; part = Four p }) (none_either (test k)) i;
}

-- as `views-push`, for a field of the program
pub after_field : {V : Type 0} (of : Views → V) (fs : List WireField) (f : Field) (value : Value) → f.value ≡ value
    → of (with_part f.number (part_of value) (views fs)) ≡ of (views (fs ++ wire_field_of f ∷ []))
after_field of fs f value v = sym (ap (λ (e : WireField). of (views (fs ++ e ∷ []))) (λ i. record {
  number = f.number;
  part = part_of (v i);
}) ∙ ap of (views-push fs f.number (part_of value)))

pub last_after : {A : Type 0} (d : A) (xs : List A) (x : A) → last_or d (xs ++ x ∷ []) ≡ x
last_after d [] x = refl
last_after d (y ∷ ys) x = last_after y ys x

-- a number that is stored and read again
pub signed_kept : (n : ℕ) (r : ℤ) → r ≡ cast_signed w64 n → n < 2 ^ 64 → to_z w64 (of_z w64 r) ≡ cast_signed w64 n
signed_kept n r is lt = rw is (ap (cast_signed w64) (of_z-to_z w64 n lt))

pub signed_kept_32 : (n : ℕ) (r : ℤ) → r ≡ cast_signed w32 n → n < 2 ^ 32 → to_z w32 (of_z w32 r) ≡ cast_signed w32 n
signed_kept_32 n r is lt = rw is (ap (cast_signed w32) (of_z-to_z w32 n lt))

pub no_entries : views [] ≡ no_views
unfolding views
no_entries = refl

-- ---- a oneof

-- the payloads of the last run, if its number is k
abbrev pub run_before : ℕ → Option (ℕ × Payloads) → Payloads
run_before k None = []
run_before k (Some run) = cond (eqb run.0 k) run.1 []

abbrev Run : Type 0
Run = ℕ × List ℕ

abbrev run_of : ℕ → List Run → Payloads
run_of k ms = reverse (run_at k ms)

one_more : (k : ℕ) (p : List ℕ) (ms : List Run) → run_of k ((k, p) ∷ ms) ≡ run_of k ms ++ p ∷ []
one_more k p ms =
    ap (λ (b : Bool). reverse (cond b (p ∷ run_at k ms) [])) (eq-eqb k k refl)
    ∙ reverse-append (p ∷ []) (run_at k ms)

before : (k : ℕ) (ms : List Run) → run_of k ms ≡ run_before k (last_run ms)
before k [] = refl
before k (m ∷ ms) =
    elim (eqb m.0 k) as (λ b. eqb m.0 k ≡ b → run_of k (m ∷ ms) ≡ cond b (run_of m.0 (m ∷ ms)) []) [
      | true ↦ λ e. ap (λ (n : ℕ). run_of n (m ∷ ms)) (sym (eqb-true m.0 k e))
      | false ↦ λ e. ap (λ (b : Bool). reverse (cond b (m.1 ∷ run_at k ms) [])) e
    ] refl

-- the last run after one more member
pub one_of_push : (k : ℕ) (p : List ℕ) (ms : List Run) → one_of (ms ++ (k, p) ∷ []) ≡ Some (k, run_before k (one_of ms) ++ p ∷ [])
one_of_push k p ms =
    ap last_run (reverse-append ms ((k, p) ∷ []))
    ∙ ap (λ (ps : Payloads). Some (k, ps)) (one_more k p (reverse ms) ∙ ap (λ (ps : Payloads). ps ++ p ∷ []) (before k (reverse ms)))

pub joined-push : (ps : Payloads) (p : List ℕ) → joined (ps ++ p ∷ []) ≡ joined ps ++ fields_of p
joined-push ps p = flat_map-append fields_of ps (p ∷ []) ∙ ap (λ (es : List WireField). joined ps ++ es) (append-nil (fields_of p))

-- ---- presence, and facts after a success

pub present_after : (ps : Payloads) (p : List ℕ) → is_present (ps ++ p ∷ []) ≡ true
present_after [] p = refl
present_after (q ∷ qs) p = refl

-- a consequence of a fact after a success
pub then_ok : {X E : Type 0} {P Q : Type 0} (r : Result X E) → (P → Q) → OnOk r P → OnOk r Q
then_ok (Ok x) f p = f p
then_ok (Err e) f p = p
