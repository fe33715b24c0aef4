-- The values in the cells of an attachment's row, and how SQL compares them.
use Rattle.std.proofs.Common.{◌≡◌, ◌∙◌, refl, sym, ap, zero, suc, ℕ, ℤ, pos, negsuc, cond, Bool, true, false, List, [], ◌∷◌, Option, Some, None, IsUtf8, bytes_eq, Less, is_eq}
use Rattle.std.specs.Cmp.{int_cmp_total}
use Rattle.std.specs.Cmp.Lexicographic.{nat_list_cmp_total}
use Rattle.std.specs.FinMap.{int_cmp-IsAntisymmetric}
use Rattle.std.specs.Option.{is_some, option_and_then}
use Rattle.std.specs.Ordering.{int_cmp, is_ne}
use Rattle.std.proofs.lemmas.Cmp.{tied_itself}
use Rattle.std.proofs.lemmas.Slice.Eq.{bytes_eq-Decides}
use Rattle.std.proofs.lemmas.Str.{IsUtf8-from_is_utf8}
use Rattle.sqlite.specs.Ops.{binary, is_true, from_truth}
use Rattle.sqlite.specs.Order.{value_cmp}
use Rattle.sqlite.specs.View.{is_int}
use Rattle.sqlite.specs.declared.types.Value.{Value}
use Rattle.sqlite.specs.declared.types.Value.TheVariants.{Null, Int, Real, Text, Blob}
use Rattle.sqlite_schema.specs.Rules.{differ, equal}
use Rattle.sqlite_value.specs.declared.keys.Collation.TheVariants.{Binary}
use Rattle.sqlite_value.proofs.OrderLemmas.{value_cmp-Int, value_cmp-Text}
use Rattle.csi_keeper.specs.declared.capability.CapKey.{CapKey}
use Rattle.csi_keeper.specs.facts.Finite.{tied}
use Rattle.csi_sql.specs.Cells.{as_blob, as_flag}
use Rattle.csi_sql.specs.Deletes.{is_same}
use Rattle.csi_sql.specs.Rows.{bool_value, number_value}
use Rattle.csi_columns.specs.Encoding.{caps_bytes}
use Rattle.csi_constraints.specs.Coding.{key_in, message_in, each_key, only}
use Rattle.csi_constraints.specs.Kinds.{is_integer, is_text}
use Rattle.csi_constraints.specs.Values.{if_passes, is_some_and}

truth_test : (b : Bool) → is_true (from_truth (Some b)) ≡ b
truth_test true = refl
truth_test false = refl

-- ---- numbers

same_integers : (a b : ℤ) → is_same (Int a) (Int b) ≡ is_eq (int_cmp a b)
unfolding binary
same_integers a b = truth_test (is_eq (value_cmp (Int a) (Int b))) ∙ ap is_eq (value_cmp-Int a b)

-- an integer that SQL calls equal to a number is that number
pub is_number : (n : ℕ) (v : Value) → is_integer v ≡ true → is_same (number_value n) v ≡ true → v ≡ number_value n
is_number n Null kind same = absurd (cc)
is_number n (Int z) kind same = ap Int (sym (int_cmp-IsAntisymmetric (pos n) z (tied _ (sym (same_integers (pos n) z) ∙ same))))
is_number n (Real x) kind same = absurd (cc)
is_number n (Text t) kind same = absurd (cc)
is_number n (Blob b) kind same = absurd (cc)

pub same_number : (n m : ℕ) → is_same (number_value n) (number_value m) ≡ true → m ≡ n
same_number n m same = ap nat_of (is_number n (number_value m) refl same)
  where
    nat_of : Value → ℕ
    nat_of (Int (pos k)) = k
    nat_of _ = 0

pub number_itself : (n : ℕ) → is_same (number_value n) (number_value n) ≡ true
number_itself n = same_integers (pos n) (pos n) ∙ ap is_eq (tied_itself int_cmp_total (pos n))

-- two rowids differ if one is less
pub are_different : (v w : Value) → is_int v ≡ true → is_int w ≡ true → value_cmp v w ≡ Less → differ v w ≡ true
unfolding binary
are_different (Int a) (Int b) left right less = truth_test (is_ne (value_cmp (Int a) (Int b))) ∙ ap is_ne less
are_different Null w left right less = absurd (cc)
are_different (Real x) w left right less = absurd (cc)
are_different (Text t) w left right less = absurd (cc)
are_different (Blob b) w left right less = absurd (cc)
are_different (Int a) Null left right less = absurd (cc)
are_different (Int a) (Real x) left right less = absurd (cc)
are_different (Int a) (Text t) left right less = absurd (cc)
are_different (Int a) (Blob b) left right less = absurd (cc)

pub equal_numbers : (n : ℕ) → equal Binary (number_value n) (number_value n) ≡ true
equal_numbers n = number_itself n

-- ---- texts

pub equal_texts : (t : List ℕ) → equal Binary (Text t) (Text t) ≡ true
unfolding binary
equal_texts t = truth_test (is_eq (value_cmp (Text t) (Text t))) ∙ ap is_eq (value_cmp-Text t t ∙ tied_itself nat_list_cmp_total t)

pub text_cell : (v : Value) → is_text v ≡ true → (t : List ℕ) × (v ≡ Text t) × IsUtf8 t
text_cell Null kind = absurd (cc)
text_cell (Int n) kind = absurd (cc)
text_cell (Real x) kind = absurd (cc)
text_cell (Text t) kind = (t, refl, IsUtf8-from_is_utf8 t kind)
text_cell (Blob b) kind = absurd (cc)

-- ---- truths

is_given : {A : Type 0} (o : Option A) → is_some o ≡ true → (a : A) × (o ≡ Some a)
is_given None some = absurd (cc)
is_given (Some a) some = (a, refl)

flag_is : (v : Value) (b : Bool) → as_flag v ≡ Some b → v ≡ bool_value b
flag_is Null b e = absurd (cc)
flag_is (Int (pos zero)) b e = let same : false ≡ b = cc in ap bool_value same
flag_is (Int (pos (suc zero))) b e = let same : true ≡ b = cc in ap bool_value same
flag_is (Int (pos (suc (suc n)))) b e = absurd (cc)
flag_is (Int (negsuc n)) b e = absurd (cc)
flag_is (Real x) b e = absurd (cc)
flag_is (Text t) b e = absurd (cc)
flag_is (Blob t) b e = absurd (cc)

pub flag_cell : (v : Value) → is_some (as_flag v) ≡ true → (b : Bool) × (as_flag v ≡ Some b) × (v ≡ bool_value b)
flag_cell v some = let b = is_given (as_flag v) some in (b.0, b.1, flag_is v b.0 b.1)

-- ---- capabilities

only_is : (ks : List CapKey) (k : CapKey) → only ks ≡ Some k → ks ≡ k ∷ []
only_is [] k e = absurd (cc)
only_is (j ∷ []) k e = let same : j ≡ k = cc in ap (λ x. x ∷ []) same
only_is (j ∷ i ∷ ks) k e = absurd (cc)

bytes_of : (bytes : List ℕ) (k : CapKey) (o : Option (List CapKey)) → option_and_then only (if_passes (λ ks. bytes_eq (caps_bytes ks) bytes) o) ≡ Some k → bytes ≡ caps_bytes (k ∷ [])
bytes_of bytes k None e = absurd (cc)
bytes_of bytes k (Some ks) e = go (bytes_eq (caps_bytes ks) bytes) refl e
  where
    go : (b : Bool) → bytes_eq (caps_bytes ks) bytes ≡ b → option_and_then only (cond b (Some ks) None) ≡ Some k → bytes ≡ caps_bytes (k ∷ [])
    go false is e = absurd (cc)
    go true is e = sym ((bytes_eq-Decides (caps_bytes ks) bytes).0 is) ∙ ap caps_bytes (only_is ks k e)

-- bytes that mean one key are its canonical bytes
key_is : (v : Value) (k : CapKey) → option_and_then key_in (as_blob v) ≡ Some k → v ≡ Blob (caps_bytes (k ∷ []))
key_is Null k e = absurd (cc)
key_is (Int n) k e = absurd (cc)
key_is (Real x) k e = absurd (cc)
key_is (Text t) k e = absurd (cc)
key_is (Blob bytes) k e = ap Blob (bytes_of bytes k (option_and_then (λ v. each_key v.capabilities) (message_in bytes)) e)

is_passing : {A : Type 0} (test : A → Bool) (o : Option A) → is_some_and test o ≡ true → (a : A) × (o ≡ Some a) × (test a ≡ true)
is_passing test None good = absurd (cc)
is_passing test (Some a) good = (a, refl, good)

pub key_cell : (test : CapKey → Bool) (v : Value) → is_some_and test (option_and_then key_in (as_blob v)) ≡ true
    → (k : CapKey) × (option_and_then key_in (as_blob v) ≡ Some k) × (v ≡ Blob (caps_bytes (k ∷ []))) × (test k ≡ true)
key_cell test v good = let k = is_passing test (option_and_then key_in (as_blob v)) good in (k.0, k.1, key_is v k.0 k.1, k.2)
