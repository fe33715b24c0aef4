-- A row of volumes that passes is the row of a volume.
use Rattle.std.proofs.Common.{◌≡◌, ◌∙◌, refl, sym, ap, subst, ℕ, ◌≤◌, ◌<◌, ◌^◌, pos, negsuc, nat_le, nat_lt, bytes_eq, Bool, true, false, cond, ◌&&◌, List, [], ◌∷◌, map, Option, Some, None, IfSome, IsUtf8, arith}
use Rattle.std.specs.List.{AllByRecursion}
use Rattle.std.specs.Option.{option_and_then}
use Rattle.std.proofs.lemmas.Bool.{and_parts}
use Rattle.std.proofs.lemmas.Bool.Decides.{nat_tests}
use Rattle.std.proofs.lemmas.Slice.Eq.{bytes_eq-Decides}
use Rattle.std.proofs.lemmas.Str.{IsUtf8-from_is_utf8}
use Rattle.sqlite.specs.declared.types.Value.{Value}
use Rattle.sqlite.specs.declared.types.Value.TheVariants.{Null, Int, Real, Text, Blob}
use Rattle.sqlite.specs.Order.{Row, column}
use Rattle.csi_types.specs.Maps.{TextMap}
use Rattle.csi_types.specs.declared.limits.TheConstants.{MAX_NUMBER}
use Rattle.csi_config.specs.Faults.{is_whole}
use Rattle.csi_keeper.specs.declared.capability.CapKey.{CapKey}
use Rattle.csi_keeper.specs.declared.volume.Volume.{Volume}
use Rattle.csi_sql.specs.Rows.{number_value, seen_volume}
use Rattle.csi_sql.specs.Cells.{as_blob, as_number}
use Rattle.csi_columns.specs.Encoding.{caps_bytes, params_bytes, FitCaps, FitParams}
use Rattle.csi_columns.specs.Entries.{volume_entry}
use Rattle.csi_tables.specs.Holding.{IsStored}
use Rattle.csi_constraints.specs.Coded.{has_caps, has_params, keys_at, params_at}
use Rattle.csi_constraints.specs.Coding.{are_keys, are_params, keys_in, params_in}
use Rattle.csi_constraints.specs.Kinds.{has_volume_kinds, is_text}
use Rattle.csi_constraints.specs.Values.{if_passes, is_some_and}
use Rattle.csi_constraints.specs.Volumes.{is_numbered, is_sized}

-- ---- cells

-- the number of a cell
number_of : (test : ℕ → Bool) (v : Value) → is_some_and test (as_number v) ≡ true → (n : ℕ) × (v ≡ number_value n) × (test n ≡ true)
number_of test Null e = absurd (cc)
number_of test (Int (pos n)) e = (n, refl, e)
number_of test (Int (negsuc n)) e = absurd (cc)
number_of test (Real x) e = absurd (cc)
number_of test (Text t) e = absurd (cc)
number_of test (Blob b) e = absurd (cc)

-- the text of a cell
text_of : (v : Value) → is_text v ≡ true → (t : List ℕ) × (v ≡ Text t) × IsUtf8 t
text_of Null e = absurd (cc)
text_of (Int n) e = absurd (cc)
text_of (Real x) e = absurd (cc)
text_of (Text t) e = (t, refl, IsUtf8-from_is_utf8 t e)
text_of (Blob b) e = absurd (cc)

-- the bytes of a cell, and the value read from them
bytes_of : {A : Type 0} (read : List ℕ → Option A) (test : A → Bool) (v : Value) → is_some_and test (option_and_then read (as_blob v)) ≡ true → (b : List ℕ) × (a : A) × (v ≡ Blob b) × (read b ≡ Some a)
bytes_of read test Null e = absurd (cc)
bytes_of read test (Int n) e = absurd (cc)
bytes_of read test (Real x) e = absurd (cc)
bytes_of read test (Text t) e = absurd (cc)
bytes_of {A} read test (Blob b) e = go (read b) refl e
  where
    go : (o : Option A) → read b ≡ o → is_some_and test o ≡ true → (bs : List ℕ) × (a : A) × (Blob b ≡ Blob bs) × (read bs ≡ Some a)
    go None is e = absurd (cc)
    go (Some a) is e = (b, a, refl, is)

-- a value that is kept has passed the test
kept : {A : Type 0} (test : A → Bool) (o : Option A) (a : A) → if_passes test o ≡ Some a → test a ≡ true
kept test None a e = absurd (cc)
kept test (Some x) a e = go (test x) refl e
  where
    go : (b : Bool) → test x ≡ b → cond b (Some x) None ≡ Some a → test a ≡ true
    go true t h = let same : x ≡ a = cc in ap test (sym same) ∙ t
    go false t h = absurd (cc)

-- bytes that mean keys are the canonical bytes of the keys
caps_are : (b : List ℕ) (ks : List CapKey) → keys_in b ≡ Some ks → caps_bytes ks ≡ b
caps_are b ks e = (bytes_eq-Decides (caps_bytes ks) b).0 (kept (λ js. bytes_eq (caps_bytes js) b) _ ks e)

-- bytes that mean parameters are the canonical bytes of the parameters
params_are : (b : List ℕ) (ms : TextMap × TextMap) → params_in b ≡ Some ms → params_bytes ms.0 ms.1 ≡ b
params_are b ms e = (bytes_eq-Decides (params_bytes ms.0 ms.1) b).0 (kept (λ ns. bytes_eq (params_bytes ns.0 ns.1) b) _ ms e)

-- ---- a row

pub record IsEntry (row : Row) (e : ℕ × Volume) : Type 0 where
  pub cells : volume_entry e ≡ row
  pub stored : IsStored e

small : (n next : ℕ) → (nat_le 1 n && nat_lt n next) ≡ true → next ≤ MAX_NUMBER → n < 2 ^ 63
small n next e low = grind (arith, nat_tests)

pub row_entry : (format next : ℕ) → next ≤ MAX_NUMBER → (row r : Row) → row ≡ seen_volume r → has_volume_kinds row ≡ true → is_numbered next row ≡ true → is_sized row ≡ true → has_caps row ≡ true → has_params format row ≡ true
    → IfSome (keys_at 4 row) FitCaps → IfSome (params_at 5 row) (λ ms. FitParams ms.0 ms.1) → (e : ℕ × Volume) × IsEntry row e
row_entry format next low row r is kinds numbers sizes caps params fit_caps fit_params =
    let to_caps = and_parts _ _ kinds in
    let to_pool = and_parts _ _ to_caps.0 in
    let pool_is = and_parts _ _ to_pool.0 in
    let to_name = and_parts _ _ pool_is.0 in
    let name_is = and_parts _ _ to_name.0 in
    let number = number_of (λ n. nat_le 1 n && nat_lt n next) (column row 0) numbers in
    let name = text_of (column row 1) name_is.1 in
    let size = number_of is_whole (column row 2) sizes in
    let pool = text_of (column row 3) pool_is.1 in
    let cap = bytes_of keys_in are_keys (column row 4) caps in
    let param = bytes_of params_in (are_params format) (column row 5) params in
    let six : column row 0 ∷ column row 1 ∷ column row 2 ∷ column row 3 ∷ column row 4 ∷ column row 5 ∷ [] ≡ row = subst (λ x. column x 0 ∷ column x 1 ∷ column x 2 ∷ column x 3 ∷ column x 4 ∷ column x 5 ∷ [] ≡ x) (sym is) refl in
    let first = sym number.1 in
    let second = sym name.1 in
    let third = sym size.1 in
    let fourth = sym pool.1 in
    let fifth = ap Blob (caps_are cap.0 cap.1 cap.3) ∙ sym cap.2 in
    let sixth = ap Blob (params_are param.0 param.1 param.3) ∙ sym param.2 in (
      (number.0, record { number = number.0; name = name.0; bytes = size.0; pool = pool.0; caps = cap.1; params = param.1.0; mutable = param.1.1 }),
      record {
        cells = (λ i. first i ∷ second i ∷ third i ∷ fourth i ∷ fifth i ∷ sixth i ∷ []) ∙ six;
        stored = record {
          number = refl;
          small = small number.0 next number.2 low;
          name = name.2;
          pool = pool.2;
          caps = subst (λ o. IfSome o FitCaps) (ap (λ v. option_and_then keys_in (as_blob v)) cap.2 ∙ cap.3) fit_caps;
          params = subst (λ o. IfSome o (λ ms. FitParams ms.0 ms.1)) (ap (λ v. option_and_then params_in (as_blob v)) param.2 ∙ param.3) fit_params;
        };
      },
    )

-- ---- rows

pub record AreEntries (rows : List Row) (es : List (ℕ × Volume)) : Type 0 where
  pub listed : map volume_entry es ≡ rows
  pub stored : AllByRecursion IsStored es

pub rows_entries : (rows : List Row) → AllByRecursion (λ r. (e : ℕ × Volume) × IsEntry r e) rows → (es : List (ℕ × Volume)) × AreEntries rows es
rows_entries [] all = ([], record { listed = refl; stored = tt })
rows_entries (r ∷ rows) all =
    let here = all.0 in
    let rest = rows_entries rows all.1 in
    (here.0 ∷ rest.0, record { listed = λ i. here.1.cells i ∷ rest.1.listed i; stored = (here.1.stored, rest.1.stored) })
