-- A table of rows with rising numbers, written and read again: each number has the contents of its row.
use Rattle.std.proofs.Common.{◌≡◌, ℕ, ◌^◌, ◌<◌, Bool, true, false, cond, eqb, ltb, List, [], ◌∷◌, ◌++◌, map, length, Option, None, Some, refl, sym}
use Rattle.std.proofs.Common.{ap, subst, ◌∙◌, arith}
use Rattle.std.specs.Prelude.{nat_lt, ◌&&◌, ◌==◌, if◌then◌else◌}
use Rattle.std.specs.List.{filter_map, cons_option, AllByRecursion}
use Rattle.std.proofs.lemmas.List.{append-nil}
use Rattle.std.proofs.lemmas.Bool.{ltb-true, eqb-true}
use Rattle.std.proofs.lemmas.List.Elements.{filter_map-append}
use Rattle.pbwire.specs.Wire.{WireField, Number, Payload, FitsField}
use Rattle.pbwire.specs.Writing.{spellings}
use Rattle.pbmessage.specs.Schema.{GoodField}
use Rattle.pbmessage.specs.Fields.{Means}
use Rattle.pbmessage.specs.Views.{Views, Payloads, views, payload_of, number_of, member_of, value_of}
use Rattle.pbmessage.specs.Canon.{Row, Numbers, Strings, Rows, Start, ◌▸◌, payload_fields, number_fields, row_fields, fields, bytes_of, row_number}
use Rattle.pbmessage.specs.Canon.{above, rises}
use Rattle.pbmessage.specs.facts.Laws.{SpellingLaws}
use Rattle.pbmessage.specs.facts.Fields.{Reads, read_are}

-- the entries of a table
abbrev pub payloads_at : ℕ → Rows → Payloads
payloads_at n Start = []
payloads_at n (rs ▸ Numbers k xs) = payloads_at n rs
payloads_at n (rs ▸ Strings k ps) = if k == n then ps else payloads_at n rs

abbrev pub numbers_at : ℕ → Rows → List ℕ
numbers_at n Start = []
numbers_at n (rs ▸ Numbers k xs) = if k == n then xs else numbers_at n rs
numbers_at n (rs ▸ Strings k ps) = numbers_at n rs

abbrev pub members_at : (ℕ → Bool) → Rows → List (ℕ × List ℕ)
members_at t Start = []
members_at t (rs ▸ Numbers k xs) = members_at t rs
members_at t (rs ▸ Strings k ps) = if t k then members_at t rs ++ map (λ p. (k, p)) ps else members_at t rs

abbrev pub views_at : Rows → Views
views_at rs = record { payloads = λ n. payloads_at n rs; numbers = λ n. numbers_at n rs; members = λ t. members_at t rs }

-- ---- the fields of one row

both_so : (a b : Bool) → (a && b) ≡ true → (a ≡ true) × (b ≡ true)
both_so true b e = (refl, e)
both_so false b e = absurd cc

kept : {B : Type 0} (f : WireField → Option B) (g : List ℕ → B) (k : ℕ) (t : Bool) → ((p : List ℕ) → f (record {
  number = k;
  part = Payload p;
}) ≡ cond t (Some (g p)) None) → (ps : Payloads) → filter_map f (payload_fields k ps) ≡ cond t (map g ps) []
kept f g k true is [] = refl
kept f g k false is [] = refl
kept {B} f g k true is (p ∷ ps) = ap (λ (o : Option B). cons_option o (filter_map f (payload_fields k ps))) (is p)
    ∙ ap (λ (bs : List B). g p ∷ bs) (kept f g k true is ps)
kept {B} f g k false is (p ∷ ps) = ap (λ (o : Option B). cons_option o (filter_map f (payload_fields k ps))) (is p) ∙ kept f g k false is ps

map_itself : (ps : Payloads) → map (λ p. p) ps ≡ ps
map_itself [] = refl
map_itself (p ∷ ps) = ap (λ (qs : Payloads). p ∷ qs) (map_itself ps)

pub none_either : {A : Type 0} (t : Bool) → cond {A = Option A} t None None ≡ None
none_either true = refl
none_either false = refl

dropped : {B : Type 0} (f : WireField → Option B) (k : ℕ) → ((p : List ℕ) → f (record {
  number = k;
  part = Payload p;
}) ≡ None) → (ps : Payloads) → filter_map f (payload_fields k ps) ≡ []
dropped f k is [] = refl
dropped {B} f k is (p ∷ ps) = ap (λ (o : Option B). cons_option o (filter_map f (payload_fields k ps))) (is p) ∙ dropped f k is ps

kept_numbers : (n k : ℕ) (t : Bool) → eqb k n ≡ t → (xs : List ℕ) → filter_map (number_of n) (number_fields k xs) ≡ cond t xs []
kept_numbers n k true is [] = refl
kept_numbers n k false is [] = refl
kept_numbers n k true is (x ∷ xs) = ap (λ (b : Bool). cons_option (cond b (Some x) None) (filter_map (number_of n) (number_fields k xs))) is
    ∙ ap (λ (ys : List ℕ). x ∷ ys) (kept_numbers n k true is xs)
kept_numbers n k false is (x ∷ xs) = ap (λ (b : Bool). cons_option (cond b (Some x) None) (filter_map (number_of n) (number_fields k xs))) is
    ∙ kept_numbers n k false is xs

dropped_numbers : {B : Type 0} (f : WireField → Option B) (k : ℕ) → ((x : ℕ) → f (record {
  number = k;
  part = Number x;
}) ≡ None) → (xs : List ℕ) → filter_map f (number_fields k xs) ≡ []
dropped_numbers f k is [] = refl
dropped_numbers {B} f k is (x ∷ xs) = ap (λ (o : Option B). cons_option o (filter_map f (number_fields k xs))) (is x) ∙ dropped_numbers f k is xs

-- ---- one more row

skipped : {A : Type 0} (j k : ℕ) (here others : List A) → ltb j k ≡ true → others ≡ [] → (b : Bool) → eqb j k ≡ b → cond b here others ≡ []
skipped j k here others lt none true is = absurd (let below : j < k = ltb-true j k lt in let same : j ≡ k = eqb-true j k is in omega arith)
skipped j k here others lt none false is = none

none_below : (rs : Rows) (k : ℕ) → above rs k ≡ true → payloads_at k rs ≡ []
none_below Start k e = refl
none_below (rs ▸ Numbers j xs) k e = none_below rs k (both_so _ _ e).0
none_below (rs ▸ Strings j ps) k e = skipped j k ps (payloads_at k rs) (both_so _ _ e).1 (none_below rs k (both_so _ _ e).0) (eqb j k) refl

no_numbers_below : (rs : Rows) (k : ℕ) → above rs k ≡ true → numbers_at k rs ≡ []
no_numbers_below Start k e = refl
no_numbers_below (rs ▸ Strings j ps) k e = no_numbers_below rs k (both_so _ _ e).0
no_numbers_below (rs ▸ Numbers j xs) k e = skipped j k xs (numbers_at k rs) (both_so _ _ e).1 (no_numbers_below rs k (both_so _ _ e).0) (eqb j k) refl

-- the number of the row has the row, and any other number keeps its contents
placed : {A : Type 0} (b : Bool) (old new : List A) → (b ≡ true → old ≡ []) → old ++ cond b new [] ≡ cond b new old
placed {A} true old new none = ap (λ (xs : List A). xs ++ new) (none refl)
placed false old new none = append-nil old

appended : {A : Type 0} (b : Bool) (old new : List A) → old ++ cond b new [] ≡ cond b (old ++ new) old
appended true old new = refl
appended false old new = append-nil old

views_more : (es fs : List WireField) (a b : Views) → views es ≡ a → views fs ≡ b
    → views (es ++ fs) ≡ record {
      payloads = λ n. a.payloads n ++ b.payloads n;
      numbers = λ n. a.numbers n ++ b.numbers n;
      members = λ t. a.members t ++ b.members t;
    }
unfolding views
views_more es fs a b p q =
    (λ i. record {
      payloads = λ n. filter_map-append (payload_of n) es fs i;
      numbers = λ n. filter_map-append (number_of n) es fs i;
      members = λ t. filter_map-append (member_of t) es fs i;
    })
    ∙ (λ i. record {
      payloads = λ n. (p i).payloads n ++ (q i).payloads n;
      numbers = λ n. (p i).numbers n ++ (q i).numbers n;
      members = λ t. (p i).members t ++ (q i).members t;
    })

views_strings : (k : ℕ) (ps : Payloads) → views (payload_fields k ps) ≡ record {
  payloads = λ n. cond (eqb k n) ps [];
  numbers = λ n. [];
  members = λ t. cond (t k) (map (λ p. (k, p)) ps) [];
}
unfolding views
views_strings k ps = λ i. record {
  payloads = λ n. (kept (payload_of n) (λ p. p) k (eqb k n) (λ p. refl) ps ∙ ap (λ (qs : Payloads). cond (eqb k n) qs []) (map_itself ps)) i;
  numbers = λ n. dropped (number_of n) k (λ p. none_either (eqb k n)) ps i;
  members = λ t. kept (member_of t) (λ p. (k, p)) k (t k) (λ p. refl) ps i;
}

views_numbers : (k : ℕ) (xs : List ℕ) → views (number_fields k xs) ≡ record { payloads = λ n. []; numbers = λ n. cond (eqb k n) xs []; members = λ t. [] }
unfolding views
views_numbers k xs = λ i. record {
  payloads = λ n. dropped_numbers (payload_of n) k (λ x. none_either (eqb k n)) xs i;
  numbers = λ n. kept_numbers n k (eqb k n) refl xs i;
  members = λ t. dropped_numbers (member_of t) k (λ x. none_either (t k)) xs i;
}

views_start : views [] ≡ views_at Start
unfolding views
views_start = refl

-- the fields of a table have the views of the table
pub views_rows : (rs : Rows) → rises rs ≡ true → views (fields rs) ≡ views_at rs
unfolding row_fields
views_rows Start e = views_start
views_rows (rs ▸ Numbers k xs) e =
    let h = both_so (rises rs) (above rs k && (nat_lt 0 k && nat_lt k (2 ^ 29))) e in
    let up : above rs k ≡ true = (both_so (above rs k) (nat_lt 0 k && nat_lt k (2 ^ 29)) h.1).0 in
    views_more (fields rs) (number_fields k xs) (views_at rs) (record {
      payloads = λ n. [];
      numbers = λ n. cond (eqb k n) xs [];
      members = λ t. [];
    }) (views_rows rs h.0) (views_numbers k xs)
    ∙ (λ i. record {
      payloads = λ n. append-nil (payloads_at n rs) i;
      numbers = λ n. placed (eqb k n) (numbers_at n rs) xs (λ is. subst (λ (j : ℕ). numbers_at j rs ≡ []) (eqb-true k n is) (no_numbers_below rs k up)) i;
      members = λ t. append-nil (members_at t rs) i;
    })
views_rows (rs ▸ Strings k ps) e =
    let h = both_so (rises rs) (above rs k && (nat_lt 0 k && nat_lt k (2 ^ 29))) e in
    let up : above rs k ≡ true = (both_so (above rs k) (nat_lt 0 k && nat_lt k (2 ^ 29)) h.1).0 in
    views_more (fields rs) (payload_fields k ps) (views_at rs) (record {
      payloads = λ n. cond (eqb k n) ps [];
      numbers = λ n. [];
      members = λ t. cond (t k) (map (λ p. (k, p)) ps) [];
    }) (views_rows rs h.0) (views_strings k ps)
    ∙ (λ i. record {
      payloads = λ n. placed (eqb k n) (payloads_at n rs) ps (λ is. subst (λ (j : ℕ). payloads_at j rs ≡ []) (eqb-true k n is) (none_below rs k up)) i;
      numbers = λ n. append-nil (numbers_at n rs) i;
      members = λ t. appended (t k) (members_at t rs) (map (λ p. (k, p)) ps) i;
    })

-- ---- the bytes of a table are a list of good fields

-- numbers that a varint holds, and good payloads whose length a varint holds
abbrev pub FitsRow : (ℕ → List ℕ → Type 0) → Row → Type 0
FitsRow good (Numbers k xs) = AllByRecursion (λ x. x < 2 ^ 64) xs
FitsRow good (Strings k ps) = AllByRecursion (λ p. good k p × (length p < 2 ^ 64)) ps

abbrev pub FitsRows : (ℕ → List ℕ → Type 0) → Rows → Type 0
FitsRows good Start = Unit {0}
FitsRows good (rs ▸ r) = FitsRows good rs × FitsRow good r

abbrev Sound : (ℕ → List ℕ → Type 0) → WireField → Type 0
Sound good e = FitsField e × GoodField good e

pub all_append : {A : Type 0} (P : A → Type 0) (es fs : List A) → AllByRecursion P es → AllByRecursion P fs → AllByRecursion P (es ++ fs)
all_append P [] fs a b = b
all_append P (e ∷ es) fs a b = (a.0, all_append P es fs a.1 b)

sound_strings : (good : ℕ → List ℕ → Type 0) (k : ℕ) → 0 < k → k < 2 ^ 29 → (ps : Payloads) → FitsRow good (Strings k ps)
    → AllByRecursion (Sound good) (payload_fields k ps)
sound_strings good k low high [] h = tt
sound_strings good k low high (p ∷ ps) h = ((record { positive = omega arith; low = high; part = h.0.1 }, h.0.0), sound_strings good k low high ps h.1)

sound_numbers : (good : ℕ → List ℕ → Type 0) (k : ℕ) → 0 < k → k < 2 ^ 29 → (xs : List ℕ) → FitsRow good (Numbers k xs)
    → AllByRecursion (Sound good) (number_fields k xs)
sound_numbers good k low high [] h = tt
sound_numbers good k low high (x ∷ xs) h = ((record { positive = omega arith; low = high; part = h.0 }, tt), sound_numbers good k low high xs h.1)

sound_row : (good : ℕ → List ℕ → Type 0) (r : Row) → (nat_lt 0 (row_number r) && nat_lt (row_number r) (2 ^ 29)) ≡ true → FitsRow good r
    → AllByRecursion (Sound good) (row_fields r)
unfolding row_fields
sound_row good (Numbers k xs) e h = let b = both_so (nat_lt 0 k) (nat_lt k (2 ^ 29)) e in sound_numbers good k (ltb-true 0 k b.0) (ltb-true k (2 ^ 29) b.1) xs h
sound_row good (Strings k ps) e h = let b = both_so (nat_lt 0 k) (nat_lt k (2 ^ 29)) e in sound_strings good k (ltb-true 0 k b.0) (ltb-true k (2 ^ 29) b.1) ps h

sound_rows : (good : ℕ → List ℕ → Type 0) (rs : Rows) → rises rs ≡ true → FitsRows good rs → AllByRecursion (Sound good) (fields rs)
sound_rows good Start e h = tt
sound_rows good (rs ▸ r) e h =
    let a = both_so (rises rs) (above rs (row_number r) && (nat_lt 0 (row_number r) && nat_lt (row_number r) (2 ^ 29))) e in
    let b = both_so (above rs (row_number r)) (nat_lt 0 (row_number r) && nat_lt (row_number r) (2 ^ 29)) a.1 in
    all_append (Sound good) (fields rs) (row_fields r) (sound_rows good rs a.0 h.0) (sound_row good r b.1 h.1)

each_good : (good : ℕ → List ℕ → Type 0) (es : List WireField) → AllByRecursion (Sound good) es → AllByRecursion (GoodField good) es
each_good good [] a = tt
each_good good (e ∷ es) a = (a.0.1, each_good good es a.1)

spelled_read : SpellingLaws → (good : ℕ → List ℕ → Type 0) (es : List WireField) → AllByRecursion (Sound good) es → Reads es (spellings es) []
spelled_read l good [] a = refl
spelled_read l good (e ∷ es) a = (spellings es, l.again e (spellings es) a.0.0, spelled_read l good es a.1)

-- ---- the law of a table

-- the encoding of a value means the value
abbrev pub RoundTrip : {V : Type 0} → (ℕ → List ℕ → Type 0) → (Views → V) → (V → Rows) → V → Type 0
RoundTrip good of canon v = Means (GoodField good) (value_of of) (bytes_of (canon v)) v

pub rows_again : {V : Type 0} → SpellingLaws → (good : ℕ → List ℕ → Type 0) (of : Views → V) (rs : Rows) (v : V) → rises rs ≡ true → FitsRows good rs
    → of (views_at rs) ≡ v → Means (GoodField good) (value_of of) (bytes_of rs) v
rows_again l good of rs v up fit is =
    let sound = sound_rows good rs up fit in
    record {
      fields = fields rs;
      whole = read_are l.fields (fields rs) (bytes_of rs) (spelled_read l good (fields rs) sound);
      each = each_good good (fields rs) sound;
      is = sym (ap of (views_rows rs up) ∙ is);
    }
