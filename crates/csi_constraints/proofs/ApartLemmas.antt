-- One attachment that represents all attachments of its volume, over one more row.
use Rattle.std.proofs.Common.{◌≡◌, ◌∙◌, refl, sym, ap, ap₂, ℕ, ℤ, int_lt, ◌==◌, ◌&&◌, ◌||◌, not, Bool, true, false, true≢false, cond, List, [], ◌∷◌, ◌++◌, Option, Some, None, eq-eqb, eqb-true, inl}
use Rattle.std.specs.List.{AllByRecursion, list_any}
use Rattle.std.specs.Option.{is_some, option_map, option_or}
use Rattle.std.specs.Ordering.{int_eq, is_eq}
use Rattle.std.specs.declared.cmp.Ordering.TheVariants.{Less, Equal, Greater}
use Rattle.std.proofs.lemmas.Bool.{and_from, and_parts}
use Rattle.std.proofs.lemmas.Bool.Decides.{Decides-int_eq}
use Rattle.std.proofs.lemmas.List.{append-nil, append_assoc}
use Rattle.sqlite.specs.Order.{Row, column}
use Rattle.sqlite_rules.specs.Lists.{Has}
use Rattle.sqlite_rules.proofs.ListLemmas.{all_from, all_has, has_left, has_right, some_from}
use Rattle.sqlite_trees.proofs.ListLemmas.{all-append, all_weaker}
use Rattle.csi_keeper.specs.Coexistence.{coexist, is_shared}
use Rattle.csi_keeper.specs.declared.volume.Attachment.{Attachment}
use Rattle.csi_constraints.specs.Folds.{as_integer}
use Rattle.csi_constraints.specs.facts.Fronts.{ascending_front}
use Rattle.csi_constraints.specs.Apart.{admits, apart_named, are_apart, can_coexist, falls, first_apart, is_written, last_attachment_at, covers, AreCovered, DoNotFall, IsLed, Leads}
use Rattle.csi_constraints.specs.Joins.{attached_at}
use Rattle.csi_constraints.specs.Named.{name_of}
use Rattle.csi_constraints.specs.Values.{are_some_and, is_some_and}
use Rattle.csi_constraints.specs.declared.apart.LastAttachment.{LastAttachment}
use Rattle.csi_constraints.specs.declared.named.RowName.{RowName}
use Rattle.csi_constraints.specs.facts.Aparts.{none_of}

-- ---- which attachments represent others

or_first : (a b : Bool) → a ≡ true → (a || b) ≡ true
or_first true b e = refl
or_first false b e = absurd (true≢false (sym e))

or_second : (a b : Bool) → a ≡ false → (a || b) ≡ true → b ≡ true
or_second true b is e = absurd (true≢false is)
or_second false b is e = e

or_later : (a b : Bool) → b ≡ true → (a || b) ≡ true
or_later true b e = refl
or_later false b e = e

shared_more : (m : ℕ) (r s : Bool) → (r ≡ true → s ≡ true) → is_shared m r ≡ true → is_shared m s ≡ true
shared_more m true s more e = ap (is_shared m) (more refl) ∙ e
shared_more m false true more e = go (m == 3) (m == 5) (m == 4) e
  where
    go : (a b d : Bool) → (a || b || (d && false)) ≡ true → (a || b || (d && true)) ≡ true
    go true b d e = refl
    go false true d e = refl
    go false false true e = refl
    go false false false e = e
shared_more m false false more e = e

coexist_more : (x y z : Attachment) → x.cap.mode ≡ y.cap.mode → ((x.readonly || z.readonly) ≡ true → (y.readonly || z.readonly) ≡ true) → coexist x z ≡ true → coexist y z ≡ true
coexist_more x y z same more e =
    let both = and_parts (x.cap.mode == z.cap.mode) (is_shared x.cap.mode (x.readonly || z.readonly)) e in
    and_from (y.cap.mode == z.cap.mode) (is_shared y.cap.mode (y.readonly || z.readonly))
    (eq-eqb _ _ (sym same ∙ eqb-true _ _ both.0))
    (ap (λ m. is_shared m (y.readonly || z.readonly)) (sym same) ∙ shared_more x.cap.mode (x.readonly || z.readonly) (y.readonly || z.readonly) more both.1)

same_mode : (x y : Attachment) → coexist x y ≡ true → x.cap.mode ≡ y.cap.mode
same_mode x y e = eqb-true _ _ (and_parts (x.cap.mode == y.cap.mode) (is_shared x.cap.mode (x.readonly || y.readonly)) e).0

flipped : (b : Bool) → not b ≡ true → b ≡ false
flipped true e = sym e
flipped false e = refl

unflipped : (b : Bool) → not b ≡ false → b ≡ true
unflipped true e = refl
unflipped false e = sym e

-- a volume with a writer represents the attachments that can coexist with it
written_leads : (a b : Option Attachment) → can_coexist a b ≡ true → is_written a ≡ true → Leads a b
written_leads None b e w c h = absurd (cc)
written_leads (Some x) None e w c h = absurd (cc)
written_leads (Some x) (Some y) e w None h = absurd (cc)
written_leads (Some x) (Some y) e w (Some z) h =
    coexist_more x y z (same_mode x y e) (λ r. or_later y.readonly z.readonly (or_second x.readonly z.readonly (flipped x.readonly w) r)) h

-- any attachment represents a read-only attachment that can coexist with it
read_led : (a b : Option Attachment) → can_coexist a b ≡ true → is_written a ≡ false → Leads b a
read_led None b e w c h = absurd (cc)
read_led (Some x) None e w c h = absurd (cc)
read_led (Some x) (Some y) e w None h = absurd (cc)
read_led (Some x) (Some y) e w (Some z) h =
    coexist_more y x z (sym (same_mode x y e)) (λ r. or_first x.readonly z.readonly (unflipped x.readonly w)) h

-- ---- numbers

equal_is : (m n : ℤ) → int_eq m n ≡ true → m ≡ n
equal_is m n e = (Decides-int_eq m n).0 e

is_equal : (m n : ℤ) → m ≡ n → int_eq m n ≡ true
is_equal m n e = (Decides-int_eq m n).1 e

-- an integer that is neither below nor above another is the same integer
neither_way : (m n : ℤ) → int_lt m n ≡ false → int_lt n m ≡ false → int_eq m n ≡ true
neither_way m n low high = ap (λ b. is_eq (cond b Less (cond (int_lt n m) Greater Equal))) low ∙ ap (λ b. is_eq (cond b Greater Equal)) high

not_itself : (m n : ℤ) → int_eq m n ≡ true → int_lt m n ≡ false
not_itself m n e = go (int_lt m n) refl
  where
    go : (b : Bool) → int_lt m n ≡ b → int_lt m n ≡ false
    go true is = absurd (true≢false (sym e ∙ ap (λ b. is_eq (cond b Less (cond (int_lt n m) Greater Equal))) is))
    go false is = is

-- ---- the first row that is apart, over one row more

first_apart-push : (earlier rows : List Row) (r : Row) → first_apart earlier (rows ++ r ∷ []) ≡ option_or (first_apart earlier rows) (cond (list_any (λ e. are_apart e r) (earlier ++ rows)) (Some r) None)
first_apart-push earlier [] r = ap (λ es. cond (list_any (λ e. are_apart e r) es) (Some r) None) (sym (append-nil earlier))
first_apart-push earlier (x ∷ rows) r =
    go (list_any (λ e. are_apart e x) earlier)
    (first_apart-push (earlier ++ x ∷ []) rows r ∙ ap (λ es. option_or (first_apart (earlier ++ x ∷ []) rows) (cond (list_any (λ e. are_apart e r) es) (Some r) None)) (append_assoc earlier (x ∷ []) rows))
  where
    more : Option Row
    more = cond (list_any (λ e. are_apart e r) (earlier ++ x ∷ rows)) (Some r) None

    go : (b : Bool) → first_apart (earlier ++ x ∷ []) (rows ++ r ∷ []) ≡ option_or (first_apart (earlier ++ x ∷ []) rows) (cond (list_any (λ e. are_apart e r) (earlier ++ x ∷ rows)) (Some r) None)
        → cond b (Some x) (first_apart (earlier ++ x ∷ []) (rows ++ r ∷ [])) ≡ option_or (cond b (Some x) (first_apart (earlier ++ x ∷ []) rows)) (cond (list_any (λ e. are_apart e r) (earlier ++ x ∷ rows)) (Some r) None)
    go true rest = refl
    go false rest = rest

or_chosen : (o : Option Row) (b : Bool) (r : Row) → option_map (name_of 0 1) (option_or o (cond b (Some r) None)) ≡ option_or (option_map (name_of 0 1) o) (cond b (Some (name_of 0 1 r)) None)
or_chosen None true r = refl
or_chosen None false r = refl
or_chosen (Some x) true r = refl
or_chosen (Some x) false r = refl

named-push : (rows : List Row) (r : Row) → apart_named (rows ++ r ∷ []) ≡ option_or (apart_named rows) (cond (list_any (λ e. are_apart e r) rows) (Some (name_of 0 1 r)) None)
named-push rows r = ap (option_map (name_of 0 1)) (first_apart-push [] rows r) ∙ or_chosen (first_apart [] rows) (list_any (λ e. are_apart e r) rows) r

-- a found row stays
pub still_apart : (rows : List Row) (r : Row) (found : Option RowName) → is_some found ≡ true → found ≡ apart_named rows → found ≡ apart_named (rows ++ r ∷ [])
still_apart rows r None some is = absurd (cc)
still_apart rows r (Some name) some is = ap (λ o. option_or o (cond (list_any (λ e. are_apart e r) rows) (Some (name_of 0 1 r)) None)) is ∙ sym (named-push rows r)

-- if no row was found, the row is named if it is apart from an earlier row
pub now_apart : (rows : List Row) (r : Row) (b : Bool) → None ≡ apart_named rows → list_any (λ e. are_apart e r) rows ≡ b → cond b (Some (name_of 0 1 r)) None ≡ apart_named (rows ++ r ∷ [])
now_apart rows r b none is =
    ap (λ t. cond t (Some (name_of 0 1 r)) None) (sym is) ∙ ap (λ o. option_or o (cond (list_any (λ e. are_apart e r) rows) (Some (name_of 0 1 r)) None)) none ∙ sym (named-push rows r)

-- ---- rows in order

pub fall_front : (rows : List Row) (r : Row) → DoNotFall (rows ++ r ∷ []) → DoNotFall rows × AllByRecursion (λ e. falls e r ≡ false) rows
fall_front rows r up = ascending_front (λ a b. falls a b ≡ false) rows r up

-- ---- one row more

pub led_is : (r : Row) (next : LastAttachment) → last_attachment_at r ≡ Some next → (as_integer (column r 0) ≡ Some next.number) × (attached_at 2 3 r ≡ next.attachment)
led_is r next is = go (as_integer (column r 0)) refl is
  where
    go : (o : Option ℤ) → as_integer (column r 0) ≡ o → Path (Option LastAttachment) (option_map (λ n. record { number = n; attachment = attached_at 2 3 r }) o) (Some next) → (as_integer (column r 0) ≡ Some next.number) × (attached_at 2 3 r ≡ next.attachment)
    go None e is = absurd (cc)
    go (Some n) e is =
        let same : Path LastAttachment (record { number = n; attachment = attached_at 2 3 r }) next = cc in
        (e ∙ ap (λ (l : LastAttachment). Some l.number) same, ap (λ (l : LastAttachment). l.attachment) same)

pub not_led : (r : Row) → last_attachment_at r ≡ None → as_integer (column r 0) ≡ None
not_led r is = go (as_integer (column r 0)) is
  where
    go : (o : Option ℤ) → Path (Option LastAttachment) (option_map (λ n. record { number = n; attachment = attached_at 2 3 r }) o) None → o ≡ None
    go None is = refl
    go (Some n) is = absurd (cc)

none_given : {A : Type 0} (test : A → A → Bool) (o : Option A) → are_some_and test o None ≡ false
none_given test None = refl
none_given test (Some x) = refl

-- a row without a number is apart from no row
pub no_number : (rows : List Row) (r : Row) → as_integer (column r 0) ≡ None → list_any (λ e. are_apart e r) rows ≡ false
no_number rows r none = none_of (λ e. are_apart e r) rows (all_from (λ e. are_apart e r ≡ false) rows (λ e has.
    ap (λ o. are_some_and int_eq (as_integer (column e 0)) o && not (can_coexist (attached_at 2 3 e) (attached_at 2 3 r))) none
    ∙ ap (λ b. b && not (can_coexist (attached_at 2 3 e) (attached_at 2 3 r))) (none_given int_eq (as_integer (column e 0)))))

-- the representative of the earlier rows stays after a row without a number
pub led_without : (last : Option LastAttachment) (rows : List Row) (r : Row) → as_integer (column r 0) ≡ None → AreCovered last rows → AreCovered last (rows ++ r ∷ [])
led_without None rows r none led = all-append (λ x. as_integer (column x 0) ≡ None) rows (r ∷ []) led (none, tt)
led_without (Some l) rows r none led = record {
  last = all-append _ rows (r ∷ []) led.last (ap (is_some_and (int_lt l.number)) none, tt);
  leads = all-append _ rows (r ∷ []) led.leads (λ some. absurd (no_some l.number (sym none ∙ some)), tt);
  row = led.row;
  has = has_left rows (r ∷ []) led.row led.has;
  of = led.of;
  is = led.is;
}
  where
    no_some : (n : ℤ) → Path (Option ℤ) None (Some n) → ⊥
    no_some n e = absurd (cc)

module _ (rows : List Row) (r : Row) (next : LastAttachment) (number : as_integer (column r 0) ≡ Some next.number) (says : attached_at 2 3 r ≡ next.attachment) (order : AllByRecursion (λ e. falls e r ≡ false) rows) where
  -- if the last volume is not the volume of the row, no earlier volume is
  earlier : (l : LastAttachment) → IsLed l rows → int_eq l.number next.number ≡ false → (e : Row) → Has rows e → as_integer (column e 0) ≡ Some next.number → ⊥
  earlier l led other e has is =
      let high : int_lt next.number l.number ≡ false =
      ap₂ (λ x y. are_some_and (λ m n. int_lt n m) x y) (sym led.of) (sym number) ∙ all_has (λ e. falls e r ≡ false) rows led.row order led.has in
      let low : int_lt l.number next.number ≡ false =
      ap (is_some_and (int_lt l.number)) (sym is) ∙ all_has (λ r. is_some_and (int_lt l.number) (as_integer (column r 0)) ≡ false) rows e led.last has in
      true≢false (sym (neither_way l.number next.number low high) ∙ other)

  apart_by : (e : Row) (o : Option ℤ) (b : Bool) → as_integer (column e 0) ≡ o → are_some_and int_eq o (Some next.number) ≡ b → are_apart e r ≡ (b && not (can_coexist (attached_at 2 3 e) next.attachment))
  apart_by e o b is test =
      ap₂ (λ x y. are_some_and int_eq x y && not (can_coexist (attached_at 2 3 e) (attached_at 2 3 r))) is number
      ∙ ap₂ (λ x y. x && not (can_coexist (attached_at 2 3 e) y)) test says

  far_each : (last : Option LastAttachment) → AreCovered last rows → admits last next ≡ true → (e : Row) → Has rows e → are_apart e r ≡ false
  far_each None led fine e has = apart_by e None false (all_has (λ x. as_integer (column x 0) ≡ None) rows e led has) refl
  far_each (Some l) led fine e has = go (as_integer (column e 0)) refl (int_eq l.number next.number) refl
    where
      same : (k : ℤ) → as_integer (column e 0) ≡ Some k → int_eq l.number next.number ≡ true → int_eq k next.number ≡ true → are_apart e r ≡ false
      same k is one two =
          let beside : can_coexist l.attachment next.attachment ≡ true = or_second (not (int_eq l.number next.number)) _ (ap not one) fine in
          let number : k ≡ l.number = equal_is k next.number two ∙ sym (equal_is l.number next.number one) in
          let leads = all_has (λ r. as_integer (column r 0) ≡ Some l.number → Leads l.attachment (attached_at 2 3 r)) rows e led.leads has (is ∙ ap Some number) in
          apart_by e (Some k) true is two ∙ ap not (leads next.attachment beside)

      by_number : (k : ℤ) → as_integer (column e 0) ≡ Some k → (b : Bool) → int_eq l.number next.number ≡ b → (d : Bool) → int_eq k next.number ≡ d → are_apart e r ≡ false
      by_number k is b one false two = apart_by e (Some k) false is two
      by_number k is true one true two = same k is one two
      by_number k is false one true two = absurd (earlier l led one e has (is ∙ ap Some (equal_is k next.number two)))

      go : (o : Option ℤ) → as_integer (column e 0) ≡ o → (b : Bool) → int_eq l.number next.number ≡ b → are_apart e r ≡ false
      go None is b one = apart_by e None false is refl
      go (Some k) is b one = by_number k is b one (int_eq k next.number) refl

  -- an admitted row conflicts with no other
  pub far_from_all : (last : Option LastAttachment) → AreCovered last rows → admits last next ≡ true → list_any (λ e. are_apart e r) rows ≡ false
  far_from_all last led fine = none_of (λ e. are_apart e r) rows (all_from (λ e. are_apart e r ≡ false) rows (far_each last led fine))

  neither_is : (a b : Bool) → (not a || b) ≡ false → (a ≡ true) × (b ≡ false)
  neither_is true b e = (refl, e)
  neither_is false b e = absurd (true≢false e)

  -- a row that is not admitted conflicts with an earlier row
  pub apart_from_one : (last : Option LastAttachment) → AreCovered last rows → admits last next ≡ false → list_any (λ e. are_apart e r) rows ≡ true
  apart_from_one None led not_fine = absurd (true≢false not_fine)
  apart_from_one (Some l) led not_fine =
      let parts = neither_is (int_eq l.number next.number) (can_coexist l.attachment next.attachment) not_fine in
      some_from (λ e. are_apart e r) rows led.row led.has
      (apart_by led.row (Some l.number) true led.of parts.0 ∙ ap not (ap (λ a. can_coexist a next.attachment) led.is ∙ parts.1))

  -- ---- what represents one row more

  leads_itself : Leads next.attachment (attached_at 2 3 r)
  leads_itself c h = ap (λ a. can_coexist a c) says ∙ h

  not_below : is_some_and (int_lt next.number) (as_integer (column r 0)) ≡ false
  not_below = ap (is_some_and (int_lt next.number)) number ∙ not_itself next.number next.number (is_equal next.number next.number refl)

  none_above : AllByRecursion (λ e. is_some_and (int_lt next.number) (as_integer (column e 0)) ≡ false) rows
  none_above = all_weaker (λ e. falls e r ≡ false) (λ e. is_some_and (int_lt next.number) (as_integer (column e 0)) ≡ false)
      (λ e low. above (as_integer (column e 0)) (ap (λ o. are_some_and (λ m n. int_lt n m) (as_integer (column e 0)) o) (sym number) ∙ low)) rows order
    where
      above : (o : Option ℤ) → are_some_and (λ m n. int_lt n m) o (Some next.number) ≡ false → is_some_and (int_lt next.number) o ≡ false
      above None low = refl
      above (Some k) low = low

  leading : AllByRecursion (λ e. as_integer (column e 0) ≡ Some next.number → Leads next.attachment (attached_at 2 3 e)) rows → IsLed next (rows ++ r ∷ [])
  leading leads = record {
    last = all-append _ rows (r ∷ []) none_above (not_below, tt);
    leads = all-append _ rows (r ∷ []) leads (λ is. leads_itself, tt);
    row = r;
    has = has_right rows (r ∷ []) r (inl refl);
    of = number;
    is = says;
  }

  -- the row itself, if the representative of the earlier rows does not stay
  pub led_next : (last : Option LastAttachment) → AreCovered last rows → admits last next ≡ true → covers last next ≡ false → IsLed next (rows ++ r ∷ [])
  led_next None led fine ends = leading (all_weaker (λ e. as_integer (column e 0) ≡ None) _ (λ e none is. absurd (no_some next.number (sym none ∙ is))) rows led)
    where
      no_some : (n : ℤ) → Path (Option ℤ) None (Some n) → ⊥
      no_some n e = absurd (cc)
  led_next (Some l) led fine ends = leading (all_from _ rows (λ e has is. go e has is (int_eq l.number next.number) refl))
    where
      go : (e : Row) → Has rows e → as_integer (column e 0) ≡ Some next.number → (b : Bool) → int_eq l.number next.number ≡ b → Leads next.attachment (attached_at 2 3 e)
      go e has is false one = absurd (earlier l led one e has is)
      go e has is true one = λ c h.
          let beside : can_coexist l.attachment next.attachment ≡ true = or_second (not (int_eq l.number next.number)) _ (ap not one) fine in
          let read : is_written l.attachment ≡ false = ap (λ b. b && is_written l.attachment) (sym one) ∙ ends in
          let leads = all_has (λ r. as_integer (column r 0) ≡ Some l.number → Leads l.attachment (attached_at 2 3 r)) rows e led.leads has (is ∙ ap Some (sym (equal_is l.number next.number one))) in
          leads c (read_led l.attachment next.attachment beside read c h)

  -- the representative of the earlier rows stays, if it represents the row too
  pub led_still : (last : Option LastAttachment) → AreCovered last rows → admits last next ≡ true → covers last next ≡ true → AreCovered last (rows ++ r ∷ [])
  led_still None led fine ends = absurd (true≢false (sym ends))
  led_still (Some l) led fine ends =
      let parts = and_parts (int_eq l.number next.number) (is_written l.attachment) ends in
      let beside : can_coexist l.attachment next.attachment ≡ true = or_second (not (int_eq l.number next.number)) _ (ap not parts.0) fine in
      record {
        last = all-append _ rows (r ∷ []) led.last (ap (is_some_and (int_lt l.number)) number ∙ not_itself l.number next.number parts.0, tt);
        leads = all-append _ rows (r ∷ []) led.leads (λ is c h. ap (λ a. can_coexist a c) says ∙ written_leads l.attachment next.attachment beside parts.1 c h, tt);
        row = led.row;
        has = has_left rows (r ∷ []) led.row led.has;
        of = led.of;
        is = led.is;
      }

-- a row that has a representative and is admitted conflicts with no earlier row, and it or the old
-- representative remains
pub goes_on : (rows : List Row) (r : Row) (next : LastAttachment) (found : Option RowName) (last : Option LastAttachment) → DoNotFall (rows ++ r ∷ []) → (DoNotFall rows → (found ≡ apart_named rows) × (found ≡ None → AreCovered last rows))
    → last_attachment_at r ≡ Some next → found ≡ None → admits last next ≡ true → (b : Bool) → covers last next ≡ b → (found ≡ apart_named (rows ++ r ∷ [])) × (found ≡ None → AreCovered (cond b last (Some next)) (rows ++ r ∷ []))
goes_on rows r next found last order so led none fine b stands =
    let falls = fall_front rows r order in
    let was = so falls.0 in
    let is = led_is r next led in
    (none ∙ now_apart rows r false (sym none ∙ was.0) (far_from_all rows r next is.0 is.1 falls.1 last (was.1 none) fine), λ _. go b stands falls.1 is (was.1 none))
  where
    go : (b : Bool) → covers last next ≡ b → AllByRecursion (λ e. falls e r ≡ false) rows → (as_integer (column r 0) ≡ Some next.number) × (attached_at 2 3 r ≡ next.attachment) → AreCovered last rows → AreCovered (cond b last (Some next)) (rows ++ r ∷ [])
    go true stands low is were = led_still rows r next is.0 is.1 low last were fine stands
    go false stands low is were = led_next rows r next is.0 is.1 low last were fine stands
