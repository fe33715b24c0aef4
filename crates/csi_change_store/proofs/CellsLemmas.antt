-- Reading the fields of a row.
use Rattle.std.proofs.Common.{◌≡◌, ◌≢◌, ◌↔◌, ℕ, ◌<◌, ◌^◌, Bool, true, false, true≢false, ◌&&◌, cond, eqb, List, [], ◌∷◌, length, set, Option, Some, Ok, refl, sym, ap, subst, ◌∙◌, arith, slice_get, get_or, map, unwrap_or}
use denote.Ref.{Bor}
use Rattle.std.specs.Option.{option_map_or}
use Rattle.std.proofs.lemmas.Bool.{eqb-true, eqb-false, ltb-true}
use Rattle.std.proofs.lemmas.List.{get_or-set_same, get_or-set_other, length-map, map-set}
use Rattle.std.specs.List.{list_all}
use Rattle.pbwire.specs.Wire.{WireField, Part, Number, Eight, Payload, Four, AreFields}
use Rattle.pbwire.specs.Reading.{field_at}
use Rattle.csi_change_store.specs.Cells.{HasColumns, IsReadAs, IsUnread, TakesField, bytes_of, borrowed, number_of}
use Rattle.csi_change_store.specs.Pages.{AreCells, bytes_at, bytes_in, can_hold, is_cell, last, number_at, number_in}
use Rattle.csi_change_store.specs.declared.cells.Cells.{Cells}
use Rattle.csi_change_store.specs.declared.cells.CellKind.{CellKind}
use Rattle.csi_change_store.specs.declared.cells.CellKind.TheVariants.{Integer, Bytes}
use Rattle.csi_change_store.proofs.CursorLemmas.{same_field}

-- the clauses of pbwire's laws
pub record Laws : Type 0 where
  pub shorter : (bytes rest : List ℕ) (e : WireField) → field_at bytes ≡ Ok (e, rest) → length rest < length bytes
  pub in_order : (e : WireField) (es : List WireField) (bytes : List ℕ) → AreFields (e ∷ es) bytes ↔ ((rest : List ℕ) × (field_at bytes ≡ Ok (e, rest)) × AreFields es rest)

pub and_left : (a b : Bool) → (a && b) ≡ true → a ≡ true
and_left true b h = refl
and_left false b h = h

pub and_right : (a b : Bool) → (a && b) ≡ true → b ≡ true
and_right true b h = h
and_right false b h = absurd (true≢false (sym h))

pub and_both : (a b : Bool) → a ≡ true → b ≡ true → (a && b) ≡ true
and_both a b h k = rw (h, k) refl

-- the columns, with the fields that are still to be read, are the columns of all fields
pub record HasRead (kinds : List CellKind) (cells : Cells) (es all : List WireField) : Type 0 where
  pub numbers : (k : ℕ) → slice_get kinds k ≡ Some Integer → last number_in k (number_of cells k) es ≡ number_at k all
  pub bytes : (k : ℕ) → slice_get kinds k ≡ Some Bytes → last bytes_in k (bytes_of cells k) es ≡ bytes_at k all

-- The fields already read and the fields of the rest are the fields of the payload.
pub record Reading (kinds : List CellKind) (payload rest : List ℕ) (cells : Cells) : Type 0 where
  pub whole : (es : List WireField) → AreFields es rest → AreCells kinds es → (all : List WireField) × AreFields all payload × AreCells kinds all × HasRead kinds cells es all
  pub left : (all : List WireField) → AreFields all payload → AreCells kinds all → (es : List WireField) × AreFields es rest × AreCells kinds es

module _ (kinds : List CellKind) (payload : List ℕ) where
  pub starts : (cells : Cells) → ((k : ℕ) → number_of cells k ≡ 0) → ((k : ℕ) → bytes_of cells k ≡ []) → Reading kinds payload payload cells
  starts cells none empty = record {
    whole = λ es are fit. (es, are, fit, record { numbers = λ k is. ap (λ n. last number_in k n es) (none k); bytes = λ k is. ap (λ b. last bytes_in k b es) (empty k) });
    left = λ all are fit. (all, are, fit);
  }

  -- one more field is read
  pub goes_on : Laws → (before rest : List ℕ) (e : WireField) (old new : Cells) → Reading kinds payload before old → field_at before ≡ Ok (e, rest) → is_cell kinds e ≡ true → TakesField kinds e old new → Reading kinds payload rest new
  goes_on laws before rest e old new r read fits takes = record {
    whole = λ es are fit.
        let it = r.whole (e ∷ es) ((laws.in_order e es before).1 (rest, read, are)) (and_both _ _ fits fit) in (
          it.0,
          it.1,
          it.2,
          record {
            numbers = λ k is. ap (λ n. last number_in k n es) (takes.numbers k is) ∙ it.3.numbers k is;
            bytes = λ k is. ap (λ b. last bytes_in k b es) (takes.bytes k is) ∙ it.3.bytes k is;
          },
        );
    left = λ all are fit. let it = r.left all are fit in behind it.0 it.1 it.2;
  }
    where
      behind : (es : List WireField) → AreFields es before → AreCells kinds es → (more : List WireField) × AreFields more rest × AreCells kinds more
      behind [] are fit = absurd (let n : length rest < length before = laws.shorter before rest e read in omega (arith, n, ap length are))
      behind (f ∷ fs) are fit =
          let it = (laws.in_order f fs before).0 are in
          let same = same_field before e f rest it.0 read it.1 in
          (fs, subst (AreFields fs) same.1 it.2, and_right _ _ fit)

  pub ends : (rest : List ℕ) (cells : Cells) → Reading kinds payload rest cells → rest ≡ [] → IsReadAs kinds payload cells
  ends rest cells r none = let it = r.whole [] none refl in (it.0, it.1, it.2, record { numbers = it.3.numbers; bytes = it.3.bytes })

  -- these bytes are no field of a row
  pub stops : Laws → (rest : List ℕ) (cells : Cells) → Reading kinds payload rest cells → rest ≢ [] → ((e : WireField) (more : List ℕ) → field_at rest ≡ Ok (e, more) → is_cell kinds e ≡ true → ⊥) → IsUnread kinds payload
  stops laws rest cells r some bad es are fit = let it = r.left es are fit in none it.0 it.1 it.2
    where
      none : (es : List WireField) → AreFields es rest → AreCells kinds es → ⊥
      none [] are fit = some are
      none (f ∷ fs) are fit = let it = (laws.in_order f fs rest).0 are in bad f it.0 it.1 (and_left _ _ fit)

-- the field that was read is the only one, and does not fit
pub unfit : (kinds : List CellKind) (rest more : List ℕ) (e : WireField) → field_at rest ≡ Ok (e, more) → is_cell kinds e ≡ false → (f : WireField) (others : List ℕ) → field_at rest ≡ Ok (f, others) → is_cell kinds f ≡ true → ⊥
unfit kinds rest more e read bad f others is fits = true≢false (sym (subst (λ x. is_cell kinds x ≡ true) (same_field rest e f more others read is).0 fits) ∙ bad)

-- ---- one field

module _ (kinds : List CellKind) (old : Cells) (number : ℕ) where
  pub takes_bytes : (bytes : Bor (List ℕ)) → number < length old.payloads → TakesField kinds (record { number = number; part = Payload bytes.now }) old (record old { payloads = set old.payloads number bytes })
  takes_bytes bytes within = record {
    numbers = λ k is. kept (eqb number k) (number_of old k);
    bytes = λ k is. put k (eqb number k) refl;
  }
    where
      kept : (b : Bool) (was : ℕ) → was ≡ cond b was was
      kept true was = refl
      kept false was = refl

      put : (k : ℕ) (b : Bool) → eqb number k ≡ b → get_or (map borrowed (set old.payloads number bytes)) k [] ≡ cond b bytes.now (get_or (map borrowed old.payloads) k [])
      put k true is =
          let same : k ≡ number = sym (eqb-true number k is) in
          let inside : number < length (map borrowed old.payloads) = omega (arith, length-map old.payloads borrowed) in
          rw map-set (rw same (get_or-set_same (map borrowed old.payloads) number bytes.now [] inside))
      put k false is =
          let other : k ≢ number = λ e. eqb-false number k is (sym e) in
          rw map-set (get_or-set_other (map borrowed old.payloads) number k bytes.now [] other)

-- ---- numbers

-- a value in a column of numbers is a number that a row can have
pub small : (kinds : List CellKind) (k : ℕ) → slice_get kinds k ≡ Some Integer → (es : List WireField) (was : ℕ) → AreCells kinds es → was < 2 ^ 63 → last number_in k was es < 2 ^ 63
small kinds k is [] was fit low = low
small kinds k is (e ∷ es) was fit low = small kinds k is es _ (and_right _ _ fit) (one (eqb e.number k) refl)
  where
    held : (part : Part) → can_hold Integer part ≡ true → unwrap_or (number_in part) was < 2 ^ 63
    held (Number n) fits = ltb-true n (2 ^ 63) fits
    held (Eight bytes) fits = low
    held (Payload bytes) fits = low
    held (Four bytes) fits = low

    one : (b : Bool) → eqb e.number k ≡ b → cond b (unwrap_or (number_in e.part) was) was < 2 ^ 63
    one true at = held e.part (subst (λ (o : Option CellKind). option_map_or (λ kind. can_hold kind e.part) o true ≡ true) (ap (slice_get kinds) (eqb-true e.number k at) ∙ is) (and_left _ _ fit))
    one false at = low
