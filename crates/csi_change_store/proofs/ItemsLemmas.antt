-- The items that the fields of a page encode.
use Rattle.std.proofs.Common.{◌≡◌, ◌≢◌, ℕ, ◌<◌, ◌^◌, Bool, true, false, List, [], ◌∷◌, Some, refl, sym, ap, subst, ◌∙◌, arith, unwrap_or, ◌==◌}
use Rattle.std.specs.Prelude.{IsUtf8}
use Rattle.std.specs.String.{string_bytes}
use Rattle.pbwire.specs.Wire.{WireField, AreFields}
use Rattle.csi_change_store.specs.Asking.{bytes_field}
use Rattle.csi_change_store.specs.Cells.{HasColumns, IsReadAs, IsUnread, bytes_of, number_of}
use Rattle.csi_change_store.specs.Pages.{PageItem, Meta, Volume, Attachment, Token, Skipped, MetaColumns, VolumeColumns, AttachmentColumns, AreCells, HasFlag, HasTexts, IsItem, IsSmall, IsSpelled, IsTyped, volume_number, attachment_kinds, attachment_of, bytes_in, meta_kinds, meta_of, volume_kinds, volume_of}
use Rattle.csi_change_store.specs.Asking.{flag_number}
use Rattle.csi_change_store.specs.Taking.{IsFlagFault, IsItemFault}
use Rattle.csi_change_store.specs.declared.cells.Cells.{Cells}
use Rattle.csi_change_store.specs.declared.cells.CellKind.{CellKind}
use Rattle.csi_change_store.specs.declared.fault.RowsFault.{RowsFault}
use Rattle.csi_change_store.specs.declared.fault.RowsFault.TheVariants.{Malformed, Untyped, Flag, Refused, Row, NoMemory}
use Rattle.csi_change_store.proofs.CellsLemmas.{small}

-- ---- the part of a payload already read

abbrev pub meta_in : Cells → MetaColumns
meta_in cells = record { format = number_of cells 1; next = number_of cells 2 }

abbrev pub volume_in : Cells → VolumeColumns
volume_in cells = record { number = number_of cells 1; name = bytes_of cells 2; bytes = number_of cells 3; pool = bytes_of cells 4; caps = bytes_of cells 5; params = bytes_of cells 6 }

abbrev pub attachment_in : Cells → AttachmentColumns
attachment_in cells = record { number = number_of cells 1; node = bytes_of cells 2; cap = bytes_of cells 3; readonly = number_of cells 4 }

low : (0 < 2 ^ 63)
low = omega arith

module _ (payload : List ℕ) (cells : Cells) where
  pub meta_item : IsReadAs meta_kinds payload cells → (row : MetaColumns) → row ≡ meta_in cells → IsItem (bytes_field 1 payload) (Meta row) × IsTyped (Meta row) × IsSmall (Meta row)
  meta_item read row is =
      let columns = read.3 in
      let spelled : row ≡ meta_of read.0 = is ∙ (λ i. record { format = columns.numbers 1 refl i; next = columns.numbers 2 refl i }) in
      ((payload, refl, (read.0, read.1, read.2, spelled)), (tt, tt), subst (λ (n : ℕ). n < 2 ^ 63) (sym (ap (λ (r : MetaColumns). r.next) spelled)) (small meta_kinds 2 refl read.0 0 read.2 low))

  pub volume_spelled : IsReadAs volume_kinds payload cells → IsItem (bytes_field 2 payload) (Volume (volume_in cells))
  volume_spelled read =
      let columns = read.3 in (
        payload,
        refl,
        (
          read.0,
          read.1,
          read.2,
          λ i. record {
            number = columns.numbers 1 refl i;
            name = columns.bytes 2 refl i;
            bytes = columns.numbers 3 refl i;
            pool = columns.bytes 4 refl i;
            caps = columns.bytes 5 refl i;
            params = columns.bytes 6 refl i;
          },
        ),
      )

  volume_small : IsReadAs volume_kinds payload cells → IsSmall (Volume (volume_in cells))
  volume_small read =
      (subst (λ (n : ℕ). n < 2 ^ 63) (sym (read.3.numbers 1 refl)) (small volume_kinds 1 refl read.0 0 read.2 low), subst (λ (n : ℕ). n < 2 ^ 63) (sym (read.3.numbers 3 refl)) (small volume_kinds 3 refl read.0 0 read.2 low))

  pub volume_item : IsReadAs volume_kinds payload cells → (row : VolumeColumns) → row ≡ volume_in cells → IsUtf8 (bytes_of cells 2) → IsUtf8 (bytes_of cells 4) → IsItem (bytes_field 2 payload) (Volume row) × IsTyped (Volume row) × IsSmall (Volume row)
  volume_item read row is name pool = subst (λ (r : VolumeColumns). IsItem (bytes_field 2 payload) (Volume r) × IsTyped (Volume r) × IsSmall (Volume r)) (sym is) (volume_spelled read, ((name, pool), tt), volume_small read)

  pub attachment_spelled : IsReadAs attachment_kinds payload cells → IsItem (bytes_field 3 payload) (Attachment (attachment_in cells))
  attachment_spelled read =
      let columns = read.3 in (
        payload,
        refl,
        (
          read.0,
          read.1,
          read.2,
          λ i. record {
            number = columns.numbers 1 refl i;
            node = columns.bytes 2 refl i;
            cap = columns.bytes 3 refl i;
            readonly = columns.numbers 4 refl i;
          },
        ),
      )

  attachment_small : IsReadAs attachment_kinds payload cells → IsSmall (Attachment (attachment_in cells))
  attachment_small read = subst (λ (n : ℕ). n < 2 ^ 63) (sym (read.3.numbers 1 refl)) (small attachment_kinds 1 refl read.0 0 read.2 low)

  flag_low : (b : Bool) → flag_number b < 2
  flag_low true = omega arith
  flag_low false = omega arith

  pub attachment_item : IsReadAs attachment_kinds payload cells → (row : AttachmentColumns) → row ≡ attachment_in cells → IsUtf8 (bytes_of cells 2) → (flag : Bool) → number_of cells 4 ≡ flag_number flag
      → IsItem (bytes_field 3 payload) (Attachment row) × IsTyped (Attachment row) × IsSmall (Attachment row)
  attachment_item read row is node flag at =
      subst (λ (r : AttachmentColumns). IsItem (bytes_field 3 payload) (Attachment r) × IsTyped (Attachment r) × IsSmall (Attachment r)) (sym is)
      (attachment_spelled read, (node, subst (λ (n : ℕ). n < 2) (sym at) (flag_low flag)), attachment_small read)

-- ---- payloads with no row read yet

abbrev payload_in : WireField → List ℕ
payload_in e = unwrap_or (bytes_in e.part) []

abbrev number_of_field : WireField → ℕ
number_of_field e = e.number

other_number : (n m : ℕ) (p q : List ℕ) → bytes_field n p ≡ bytes_field m q → n ≡ m
other_number n m p q h = ap number_of_field h

same_payload : (n m : ℕ) (p q : List ℕ) → bytes_field n p ≡ bytes_field m q → q ≡ p
same_payload n m p q h = sym (ap payload_in h)

unspelled : {Columns : Type 0} (kinds : List CellKind) (of : List WireField → Columns) (p q : List ℕ) (row : Columns) → q ≡ p → IsUnread kinds p → IsSpelled kinds of q row → ⊥
unspelled kinds of p q row same unread it = unread it.0 (subst (AreFields it.0) same it.1) it.2

module _ (p : List ℕ) where
  pub unread_meta : IsUnread meta_kinds p → (item : PageItem) → IsItem (bytes_field 1 p) item → ⊥
  unread_meta unread (Meta row) h = unspelled meta_kinds meta_of p h.0 row (same_payload 1 1 p h.0 h.1) unread h.2
  unread_meta unread (Volume row) h = absurd (omega (arith, other_number 1 2 p h.0 h.1))
  unread_meta unread (Attachment row) h = absurd (omega (arith, other_number 1 3 p h.0 h.1))
  unread_meta unread (Token token) h = absurd (omega (arith, other_number 1 4 p token h))
  unread_meta unread Skipped h = absurd (omega (arith, h))

-- ---- faults

pub malformed : (spelled : PageItem → Type 0) (fault : RowsFault) → fault ≡ Malformed → ((item : PageItem) → spelled item → ⊥) → IsItemFault spelled fault
malformed spelled fault is none = subst (IsItemFault spelled) (sym is) none

pub untyped : (spelled : PageItem → Type 0) (fault : RowsFault) (number : ℕ) (item : PageItem) → fault ≡ Untyped number → spelled item → volume_number item ≡ Some number → (HasTexts item → ⊥) → IsItemFault spelled fault
untyped spelled fault number item is it at bad = subst (IsItemFault spelled) (sym is) (item, it, at, bad)

pub unflagged : (spelled : PageItem → Type 0) (row : AttachmentColumns) (number readonly : ℕ) (node : List ℕ) (fault : RowsFault) → spelled (Attachment row) → row.number ≡ number → row.node ≡ node → row.readonly ≡ readonly → IsFlagFault number node readonly fault → IsItemFault spelled fault
unflagged spelled row number readonly node Malformed it n t r h = absurd h
unflagged spelled row number readonly node (Untyped m) it n t r h = absurd h
unflagged spelled row number readonly node (Flag m text) it n t r h = (Attachment row, it, ap Some (n ∙ sym h.0), ap Some (t ∙ sym h.1), λ flag. h.2 (subst (λ (k : ℕ). k < 2) r flag))
unflagged spelled row number readonly node (Refused e) it n t r h = absurd h
unflagged spelled row number readonly node (Row m e) it n t r h = absurd h
unflagged spelled row number readonly node NoMemory it n t r h = tt

-- the flag that was read
pub flag_again : (b : Bool) → (flag_number b == 1) ≡ b
flag_again true = refl
flag_again false = refl
