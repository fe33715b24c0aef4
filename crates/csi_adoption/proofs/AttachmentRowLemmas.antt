-- Rows of attachments with the rows of volumes, and with one another.
use Rattle.std.proofs.Common.{◌≡◌, ◌∙◌, inl, inr, refl, sym, ap, ap₂, ℕ, ◌+◌, cond, Bool, true, false, true≢false, ◌&&◌, not, arith, List, [], ◌∷◌, map, filter, length, sum_by, bytes_eq, Some, Less, is_eq, IsPermutation}
use Rattle.std.specs.Cmp.Lexicographic.{slice_cmp, texts_ties}
use Rattle.std.specs.Cmp.{nat_cmp_total}
use Rattle.std.specs.FinMap.{FinMap, entries, get, nat_cmp-IsAntisymmetric}
use Rattle.std.specs.List.{AllByRecursion, list_all}
use Rattle.std.specs.Option.{option_and_then}
use Rattle.std.specs.Ordering.{nat_cmp}
use Rattle.std.proofs.lemmas.Bool.{and_from, not-true}
use Rattle.std.proofs.lemmas.List.Sorted.{sum_by-IsPermutation}
use Rattle.std.proofs.lemmas.List.Sums.{sum_by-cons}
use Rattle.sqlite.specs.Order.{Row, column, value_cmp}
use Rattle.sqlite.specs.Table.{Table}
use Rattle.sqlite.specs.Tree.{Trees, rowid}
use Rattle.sqlite.specs.View.{is_int}
use Rattle.sqlite.specs.declared.types.Value.{Value}
use Rattle.sqlite.specs.declared.types.Value.TheVariants.{Blob, Text}
use Rattle.sqlite_catalog.specs.Listing.{automatic, IsSound}
use Rattle.sqlite_rules.specs.Lists.{Has}
use Rattle.sqlite_rules.proofs.ListLemmas.{all_has, some_from, test_has}
use Rattle.sqlite_rules.proofs.RuleLemmas.{keeps_at}
use Rattle.sqlite_schema.specs.Rules.{agree, clashes, differ, equal, guards}
use Rattle.sqlite_schema.specs.declared.schema.Constraint.TheVariants.{Unique}
use Rattle.sqlite_schema.specs.declared.schema.Index.{Index}
use Rattle.sqlite_value.specs.Keys.{first_key, plain}
use Rattle.sqlite_value.specs.declared.keys.Collation.TheVariants.{Binary}
use Rattle.csi_keeper.specs.Capability.{has_key, is_supported_key}
use Rattle.csi_keeper.specs.Invariant.{AreKeys}
use Rattle.csi_keeper.specs.State.{AttachmentKey}
use Rattle.csi_keeper.specs.Texts.{Text as Bytes}
use Rattle.csi_keeper.specs.declared.capability.CapKey.{CapKey}
use Rattle.csi_keeper.specs.declared.capability.Kind.TheVariants.{Block}
use Rattle.csi_keeper.specs.declared.volume.Attachment.{Attachment}
use Rattle.csi_keeper.specs.declared.volume.Volume.{Volume}
use Rattle.csi_sql.specs.Tables.{attachments, schema}
use Rattle.csi_sql.specs.Cells.{as_blob}
use Rattle.csi_sql.specs.Deletes.{is_same}
use Rattle.csi_sql.specs.Rows.{number_value, seen_attachment, seen_volume}
use Rattle.csi_constraints.specs.Folds.{added_by}
use Rattle.csi_constraints.specs.Scans.{keyed_attachment, owners, with_owner}
use Rattle.csi_constraints.specs.declared.sums.Weight.TheVariants.{One}
use Rattle.csi_constraints.specs.facts.Joins.{each_owned}
use Rattle.csi_columns.specs.Encoding.{caps_bytes, FitCaps}
use Rattle.csi_columns.specs.Entries.{attachment_entry, volume_entry}
use Rattle.csi_tables.specs.Holding.{IsStored}
use Rattle.csi_constraints.specs.Agreement.{owned_entry, OwnerAgrees}
use Rattle.csi_constraints.specs.Coding.{key_in, keys_in}
use Rattle.csi_constraints.specs.Joins.{is_owned}
use Rattle.csi_constraints.specs.Kinds.{is_integer}
use Rattle.csi_constraints.specs.Values.{are_some_and}
use Rattle.csi_adoption.proofs.AttachmentCellLemmas.{are_different, equal_numbers, equal_texts, is_number}
use Rattle.csi_adoption.proofs.AttachmentMapLemmas.{has_got, shown_by}

-- ---- an attachment with its volume

-- a row of attachments whose number a volume has
pub record OwnedRow (volumes : FinMap nat_cmp Volume) (r : Row) : Type 0 where
  pub number : ℕ
  pub volume : Volume
  pub stands : get volumes number ≡ Some volume
  pub stored : IsStored (number, volume)
  pub is : column r 1 ≡ number_value number
  -- the capability of the row is one of the volume's capabilities
  pub cap : (k : CapKey) → column r 3 ≡ Blob (caps_bytes (k ∷ [])) → FitCaps (k ∷ []) → is_supported_key k ≡ true → has_key volume.caps (Some k) ≡ true

with_cap : CapKey → AttachmentKey × Attachment
with_cap k = ((0, []), record { node = []; cap = k; readonly = false })

no_cap : CapKey
no_cap = record { kind = Block; mode = 0 }

-- the constraint of an attachment with its volume depends on two cells
says_own : Value → Value → Bool
says_own cap caps = are_some_and (λ key ks. has_key ks (Some key)) (option_and_then key_in (as_blob cap)) (option_and_then keys_in (as_blob caps))

owned_cells : (r v : Row) (k : CapKey) (ks : List CapKey) → column r 3 ≡ Blob (caps_bytes (k ∷ [])) → column v 5 ≡ Blob (caps_bytes ks) → is_owned (with_owner r v) ≡ is_owned (owned_entry (with_cap k) ks)
unfolding says_own with_cap
owned_cells r v k ks cap caps = ap₂ says_own cap caps

pub owned_is : ((e : AttachmentKey × Attachment) (own : List CapKey) → OwnerAgrees e own) → (r v : Row) (k : CapKey) (ks : List CapKey) → column r 3 ≡ Blob (caps_bytes (k ∷ [])) → column v 5 ≡ Blob (caps_bytes ks)
    → FitCaps (k ∷ []) → is_supported_key k ≡ true → FitCaps ks → AreKeys ks → is_owned (with_owner r v) ≡ has_key ks (Some k)
unfolding with_cap
owned_is agrees r v k ks cap caps fit good fits all = owned_cells r v k ks cap caps ∙ (agrees (with_cap k) ks).owned fit good fits all

module _ (agrees : (e : AttachmentKey × Attachment) (own : List CapKey) → OwnerAgrees e own) (volumes : FinMap nat_cmp Volume) (attached volumes_in_order : List Row)
    (listed : IsPermutation (map volume_entry (entries volumes)) (map seen_volume volumes_in_order)) (stored : AllByRecursion IsStored (entries volumes))
    (kept : (n : ℕ) (v : Volume) → get volumes n ≡ Some v → AreKeys v.caps) where
  -- for each attachment there is a volume with its number
  pub numbered : (owned : List Row) → IsPermutation (owners attached volumes_in_order) owned → list_all is_owned owned ≡ true → (r : Row) → Has attached r → is_integer (column r 1) ≡ true → OwnedRow volumes r
  numbered owned same all r has kind =
      let found = each_owned is_owned (agrees (with_cap no_cap) []).unowned attached volumes_in_order owned same all r has in
      let e = shown_by volume_entry seen_volume (entries volumes) volumes_in_order listed found.0 found.1 in
      let number : column found.0 0 ≡ number_value e.0.0 = ap (λ (x : Row). column x 0) e.2 in
      let caps : column found.0 5 ≡ Blob (caps_bytes e.0.1.caps) = ap (λ (x : Row). column x 4) e.2 in
      let stands = has_got nat_cmp_total nat_cmp-IsAntisymmetric volumes e.0 e.1 in
      let says = all_has IsStored (entries volumes) e.0 stored e.1 in
      record {
        number = e.0.0;
        volume = e.0.1;
        stands = stands;
        stored = says;
        is = is_number e.0.0 (column r 1) kind (ap (λ v. is_same v (column r 1)) (sym number) ∙ found.2);
        cap = λ k cell fit good. sym (owned_is agrees r found.0 k e.0.1.caps cell caps fit good says.caps (kept e.0.0 e.0.1 stands)) ∙ found.3;
      }

-- ---- no two attachments have the same place

table_of_attachments : Table
table_of_attachments = record attachments { tree = 3 }

index_of_places : Index
unfolding table_of_attachments
index_of_places = automatic table_of_attachments 0 (1 ∷ 2 ∷ []) 4

module _ (db : Trees) (sound : IsSound schema db) where
  no_clash : (row : Row) → Has (db 3) row → clashes plain (1 ∷ 2 ∷ []) (db 3) row ≡ false
  unfolding table_of_attachments index_of_places
  no_clash row has =
      not-true _ (test_has (λ i. not (guards i table_of_attachments && clashes i.order i.columns (db 3) row)) schema.indexes index_of_places
      (keeps_at Unique schema db table_of_attachments row (sound.obeys.rules Unique) (inr (inr (inl refl))) has) (inr (inl refl)))

  pub not_twice : (a b : Row) → Has (db 3) a → Has (db 3) b → is_int (rowid a) ≡ true → is_int (rowid b) ≡ true → value_cmp (rowid a) (rowid b) ≡ Less
      → (n : ℕ) (t : List ℕ) → column a 1 ≡ number_value n → column b 1 ≡ number_value n → column a 2 ≡ Text t → column b 2 ≡ Text t → ⊥
  unfolding first_key
  not_twice a b left right first second less n t number other text likewise =
      let same : agree plain (1 ∷ 2 ∷ []) a (1 ∷ 2 ∷ []) b ≡ true =
      and_from _ _ (ap₂ (equal Binary) number other ∙ equal_numbers n) (and_from _ _ (ap₂ (equal Binary) text likewise ∙ equal_texts t) refl) in
      let clash : clashes plain (1 ∷ 2 ∷ []) (db 3) b ≡ true =
      some_from (λ o. agree plain (1 ∷ 2 ∷ []) o (1 ∷ 2 ∷ []) b && differ (rowid o) (rowid b)) (db 3) a left (and_from _ _ same (are_different (rowid a) (rowid b) first second less)) in
      true≢false (sym clash ∙ no_clash b right)

-- ---- the number of attachments at a node

same_sums : {A B C : Type 0} (f : A → ℕ) (g : B → ℕ) (h : C → A) (k : C → B) → ((c : C) → f (h c) ≡ g (k c)) → (cs : List C) → sum_by f (map h cs) ≡ sum_by g (map k cs)
same_sums f g h k same [] = refl
same_sums f g h k same (c ∷ cs) =
    let here = same c in
    let more = same_sums f g h k same cs in
    let first = sum_by-cons f (h c) (map h cs) in
    let second = sum_by-cons g (k c) (map k cs) in
    omega (arith, here, more, first, second)

at_node : (id : Bytes) (es : List (AttachmentKey × Attachment)) → sum_by (added_by 1 id One) (map attachment_entry es) ≡ length (map (λ e. e.0.0) (filter (λ e. bytes_eq e.0.1 id) es))
at_node id [] = refl
at_node id (e ∷ es) = sum_by-cons (added_by 1 id One) (attachment_entry e) (map attachment_entry es) ∙ go (is_eq (slice_cmp nat_cmp e.0.1 id)) (bytes_eq e.0.1 id) (texts_ties e.0.1 id) (at_node id es)
  where
    go : (b d : Bool) → d ≡ b → sum_by (added_by 1 id One) (map attachment_entry es) ≡ length (map (λ e. e.0.0) (filter (λ e. bytes_eq e.0.1 id) es))
        → cond b 1 0 + sum_by (added_by 1 id One) (map attachment_entry es) ≡ length (map (λ e. e.0.0) (cond d (e ∷ filter (λ e. bytes_eq e.0.1 id) es) (filter (λ e. bytes_eq e.0.1 id) es)))
    go true true same more = omega (arith, more)
    go true false same more = absurd (cc)
    go false true same more = absurd (cc)
    go false false same more = omega (arith, more)

-- the rows that a scan shows have the same count as the entries
pub counted : (es : List (AttachmentKey × Attachment)) (table rows : List Row) → IsPermutation (map attachment_entry es) (map seen_attachment table) → IsPermutation (map keyed_attachment table) rows
    → (id : Bytes) → sum_by (added_by 2 id One) rows ≡ length (map (λ e. e.0.0) (filter (λ e. bytes_eq e.0.1 id) es))
counted es table rows listed shown id =
    sum_by-IsPermutation (added_by 2 id One) (map keyed_attachment table) rows shown
    ∙ same_sums (added_by 2 id One) (added_by 1 id One) keyed_attachment seen_attachment (λ r. refl) table
    ∙ sum_by-IsPermutation (added_by 1 id One) (map attachment_entry es) (map seen_attachment table) listed
    ∙ at_node id es
