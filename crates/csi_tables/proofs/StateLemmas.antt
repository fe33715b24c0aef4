-- Rows represent one State.
use Rattle.std.proofs.Common.{◌≡◌, ◌∙◌, inl, inr, refl, sym, ap, subst, ℕ, suc, pos, List, [], ◌∷◌, map, Bool, true, false, get_or, slice_index_or, IsPermutation}
use Rattle.std.specs.Cmp.{nat_cmp_total}
use Rattle.std.specs.FinMap.{entries}
use Rattle.std.specs.Ordering.{nat_cmp}
use Rattle.std.proofs.lemmas.List.Sorted.{IsPermutation-trans, IsPermutation-sym, IsPermutation-map}
use Rattle.sqlite.specs.declared.types.Value.{Value}
use Rattle.sqlite.specs.declared.types.Value.TheVariants.{Int, Text, Blob}
use Rattle.sqlite.specs.Order.{Row, column}
use Rattle.sqlite.specs.Tree.{Trees}
use Rattle.csi_keeper.specs.State.{State, AttachmentKey, attachment_key_cmp}
use Rattle.csi_keeper.specs.declared.capability.Kind.TheVariants.{Block}
use Rattle.csi_keeper.specs.declared.volume.Attachment.{Attachment}
use Rattle.csi_keeper.specs.declared.volume.Volume.{Volume}
use Rattle.csi_keeper.specs.facts.Orders.{place_total}
use Rattle.csi_sql.specs.declared.formats.TheConstants.{FIRST_FORMAT, LATEST_FORMAT}
use Rattle.csi_sql.specs.Rows.{bool_value, meta_row}
use Rattle.csi_columns.specs.Encoding.{ReadsBack}
use Rattle.csi_columns.specs.Entries.{volume_entry, attachment_entry}
use Rattle.csi_tables.specs.Holding.{IsEitherRows, IsRows, IsRowsOf, IsStored, IsPlaced}
use Rattle.csi_tables.proofs.DecodingLemmas.{keys_in, params_in, keys_back, params_back}
use Rattle.csi_tables.proofs.EntryLemmas.{same_if_permuted, map_back_on}

nat_of : Value → ℕ
nat_of (Int (pos n)) = n
nat_of _ = 0

text_of : Value → List ℕ
text_of (Text t) = t
text_of _ = []

blob_of : Value → List ℕ
blob_of (Blob b) = b
blob_of _ = []

flag_of : Value → Bool
flag_of (Int (pos (suc n))) = true
flag_of _ = false

flag_back : (b : Bool) → flag_of (bool_value b) ≡ b
unfolding flag_of
flag_back true = refl
flag_back false = refl

module _ (back : ReadsBack) where
  volume_of : Row → ℕ × Volume
  volume_of row = (nat_of (column row 0), record { number = nat_of (column row 0); name = text_of (column row 1); bytes = nat_of (column row 2); pool = text_of (column row 3); caps = keys_in (blob_of (column row 4)); params = (params_in (blob_of (column row 5))).0; mutable = (params_in (blob_of (column row 5))).1 })

  attachment_of : Row → AttachmentKey × Attachment
  attachment_of row = ((nat_of (column row 0), text_of (column row 1)), record { node = text_of (column row 1); cap = get_or (keys_in (blob_of (column row 2))) 0 (record { kind = Block; mode = 0 }); readonly = flag_of (column row 3) })

  volume_back : (e : ℕ × Volume) → IsStored e → volume_of (volume_entry e) ≡ e
  unfolding volume_of nat_of text_of blob_of
  volume_back e h = λ i. (e.0, record { number = sym h.number i; name = e.1.name; bytes = e.1.bytes; pool = e.1.pool; caps = keys_back back e.1.caps h.caps i; params = (params_back back e.1.params e.1.mutable h.params i).0; mutable = (params_back back e.1.params e.1.mutable h.params i).1 })

  attachment_back : (e : AttachmentKey × Attachment) → IsPlaced e → attachment_of (attachment_entry e) ≡ e
  unfolding attachment_of nat_of text_of blob_of
  attachment_back e h = λ i. (e.0, record { node = sym h.node i; cap = get_or (keys_back back (e.1.cap ∷ []) h.cap i) 0 (record { kind = Block; mode = 0 }); readonly = flag_back e.1.readonly i })

  same_next : (f g a b : ℕ) → meta_row f a ∷ [] ≡ meta_row g b ∷ [] → a ≡ b
  unfolding nat_of
  same_next f g a b e = ap (λ rows. nat_of (column (slice_index_or rows 0 []) 2)) e

  -- rows of either format represent only one State
  same_state_of : (f g : ℕ) (s t : State) (db : Trees) → IsRowsOf f s db → IsRowsOf g t db → s ≡ t
  same_state_of f g s t db p q =
      let next = same_next f g _ _ (sym p.meta ∙ q.meta) in
      let volumes = same_if_permuted nat_cmp nat_cmp_total s.volumes t.volumes (
      subst (λ xs. IsPermutation xs (entries t.volumes)) (map_back_on _ volume_entry volume_of volume_back (entries s.volumes) p.storable.volumes)
      (subst (IsPermutation (map volume_of (map volume_entry (entries s.volumes)))) (map_back_on _ volume_entry volume_of volume_back (entries t.volumes) q.storable.volumes)
      (IsPermutation-map volume_of _ _ (IsPermutation-trans _ _ _ p.volumes (IsPermutation-sym _ _ q.volumes))))) in
      let attachments = same_if_permuted attachment_key_cmp place_total s.attachments t.attachments (
      subst (λ xs. IsPermutation xs (entries t.attachments)) (map_back_on _ attachment_entry attachment_of attachment_back (entries s.attachments) p.storable.attachments)
      (subst (IsPermutation (map attachment_of (map attachment_entry (entries s.attachments)))) (map_back_on _ attachment_entry attachment_of attachment_back (entries t.attachments) q.storable.attachments)
      (IsPermutation-map attachment_of _ _ (IsPermutation-trans _ _ _ p.attachments (IsPermutation-sym _ _ q.attachments))))) in
      λ i. record { next = next i; volumes = volumes i; attachments = attachments i }

  pub same_state : (s t : State) (db : Trees) → IsRows s db → IsRows t db → s ≡ t
  same_state = same_state_of LATEST_FORMAT LATEST_FORMAT

  pub same_either : (s t : State) (db : Trees) → IsEitherRows s db → IsEitherRows t db → s ≡ t
  same_either s t db (inl p) (inl q) = same_state_of FIRST_FORMAT FIRST_FORMAT s t db p.0 q.0
  same_either s t db (inl p) (inr q) = same_state_of FIRST_FORMAT LATEST_FORMAT s t db p.0 q
  same_either s t db (inr p) (inl q) = same_state_of LATEST_FORMAT FIRST_FORMAT s t db p q.0
  same_either s t db (inr p) (inr q) = same_state_of LATEST_FORMAT LATEST_FORMAT s t db p q
