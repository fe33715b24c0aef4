-- The rows of a State's attachments pass every constraint.
use Rattle.std.proofs.Common.{◌≡◌, ◌∙◌, inl, inr, refl, sym, ap, ap₂, subst, ℕ, ◌≤◌, ◌==◌, not, eq-eqb, eqb-true, Less, Bool, true, false, true≢false, List, [], ◌∷◌, map, filter, sum_by, Some, IsPermutation}
use Rattle.std.specs.Cmp.{nat_cmp_total}
use Rattle.std.specs.FinMap.{entries, entries_sorted, get, nat_cmp-IsAntisymmetric}
use Rattle.std.specs.List.{AllByRecursion, list_all}
use Rattle.std.proofs.lemmas.List.Sorted.{IsPermutation-sym, IsPermutation-trans}
use Rattle.sqlite.specs.Order.{Row, column}
use Rattle.sqlite.specs.Query.{or_nulls}
use Rattle.sqlite.specs.Tree.{Trees}
use Rattle.sqlite.specs.declared.types.Value.{Value}
use Rattle.sqlite_rules.specs.Lists.{Has}
use Rattle.sqlite_rules.proofs.ListLemmas.{all_has, has_filtered, has_kept, test_from}
use Rattle.sqlite_rules.proofs.ProbeLemmas.{has_mapped}
use Rattle.sqlite_trees.proofs.ListLemmas.{ascending-map}
use Rattle.std.proofs.lemmas.Cmp.{tied_itself}
use Rattle.csi_config.specs.Values as listing
use Rattle.csi_config.specs.declared.config.Config.{Config}
use Rattle.csi_keeper.specs.Capability.{has_key, is_supported_key}
use Rattle.csi_keeper.specs.Invariant.{IsAttached, IsInvariant}
use Rattle.csi_keeper.specs.State.{AttachmentKey, State, attachment_key_cmp}
use Rattle.csi_keeper.specs.declared.capability.CapKey.{CapKey}
use Rattle.csi_keeper.specs.declared.volume.Attachment.{Attachment}
use Rattle.csi_keeper.specs.declared.volume.Volume.{Volume}
use Rattle.csi_keeper.specs.facts.Capability.{had_supported}
use Rattle.csi_keeper.specs.facts.Finite.{same_some}
use Rattle.csi_keeper.specs.facts.Orders.{place_exact, place_total}
use Rattle.csi_sql.specs.Deletes.{is_same}
use Rattle.csi_sql.specs.Rows.{seen_attachment, seen_volume}
use Rattle.csi_constraints.specs.Folds.{added_by}
use Rattle.csi_constraints.specs.Scans.{IsInOrder, keyed_attachment, owners, owns, with_owner}
use Rattle.csi_constraints.specs.declared.sums.Weight.TheVariants.{One}
use Rattle.csi_constraints.specs.facts.Joins.{some_unowned}
use Rattle.csi_columns.specs.Entries.{attachment_entry, volume_entry}
use Rattle.csi_tables.specs.Holding.{IsPlaced, IsRowsOf, IsStored}
use Rattle.csi_constraints.specs.Agreement.{keyed_entry, AttachmentAgrees, OwnerAgrees, PairAgrees}
use Rattle.csi_constraints.specs.Apart.{are_apart, NoneApart}
use Rattle.csi_constraints.specs.Attachments.{has_flag, is_at_node}
use Rattle.csi_constraints.specs.Coded.{has_cap}
use Rattle.csi_constraints.specs.Joins.{is_owned}
use Rattle.csi_constraints.specs.Kinds.{has_attachment_kinds}
use Rattle.csi_adoption.specs.Passing.{AttachmentsPass}
use Rattle.csi_adoption.proofs.AttachmentCellLemmas.{number_itself, same_number}
use Rattle.csi_tables.specs.facts.Entries.{has_permuted}
use Rattle.csi_adoption.proofs.AttachmentMapLemmas.{got_has, has_got, shown_by}
use Rattle.csi_adoption.proofs.PlaceLemmas.{apart_permuted, ascending_has, keys_rise, less_equal}
use Rattle.csi_adoption.proofs.AttachmentRowLemmas.{counted, owned_is}

-- each item of a list of the configuration
all_of_listed : {X : Type 0} (P : X → Type 0) (xs : List X) → ((x : X) → listing.Has xs x → P x) → AllByRecursion P xs
all_of_listed P [] each = tt
all_of_listed P (x ∷ xs) each = (each x (inl refl), all_of_listed P xs (λ y has. each y (inr has)))

some_rows : (rows : List Row) (w : Row) → Has rows w → or_nulls rows ≡ rows
some_rows [] w has = absurd has
some_rows (r ∷ rows) w has = refl

all_or_not : (test : Row → Bool) (rows : List Row) → (list_all test rows ≡ false → ⊥) → list_all test rows ≡ true
all_or_not test rows none = go (list_all test rows) refl
  where
    go : (b : Bool) → list_all test rows ≡ b → list_all test rows ≡ true
    go true is = is
    go false is = absurd (none is)

module _ (config : Config) (format : ℕ) (s : State) (db : Trees) (rows_are : IsRowsOf format s db) (good : IsInvariant config s) where
  -- ---- what a row represents

  entry_of : (r : Row) → Has (db 3) r → (e : AttachmentKey × Attachment) × Has (entries s.attachments) e × (seen_attachment r ≡ attachment_entry e)
  entry_of r has = shown_by attachment_entry seen_attachment (entries s.attachments) (db 3) rows_are.attachments r has

  volume_of : (v : Row) → Has (db 1) v → (f : ℕ × Volume) × Has (entries s.volumes) f × (seen_volume v ≡ volume_entry f)
  volume_of v has = shown_by volume_entry seen_volume (entries s.volumes) (db 1) rows_are.volumes v has

  row_of : (f : ℕ × Volume) → Has (entries s.volumes) f → (v : Row) × Has (db 1) v × (volume_entry f ≡ seen_volume v)
  row_of f has = shown_by seen_volume volume_entry (db 1) (entries s.volumes) (IsPermutation-sym _ _ rows_are.volumes) f has

  got : (e : AttachmentKey × Attachment) → Has (entries s.attachments) e → get s.attachments e.0 ≡ Some e.1
  got e has = has_got place_total place_exact s.attachments e has

  got_volume : (f : ℕ × Volume) → Has (entries s.volumes) f → get s.volumes f.0 ≡ Some f.1
  got_volume f has = has_got nat_cmp_total nat_cmp-IsAntisymmetric s.volumes f has

  stands : (e : AttachmentKey × Attachment) → Has (entries s.attachments) e → IsAttached config s e.0.0 e.0.1 e.1
  stands e has = good.attachments e.0.0 e.0.1 e.1 (got e has)

  placed : (e : AttachmentKey × Attachment) → Has (entries s.attachments) e → IsPlaced e
  placed e has = all_has IsPlaced (entries s.attachments) e rows_are.storable.attachments has

  supported : (e : AttachmentKey × Attachment) → Has (entries s.attachments) e → is_supported_key e.1.cap ≡ true
  supported e has =
      let at = stands e has in
      had_supported at.volume.caps e.1.cap at.cap (good.volumes e.0.0 at.volume at.stands).caps.supported

  -- ---- the rows of attachments

  module _ (agrees : (config : Config) (rowid : Value) (e : AttachmentKey × Attachment) → AttachmentAgrees config rowid e) (rows : List Row) (order : IsInOrder (map keyed_attachment (db 3)) rows) where
    row_is : (x : Row) → Has rows x → (rowid : Value) × (e : AttachmentKey × Attachment) × Has (entries s.attachments) e × (x ≡ keyed_entry rowid e)
    row_is x has =
        let r = has_mapped keyed_attachment (db 3) x (has_permuted (map keyed_attachment (db 3)) rows x order.same has) in
        let e = entry_of r.0 r.1 in
        (column r.0 0, e.0, e.1, r.2 ∙ ap (λ (x : Row). column r.0 0 ∷ x) e.2)

    each_row : (test : Row → Bool) → ((rowid : Value) (e : AttachmentKey × Attachment) → Has (entries s.attachments) e → test (keyed_entry rowid e) ≡ true) → list_all test rows ≡ true
    each_row test passes = test_from test rows (λ x has. let e = row_is x has in ap test e.3 ∙ passes e.0 e.1 e.2)

    pub attachments_pass : AttachmentsPass config rows
    attachments_pass = record {
      kinds = each_row has_attachment_kinds (λ rowid e has. (agrees config rowid e).kinds (placed e has).text);
      caps = each_row has_cap (λ rowid e has. ((agrees config rowid e).cap (placed e has).cap).1 (supported e has));
      flags = each_row has_flag (λ rowid e has. (agrees config rowid e).readonly);
      nodes = each_row (is_at_node config.nodes) (λ rowid e has. (agrees config rowid e).node.1 (stands e has).known);
      counts = all_of_listed (λ m. sum_by (added_by 2 m.id One) rows ≤ m.max_volumes) config.nodes (λ m has.
          subst (λ k. k ≤ m.max_volumes) (sym (counted (entries s.attachments) (db 3) rows rows_are.attachments order.same m.id)) (good.nodes m has));
    }

  -- ---- each attachment with its volume

  owner_row : (r : Row) → Has (db 3) r → (w : Row) × Has (filter (owns r) (db 1)) w
  owner_row r has =
      let e = entry_of r has in
      let at = stands e.0 e.1 in
      let w = row_of (e.0.0.0, at.volume) (got_has nat_cmp_total nat_cmp-IsAntisymmetric s.volumes e.0.0.0 at.volume at.stands) in
      let same = ap₂ is_same (ap (λ (x : Row). column x 0) (sym w.2)) (ap (λ (x : Row). column x 0) e.2) ∙ number_itself e.0.0.0 in
      (w.0, has_kept (owns r) (db 1) w.0 w.1 same)

  owner_passes : ((e : AttachmentKey × Attachment) (own : List CapKey) → OwnerAgrees e own) → (r v : Row) → Has (db 3) r → Has (db 1) v → owns r v ≡ true → is_owned (with_owner r v) ≡ true
  owner_passes agrees r v left right same =
      let e = entry_of r left in
      let f = volume_of v right in
      let at = stands e.0 e.1 in
      let some = got_volume f.0 f.1 in
      let number : e.0.0.0 ≡ f.0.0 = same_number f.0.0 e.0.0.0 (sym (ap₂ is_same (ap (λ (x : Row). column x 0) f.2) (ap (λ (x : Row). column x 0) e.2)) ∙ same) in
      let volume : f.0.1 ≡ at.volume = same_some _ _ (sym some ∙ ap (get s.volumes) (sym number) ∙ at.stands) in
      let small = all_has IsStored (entries s.volumes) f.0 rows_are.storable.volumes f.1 in
      owned_is agrees r v e.0.1.cap f.0.1.caps (ap (λ (x : Row). column x 2) e.2) (ap (λ (x : Row). column x 4) f.2) (placed e.0 e.1).cap (supported e.0 e.1) small.caps (good.volumes f.0.0 f.0.1 some).caps
      ∙ ap (λ (v : Volume). has_key v.caps (Some e.0.1.cap)) volume ∙ at.cap

  pub owners_pass : ((e : AttachmentKey × Attachment) (own : List CapKey) → OwnerAgrees e own) → (owned : List Row) → IsPermutation (owners (db 3) (db 1)) owned → list_all is_owned owned ≡ true
  owners_pass agrees owned same = all_or_not is_owned owned (λ fails.
      let r = some_unowned is_owned (db 3) (db 1) owned same fails in
      let w = owner_row r.0 r.1 in
      let v = has_filtered (owns r.0) (db 1) r.2.0 (subst (λ xs. Has xs r.2.0) (some_rows (filter (owns r.0) (db 1)) w.0 w.1) r.2.1) in
      true≢false (sym (owner_passes agrees r.0 r.2.0 r.1 v.0 v.1) ∙ r.2.2))

  -- ---- any two of one volume

  apart_entries : ((e f : AttachmentKey × Attachment) → PairAgrees e f) → (e f : AttachmentKey × Attachment) → Has (entries s.attachments) e → Has (entries s.attachments) f → (e.0 ≡ f.0 → ⊥) → are_apart (attachment_entry e) (attachment_entry f) ≡ false
  apart_entries agrees e f left right far = go (e.0.0 == f.0.0) refl
    where
      go : (b : Bool) → (e.0.0 == f.0.0) ≡ b → are_apart (attachment_entry e) (attachment_entry f) ≡ false
      go true is =
          let same : e.0.0 ≡ f.0.0 = eqb-true _ _ is in
          let other : get s.attachments (e.0.0, f.0.1) ≡ Some f.1 = ap (λ n. get s.attachments (n, f.0.1)) same ∙ got f right in
          (agrees e f).beside same (placed e left).cap (supported e left) (placed f right).cap (supported f right)
          ∙ ap not (good.beside e.0.0 e.0.1 f.0.1 e.1 f.1 (got e left) other (λ node. far (λ i. (same i, node i))))
      go false is = (agrees e f).other (λ same. true≢false (sym (eq-eqb _ _ same) ∙ is))

  pub places_pass : ((e f : AttachmentKey × Attachment) → PairAgrees e f) → (places : List Row) → IsPermutation (map seen_attachment (db 3)) places → NoneApart places
  places_pass agrees places same =
      apart_permuted (map attachment_entry (entries s.attachments)) places (IsPermutation-trans _ _ _ rows_are.attachments same)
      (ascending-map (λ x y. are_apart x y ≡ false) attachment_entry (entries s.attachments)
      (ascending_has (λ e f. attachment_key_cmp e.0 f.0 ≡ Less) (λ e f. are_apart (attachment_entry e) (attachment_entry f) ≡ false) (entries s.attachments)
      (λ e f left right less. apart_entries agrees e f left right (λ same. not_less e f less same)) (keys_rise attachment_key_cmp (entries s.attachments) (entries_sorted s.attachments))))
    where
      not_less : (e f : AttachmentKey × Attachment) → attachment_key_cmp e.0 f.0 ≡ Less → e.0 ≡ f.0 → ⊥
      not_less e f less same = less_equal (sym less ∙ ap (attachment_key_cmp e.0) (sym same) ∙ tied_itself place_total e.0)
