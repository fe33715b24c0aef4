-- The rows after a change.
use Rattle.std.proofs.Common.{◌≡◌, ◌∙◌, refl, sym, ap, ap₂, subst, ℕ, ◌+◌, ◌<◌, ◌^◌, ◌==◌, ◌&&◌, not, pos, List, [], ◌∷◌, map, filter, Bool, true, false, cond, None, Option, Some, ◌≤◌, IsUtf8, IsPermutation, is_eq, Ordering, Less, arith, inl, inr}
use Rattle.std.specs.Cmp.{nat_cmp_total, IsTotalOrder}
use Rattle.std.specs.FinMap.{FinMap, entries, find, get, get-entries, entries_sorted, same_entries_map, nat_cmp-IsAntisymmetric}
use Rattle.std.specs.List.{AllByRecursion}
use Rattle.std.specs.Ordering.{nat_cmp, eq_by_cmp}
use Rattle.std.proofs.lemmas.Bool.Decides.{nat_tests}
use Rattle.std.proofs.lemmas.Cmp.{tied_itself}
use Rattle.std.proofs.lemmas.List.Sorted.{IsPermutation-cons, IsPermutation-trans, IsPermutation-sym, IsPermutation-map}
use Rattle.sqlite.specs.declared.types.Value.TheVariants.{Int, Text}
use Rattle.sqlite.specs.Effect.{Database}
use Rattle.sqlite.specs.Order.{Row, column, value_cmp}
use Rattle.sqlite.specs.Tree.{rowid, IsAscending, Trees}
use Rattle.sqlite.specs.View.{is_int}
use Rattle.sqlite_catalog.specs.Listing.{IsSound}
use Rattle.sqlite_keyed.proofs.ListLemmas.{IsPermutation-filter, filter-map, filter_same}
use Rattle.sqlite_rules.proofs.ListLemmas.{all_has, has_filtered}
use Rattle.sqlite_rules.proofs.ProbeLemmas.{has_mapped, mapped_has}
use Rattle.sqlite_rules.specs.Lists.{Has}
use Rattle.sqlite_value.proofs.OrderLemmas.{value_cmp-Int}
use Rattle.csi_types.specs.Maps.{TextMap}
use Rattle.csi_keeper.specs.State.{State, AttachmentKey, attachment_key_cmp, changed, mutable_set, with_mutable, Allows}
use Rattle.csi_keeper.specs.Texts.{text_cmp}
use Rattle.csi_keeper.specs.declared.change.Change.TheVariants.{AddVolume, RemoveVolume, Attach, Detach, DetachAll, SetMutable}
use Rattle.csi_keeper.specs.declared.volume.Attachment.{Attachment}
use Rattle.csi_keeper.specs.declared.volume.Volume.{Volume}
use Rattle.csi_keeper.specs.facts.Finite.{entries_retained, not_there}
use Rattle.csi_keeper.specs.facts.Orders.{place_total, place_exact}
use Rattle.csi_sql.specs.Tables.{schema}
use Rattle.csi_sql.specs.declared.formats.TheConstants.{LATEST_FORMAT}
use Rattle.csi_sql.specs.Deletes.{is_same, is_place, is_of, is_numbered, Drops}
use Rattle.csi_sql.specs.Rows.{meta_row, seen_meta, seen_volume, seen_attachment, volume_row, attachment_row}
use Rattle.csi_sql.specs.Effects.{AreKeyed, AddsAttachment, AddsNumbered, SetsFormat}
use Rattle.csi_sql.specs.Updates.{SetsParams}
use Rattle.csi_columns.specs.Encoding.{caps_bytes, params_bytes, FitCaps, FitParams}
use Rattle.csi_columns.specs.Entries.{volume_entry, attachment_entry}
use Rattle.csi_tables.specs.Holding.{IsRows, IsRowsOf, IsStorable, IsStored, IsPlaced}
use Rattle.csi_tables.specs.facts.Entries.{has_permuted}
use Rattle.csi_tables.proofs.EntryLemmas.{inserted, all_inserted, all_left, all_overwritten, entries-remove, found_has, overwritten, rises}
use Rattle.csi_tables.proofs.TestLemmas.{same_numbers, same_texts, both_eq}

-- ---- a State that rows can represent, after a change

pub storable_added : (s : State) (v : Volume) → v.number < 2 ^ 63 → IsUtf8 v.name → IsUtf8 v.pool → FitCaps v.caps → FitParams v.params v.mutable → Allows s (AddVolume v) → IsStorable s → IsStorable (changed s (AddVolume v))
storable_added s v low name pool caps params allowed h = record {
  volumes = all_inserted nat_cmp nat_cmp_total IsStored s.volumes v.number v allowed.1 (record { number = refl; small = low; name = name; pool = pool; caps = caps; params = params }) h.volumes;
  attachments = h.attachments;
}

pub storable_removed : (s : State) (n : ℕ) → IsStorable s → IsStorable (changed s (RemoveVolume n))
storable_removed s n h = record { volumes = all_left _ _ (entries s.volumes) _ (entries-remove nat_cmp_total nat_cmp-IsAntisymmetric s.volumes n) h.volumes; attachments = h.attachments }

pub storable_attached : (s : State) (n : ℕ) (a : Attachment) → n < 2 ^ 63 → IsUtf8 a.node → FitCaps (a.cap ∷ []) → get s.attachments (n, a.node) ≡ None → IsStorable s → IsStorable (changed s (Attach n a))
storable_attached s n a low text fit none h = record {
  volumes = h.volumes;
  attachments = all_inserted attachment_key_cmp place_total IsPlaced s.attachments (n, a.node) a none (record { node = refl; text = text; small = low; cap = fit }) h.attachments;
}

pub storable_detached : (s : State) (n : ℕ) (node : List ℕ) → IsStorable s → IsStorable (changed s (Detach n node))
storable_detached s n node h = record { volumes = h.volumes; attachments = all_left _ _ (entries s.attachments) _ (entries-remove place_total place_exact s.attachments (n, node)) h.attachments }

pub storable_detached_all : (s : State) (n : ℕ) → IsStorable s → IsStorable (changed s (DetachAll n))
storable_detached_all s n h = record {
  volumes = h.volumes;
  attachments = all_left _ _ (entries s.attachments) _ (entries_retained place_total place_exact s.attachments (λ q. not (q.0 == n))) h.attachments;
}

pub storable_mutable : (s : State) (n : ℕ) (m : TextMap) (v : Volume) → get s.volumes n ≡ Some v → FitParams v.params m → IsStorable s → IsStorable (changed s (SetMutable n m))
storable_mutable s n m v stands fit h =
    let was : IsStored (n, v) = all_has IsStored (entries s.volumes) (n, v) h.volumes (found_has nat_cmp-IsAntisymmetric s.volumes n v stands) in
    record {
      volumes = subst (λ (o : Option Volume). AllByRecursion IsStored (entries (mutable_set s.volumes n m o))) (sym stands)
          (all_overwritten nat_cmp_total nat_cmp-IsAntisymmetric IsStored s.volumes n (with_mutable m v) (record { number = was.number; small = was.small; name = was.name; pool = was.pool; caps = was.caps; params = fit }) h.volumes);
      attachments = h.attachments;
    }

-- ---- a number that no row can have

not_small : (n : ℕ) (es : List (ℕ × Volume)) → 2 ^ 63 ≤ n → AllByRecursion IsStored es → find nat_cmp n es ≡ None
not_small n [] far all = refl
not_small n (e ∷ es) far all = let other : is_eq (nat_cmp n e.0) ≡ false = grind (arith, nat_tests, all.0.small) in ap (λ b. cond b (Some e.1) (find nat_cmp n es)) other ∙ not_small n es far all.1

pub no_volume : (s : State) (n : ℕ) → 2 ^ 63 ≤ n → IsStorable s → get s.volumes n ≡ None
no_volume s n far h = get-entries s.volumes n ∙ not_small n (entries s.volumes) far h.volumes

not_placed : (n : ℕ) (node : List ℕ) (es : List (AttachmentKey × Attachment)) → 2 ^ 63 ≤ n → AllByRecursion IsPlaced es → find attachment_key_cmp (n, node) es ≡ None
not_placed n node [] far all = refl
not_placed n node (e ∷ es) far all =
    let other : is_eq (nat_cmp n e.0.0) ≡ false = grind (arith, nat_tests, all.0.small) in
    ap (λ b. cond b (Some e.1) (find attachment_key_cmp (n, node) es)) (both_eq (nat_cmp n e.0.0) (text_cmp node e.0.1) ∙ ap (λ b. b && is_eq (text_cmp node e.0.1)) other) ∙ not_placed n node es far all.1

pub none_removed : (n : ℕ) (s : State) → get s.volumes n ≡ None → changed s (RemoveVolume n) ≡ s
none_removed n s none = ap (λ (m : FinMap nat_cmp Volume). record s { volumes = m }) (not_there nat_cmp_total nat_cmp-IsAntisymmetric s.volumes n none)

-- parameters set for no volume
pub none_set : (n : ℕ) (m : TextMap) (s : State) → get s.volumes n ≡ None → changed s (SetMutable n m) ≡ s
none_set n m s none = ap (λ (o : Option Volume). record s { volumes = mutable_set s.volumes n m o }) none

pub nothing_set : (n : ℕ) (m : TextMap) → 2 ^ 63 ≤ n → (s : State) → IsStorable s → changed s (SetMutable n m) ≡ s
nothing_set n m far s h = none_set n m s (no_volume s n far h)

pub nothing_removed : (n : ℕ) → 2 ^ 63 ≤ n → (s : State) → IsStorable s → changed s (RemoveVolume n) ≡ s
nothing_removed n far s h = none_removed n s (no_volume s n far h)

pub nothing_detached : (n : ℕ) (node : List ℕ) → 2 ^ 63 ≤ n → (s : State) → IsStorable s → changed s (Detach n node) ≡ s
nothing_detached n node far s h =
    ap (λ (m : FinMap attachment_key_cmp Attachment). record s { attachments = m })
    (not_there place_total place_exact s.attachments (n, node) (get-entries s.attachments (n, node) ∙ not_placed n node (entries s.attachments) far h.attachments))

pub nothing_detached_all : (n : ℕ) → 2 ^ 63 ≤ n → (s : State) → IsStorable s → changed s (DetachAll n) ≡ s
nothing_detached_all n far s h =
    ap (λ (m : FinMap attachment_key_cmp Attachment). record s { attachments = m })
    (same_entries_map _ _ (entries_retained place_total place_exact s.attachments (λ q. not (q.0 == n)) ∙ all_stay (entries s.attachments) h.attachments))
  where
    all_stay : (es : List (AttachmentKey × Attachment)) → AllByRecursion IsPlaced es → filter (λ e. not (e.0.0 == n)) es ≡ es
    all_stay [] all = refl
    all_stay (e ∷ es) all = let other : not (e.0.0 == n) ≡ true = grind (arith, nat_tests, all.0.small, far) in ap (λ b. cond b (e ∷ filter (λ e. not (e.0.0 == n)) es) (filter (λ e. not (e.0.0 == n)) es)) other ∙ ap (λ xs. e ∷ xs) (all_stay es all.1)

-- ---- rows after a change

-- rows that are removed as the entries are
filtered_rows : {E : Type 0} (row : E → Row) (see : Row → Row) (es kept : List E) (rows left : List Row) (stays : E → Bool) (passes test : Row → Bool) → ((e : E) → not (test (row e)) ≡ stays e)
    → ((r : Row) → test (see r) ≡ passes r) → kept ≡ filter stays es → left ≡ filter (λ r. not (passes r)) rows → IsPermutation (map row es) (map see rows) → IsPermutation (map row kept) (map see left)
filtered_rows row see es kept rows left stays passes test on_entries on_rows kept_is left_is same =
    let mine : filter (λ x. not (test x)) (map row es) ≡ map row kept = filter-map (λ x. not (test x)) row es ∙ ap (map row) (filter_same _ _ on_entries es ∙ sym kept_is) in
    let theirs : filter (λ x. not (test x)) (map see rows) ≡ map see left = filter-map (λ x. not (test x)) see rows ∙ ap (map see) (filter_same _ _ (λ r. ap not (on_rows r)) rows ∙ sym left_is) in
    subst (λ xs. IsPermutation xs (map see left)) mine (subst (IsPermutation (filter (λ x. not (test x)) (map row es))) theirs (IsPermutation-filter (λ x. not (test x)) _ _ same))

keyed_left : (see : Row → Row) (p : Row → Bool) (rows left : List Row) → left ≡ filter p rows → AreKeyed see rows → AreKeyed see left
keyed_left see p rows left is are = record {
  keyed = λ r has. are.keyed r (has_filtered p rows r (subst (λ xs. Has xs r) is has)).0;
  one = λ a b left right. are.one a b (has_filtered p rows a (subst (λ xs. Has xs a) is left)).0 (has_filtered p rows b (subst (λ xs. Has xs b) is right)).0;
}

-- ---- no two rows of volumes have the same number

same_entry : {K X : Type 0} {R : K → K → Ordering} (o : IsTotalOrder R) (es : List (K × X)) → IsAscending (λ a b. R a.0 b.0 ≡ Less) es → (e f : K × X) → Has es e → Has es f → e.0 ≡ f.0 → e ≡ f
same_entry o [] up e f p q same = absurd p
same_entry {R = R} o (x ∷ es) up e f (inl p) (inl q) same = p ∙ sym q
same_entry {R = R} o (x ∷ es) up e f (inl p) (inr q) same = absurd (let lower = all_has (λ b. R x.0 b.0 ≡ Less) es f up.0 q in let tied = tied_itself o x.0 in let k : x.0 ≡ f.0 = ap (λ y. y.0) (sym p) ∙ same in let low : R x.0 x.0 ≡ Less = ap (R x.0) k ∙ lower in cc)
same_entry {R = R} o (x ∷ es) up e f (inr p) (inl q) same = absurd (let lower = all_has (λ b. R x.0 b.0 ≡ Less) es e up.0 p in let tied = tied_itself o x.0 in let k : x.0 ≡ e.0 = ap (λ y. y.0) (sym q) ∙ sym same in let low : R x.0 x.0 ≡ Less = ap (R x.0) k ∙ lower in cc)
same_entry o (x ∷ es) up e f (inr p) (inr q) same = same_entry o es up.1 e f p q same

seen_entry : (es : List (ℕ × Volume)) (rows : List Row) → IsPermutation (map volume_entry es) (map seen_volume rows) → (r : Row) → Has rows r → (e : ℕ × Volume) × Has es e × (seen_volume r ≡ volume_entry e)
seen_entry es rows same r has = has_mapped volume_entry es (seen_volume r) (has_permuted _ _ (seen_volume r) same (mapped_has seen_volume rows r has))

same_key : (a b : ℕ) → is_eq (value_cmp (Int (pos a)) (Int (pos b))) ≡ true → a ≡ b
same_key a b h = let e = sym (ap is_eq (value_cmp-Int (pos a) (pos b))) ∙ h in grind (arith, nat_tests, e)

pub volumes_keyed : (m : FinMap nat_cmp Volume) (rows : List Row) → IsPermutation (map volume_entry (entries m)) (map seen_volume rows) → AreKeyed seen_volume rows
volumes_keyed m rows same = record {
  keyed = λ r has. let e = seen_entry (entries m) rows same r has in ap (λ x. is_int (column x 0)) e.2;
  one = λ a b left right tied.
      let e = seen_entry (entries m) rows same a left in
      let f = seen_entry (entries m) rows same b right in
      let first : rowid a ≡ Int (pos e.0.0) = ap (λ x. column x 0) e.2 in
      let second : rowid b ≡ Int (pos f.0.0) = ap (λ x. column x 0) f.2 in
      let key : e.0.0 ≡ f.0.0 = same_key e.0.0 f.0.0 (sym (ap₂ (λ x y. is_eq (value_cmp x y)) first second) ∙ tied) in
      e.2 ∙ ap volume_entry (same_entry nat_cmp_total (entries m) (rises nat_cmp (entries m) (entries_sorted m)) e.0 f.0 e.1 f.1 key) ∙ sym f.2;
}

pub sound_after : (db : Database) → db.schema ≡ schema → IsSound db.schema db.trees → IsSound schema db.trees
sound_after db has sound = subst (λ s. IsSound s db.trees) has sound

pub rows_detached : (s : State) (n : ℕ) (node : List ℕ) (old new : Database) → old.schema ≡ schema → IsRows s old.trees → Drops 3 seen_attachment (is_place n node) old new → IsRows (changed s (Detach n node)) new.trees
rows_detached s n node old new has p h =
    let left = h.rows p.keyed in
    let kept = entries-remove place_total place_exact s.attachments (n, node) in
    record {
      meta = ap (map seen_meta) (h.others.0 (λ e. absurd (omega arith))) ∙ p.meta;
      volumes = subst (λ rows. IsPermutation (map volume_entry (entries s.volumes)) (map seen_volume rows)) (sym (h.others.1.0 (λ e. absurd (omega arith)))) p.volumes;
      attachments = filtered_rows attachment_entry seen_attachment (entries s.attachments) _ (old.trees 3) _ (λ e. not (eq_by_cmp attachment_key_cmp (n, node) e.0)) (is_place n node)
          (λ x. is_same (column x 0) (Int (pos n)) && is_same (column x 1) (Text node))
          (λ e. ap not (ap₂ (λ a b. a && b) (same_numbers e.0.0 n) (same_texts e.0.1 node) ∙ sym (both_eq (nat_cmp n e.0.0) (text_cmp node e.0.1)))) (λ r. refl) kept left p.attachments;
      keyed = keyed_left seen_attachment _ (old.trees 3) (new.trees 3) left p.keyed;
      storable = record { volumes = p.storable.volumes; attachments = all_left _ _ (entries s.attachments) _ kept p.storable.attachments };
      sound = sound_after new (h.schema ∙ has) h.sound;
    }

pub rows_detached_all : (s : State) (n : ℕ) (old new : Database) → old.schema ≡ schema → IsRows s old.trees → Drops 3 seen_attachment (is_of n) old new → IsRows (changed s (DetachAll n)) new.trees
rows_detached_all s n old new has p h =
    let left = h.rows p.keyed in
    let kept = entries_retained place_total place_exact s.attachments (λ q. not (q.0 == n)) in
    record {
      meta = ap (map seen_meta) (h.others.0 (λ e. absurd (omega arith))) ∙ p.meta;
      volumes = subst (λ rows. IsPermutation (map volume_entry (entries s.volumes)) (map seen_volume rows)) (sym (h.others.1.0 (λ e. absurd (omega arith)))) p.volumes;
      attachments = filtered_rows attachment_entry seen_attachment (entries s.attachments) _ (old.trees 3) _ (λ e. not (e.0.0 == n)) (is_of n) (λ x. is_same (column x 0) (Int (pos n)))
          (λ e. ap not (same_numbers e.0.0 n ∙ tie n e.0.0)) (λ r. refl) kept left p.attachments;
      keyed = keyed_left seen_attachment _ (old.trees 3) (new.trees 3) left p.keyed;
      storable = record { volumes = p.storable.volumes; attachments = all_left _ _ (entries s.attachments) _ kept p.storable.attachments };
      sound = sound_after new (h.schema ∙ has) h.sound;
    }
  where
    tie : (a b : ℕ) → is_eq (nat_cmp a b) ≡ (b == a)
    tie a b = grind (arith, nat_tests)

pub rows_removed : (s : State) (n : ℕ) (old new : Database) → old.schema ≡ schema → IsRows s old.trees → Drops 1 seen_volume (is_numbered n) old new → IsRows (changed s (RemoveVolume n)) new.trees
rows_removed s n old new has p h =
    let left = h.rows (volumes_keyed s.volumes (old.trees 1) p.volumes) in
    let kept = entries-remove nat_cmp_total nat_cmp-IsAntisymmetric s.volumes n in
    let others = h.others.1.1.0 (λ e. absurd (omega arith)) in
    record {
      meta = ap (map seen_meta) (h.others.0 (λ e. absurd (omega arith))) ∙ p.meta;
      volumes = filtered_rows volume_entry seen_volume (entries s.volumes) _ (old.trees 1) _ (λ e. not (eq_by_cmp nat_cmp n e.0)) (is_numbered n) (λ x. is_same (column x 0) (Int (pos n)))
          (λ e. ap not (same_numbers e.0 n)) (λ r. refl) kept left p.volumes;
      attachments = subst (λ rows. IsPermutation (map attachment_entry (entries s.attachments)) (map seen_attachment rows)) (sym others) p.attachments;
      keyed = subst (AreKeyed seen_attachment) (sym others) p.keyed;
      storable = record { volumes = all_left _ _ (entries s.volumes) _ kept p.storable.volumes; attachments = p.storable.attachments };
      sound = sound_after new (h.schema ∙ has) h.sound;
    }

pub rows_attached : (s : State) (n : ℕ) (a : Attachment) (old new : Database) → old.schema ≡ schema → IsRows s old.trees → n < 2 ^ 63 → IsUtf8 a.node → FitCaps (a.cap ∷ []) → get s.attachments (n, a.node) ≡ None
    → AddsAttachment (attachment_row n a.node (caps_bytes (a.cap ∷ [])) a.readonly) old new → IsRows (changed s (Attach n a)) new.trees
rows_attached s n a old new has p low text fit none h = record {
  meta = ap (map seen_meta) h.meta ∙ p.meta;
  volumes = subst (λ rows. IsPermutation (map volume_entry (entries s.volumes)) (map seen_volume rows)) (sym h.volumes) p.volumes;
  attachments = IsPermutation-trans _ _ _ (IsPermutation-sym _ _ (IsPermutation-map attachment_entry _ _ (inserted attachment_key_cmp place_total s.attachments (n, a.node) a none)))
      (IsPermutation-trans _ _ _ (IsPermutation-cons _ _ _ p.attachments) h.rows);
  keyed = h.keyed p.keyed;
  storable = storable_attached s n a low text fit none p.storable;
  sound = sound_after new (h.schema ∙ has) h.sound;
}

pub rows_added : (s : State) (v : Volume) (old new : Database) → old.schema ≡ schema → IsRows s old.trees → v.number < 2 ^ 63 → IsUtf8 v.name → IsUtf8 v.pool → FitCaps v.caps → FitParams v.params v.mutable → Allows s (AddVolume v)
    → AddsNumbered (volume_row v.number v.name v.bytes v.pool (caps_bytes v.caps) (params_bytes v.params v.mutable)) (v.number + 1) old new → IsRows (changed s (AddVolume v)) new.trees
rows_added s v old new has p low name pool caps params allowed h = record {
  meta = h.meta LATEST_FORMAT s.next p.meta ∙ ap (λ n. meta_row LATEST_FORMAT (n + 1) ∷ []) allowed.0;
  volumes = IsPermutation-trans _ _ _ (IsPermutation-sym _ _ (IsPermutation-map volume_entry _ _ (inserted nat_cmp nat_cmp_total s.volumes v.number v allowed.1)))
      (IsPermutation-trans _ _ _ (IsPermutation-cons _ _ _ p.volumes) (IsPermutation-map seen_volume _ _ h.rows));
  attachments = subst (λ rows. IsPermutation (map attachment_entry (entries s.attachments)) (map seen_attachment rows)) (sym h.attachments) p.attachments;
  keyed = subst (AreKeyed seen_attachment) (sym h.attachments) p.keyed;
  storable = storable_added s v low name pool caps params allowed p.storable;
  sound = sound_after new (h.schema ∙ has) h.sound;
}

-- the row of a volume of the State
pub stands_in : (s : State) (n : ℕ) (v : Volume) (db : Trees) → IsRows s db → get s.volumes n ≡ Some v → Has (map seen_volume (db 1)) (volume_entry (n, v))
stands_in s n v db p stands =
    has_permuted _ _ (volume_entry (n, v)) (IsPermutation-sym _ _ p.volumes) (mapped_has volume_entry (entries s.volumes) (n, v) (found_has nat_cmp-IsAntisymmetric s.volumes n v stands))

-- the row of the volume is removed, and the row with the new parameters is added
pub rows_mutable : (s : State) (n : ℕ) (m : TextMap) (v : Volume) (old new : Database) → old.schema ≡ schema → IsRows s old.trees → get s.volumes n ≡ Some v → FitParams v.params m → SetsParams n (params_bytes v.params m) old new
    → IsRows (changed s (SetMutable n m)) new.trees
rows_mutable s n m v old new has p stands fit h =
    let there = stands_in s n v old.trees p stands in
    let rows = h.rows (volumes_keyed s.volumes (old.trees 1) p.volumes) v.name v.bytes v.pool (caps_bytes v.caps) (params_bytes v.params v.mutable) there in
    let left = filtered_rows volume_entry seen_volume (entries s.volumes) _ (old.trees 1) _ (λ e. not (eq_by_cmp nat_cmp n e.0)) (is_numbered n) (λ x. is_same (column x 0) (Int (pos n))) (λ e. ap not (same_numbers e.0 n)) (λ r. refl) refl refl p.volumes in
    record {
      meta = ap (map seen_meta) h.meta ∙ p.meta;
      volumes = subst (λ (o : Option Volume). IsPermutation (map volume_entry (entries (mutable_set s.volumes n m o))) (map seen_volume (new.trees 1))) (sym stands)
          (IsPermutation-trans _ _ _ (IsPermutation-sym _ _ (IsPermutation-map volume_entry _ _ (overwritten nat_cmp_total nat_cmp-IsAntisymmetric s.volumes n (with_mutable m v))))
          (IsPermutation-trans _ _ _ (IsPermutation-cons (volume_entry (n, with_mutable m v)) _ _ left) (IsPermutation-map seen_volume _ _ rows)));
      attachments = subst (λ rows. IsPermutation (map attachment_entry (entries s.attachments)) (map seen_attachment rows)) (sym h.attachments) p.attachments;
      keyed = subst (AreKeyed seen_attachment) (sym h.attachments) p.keyed;
      storable = storable_mutable s n m v stands fit p.storable;
      sound = sound_after new (h.schema ∙ has) h.sound;
    }

-- rows of another format, after they got the number of this format
pub rows_latest : (format : ℕ) (s : State) (old new : Database) → old.schema ≡ schema → IsRowsOf format s old.trees → SetsFormat old new → IsRows s new.trees
rows_latest format s old new has p h = record {
  meta = h.meta format s.next p.meta;
  volumes = subst (λ rows. IsPermutation (map volume_entry (entries s.volumes)) (map seen_volume rows)) (sym h.volumes) p.volumes;
  attachments = subst (λ rows. IsPermutation (map attachment_entry (entries s.attachments)) (map seen_attachment rows)) (sym h.attachments) p.attachments;
  keyed = subst (AreKeyed seen_attachment) (sym h.attachments) p.keyed;
  storable = p.storable;
  sound = sound_after new (h.schema ∙ has) h.sound;
}
