-- Rows of attachments that pass every constraint are the attachments of a State.
use Rattle.std.proofs.Common.{◌≡◌, ◌∙◌, inl, inr, refl, sym, ap, subst, ℕ, ◌≤◌, true, false, ◌&&◌, List, [], ◌∷◌, map, filter, length, drop, bytes_eq, Option, Some, IfSome, unwrap_or, IsPermutation, Less}
use Rattle.std.specs.FinMap.{FinMap, entries, from_entries, get}
use Rattle.std.specs.List.{AllByRecursion, list_all}
use Rattle.std.specs.Ordering.{nat_cmp}
use Rattle.std.proofs.lemmas.Bool.{and_parts}
use Rattle.std.proofs.lemmas.List.Sorted.{IsPermutation-map, IsPermutation-sym, IsPermutation-trans}
use Rattle.sqlite.specs.Order.{Row, column, value_cmp}
use Rattle.sqlite.specs.Tree.{Trees}
use Rattle.sqlite.specs.View.{is_int}
use Rattle.sqlite.specs.declared.types.Value.{Value}
use Rattle.sqlite.specs.declared.types.Value.TheVariants.{Text}
use Rattle.sqlite_catalog.specs.Listing.{IsSound}
use Rattle.sqlite_keyed.proofs.ListLemmas.{map-map, ascending-map, ascending_from_map}
use Rattle.sqlite_rules.specs.Lists.{Has}
use Rattle.sqlite_rules.proofs.ListLemmas.{all_from, all_has, test_has}
use Rattle.sqlite_rules.proofs.ProbeLemmas.{has_mapped, mapped_has}
use Rattle.sqlite_trees.proofs.ListLemmas.{all-map, all-permutation}
use Rattle.csi_config.specs.Values as listing
use Rattle.csi_config.specs.declared.config.Config.{Config}
use Rattle.csi_config.specs.declared.nodes.Node.{Node}
use Rattle.csi_keeper.specs.Capability.{is_supported_key}
use Rattle.csi_keeper.specs.Coexistence.{coexist}
use Rattle.csi_keeper.specs.Invariant.{IsAttached, IsVolume}
use Rattle.csi_keeper.specs.State.{AttachmentKey, State, attachment_key_cmp}
use Rattle.csi_keeper.specs.Texts.{Text as Bytes}
use Rattle.csi_keeper.specs.declared.capability.CapKey.{CapKey}
use Rattle.csi_keeper.specs.declared.capability.Kind.TheVariants.{Block}
use Rattle.csi_keeper.specs.declared.volume.Attachment.{Attachment}
use Rattle.csi_keeper.specs.declared.volume.Volume.{Volume}
use Rattle.csi_keeper.specs.facts.Coexistence.{coexist_turned}
use Rattle.csi_keeper.specs.facts.Orders.{place_exact, place_total}
use Rattle.csi_sql.specs.Tables.{schema}
use Rattle.csi_sql.specs.Cells.{as_flag, as_number, as_text}
use Rattle.csi_sql.specs.Rows.{number_value, seen_attachment, seen_volume}
use Rattle.csi_constraints.specs.Scans.{IsInOrder, keyed_attachment, owners}
use Rattle.csi_constraints.specs.facts.Keyed.{keyed_attachments}
use Rattle.csi_columns.specs.Encoding.{FitCaps}
use Rattle.csi_columns.specs.Entries.{attachment_entry, volume_entry}
use Rattle.csi_tables.specs.Holding.{IsPlaced, IsStored}
use Rattle.csi_constraints.specs.Agreement.{AttachmentAgrees, OwnerAgrees, PairAgrees}
use Rattle.csi_constraints.specs.Apart.{are_apart, NoneApart}
use Rattle.csi_constraints.specs.Attachments.{has_flag, is_at_node, is_node}
use Rattle.csi_constraints.specs.Coded.{has_cap, key_at}
use Rattle.csi_constraints.specs.Joins.{is_owned}
use Rattle.csi_constraints.specs.Kinds.{has_attachment_kinds, is_blob, is_integer, is_text}
use Rattle.csi_constraints.specs.Values.{is_some_and}
use Rattle.csi_adoption.specs.FoundAttachments.{AttachmentsAreFound, FoundAttachments, StandsAmong}
use Rattle.csi_adoption.specs.Passing.{AttachmentsAreKnown, AttachmentsPass}
use Rattle.csi_adoption.proofs.AttachmentCellLemmas.{flag_cell, key_cell, text_cell}
use Rattle.csi_tables.specs.facts.Entries.{has_permuted}
use Rattle.csi_adoption.proofs.AttachmentMapLemmas.{AreApart, got_has, made_of, shown_by}
use Rattle.csi_adoption.proofs.PlaceLemmas.{ascending_has, not_not, one_way}
use Rattle.csi_adoption.proofs.AttachmentRowLemmas.{counted, not_twice, numbered}

-- ---- lists

mapped_alike : {A B : Type 0} (f g : A → B) (xs : List A) → ((x : A) → Has xs x → f x ≡ g x) → map f xs ≡ map g xs
mapped_alike f g [] same = refl
mapped_alike f g (x ∷ xs) same = λ i. same x (inl refl) i ∷ mapped_alike f g xs (λ y has. same y (inr has)) i

-- a fact of all items of a list is a fact of an item of the configuration's list
pub all_listed : {X : Type 0} (P : X → Type 0) (xs : List X) (x : X) → AllByRecursion P xs → listing.Has xs x → P x
all_listed P [] x all has = absurd has
all_listed P (y ∷ xs) x all (inl same) = subst P same all.0
all_listed P (y ∷ xs) x all (inr later) = all_listed P xs x all.1 later

-- ---- the attachment of a row

spare : CapKey
spare = record { kind = Block; mode = 0 }

-- the attachment that a row with its rowid in front represents
said : Row → AttachmentKey × Attachment
said x = (
  (unwrap_or (as_number (column x 1)) 0, unwrap_or (as_text (column x 2)) []),
  record { node = unwrap_or (as_text (column x 2)) []; cap = unwrap_or (key_at 3 x) spare; readonly = unwrap_or (as_flag (column x 4)) false },
)

-- a row encodes an attachment that the volumes allow
record Says (config : Config) (volumes : FinMap nat_cmp Volume) (x : Row) (e : AttachmentKey × Attachment) : Type 0 where
  entry : drop 1 x ≡ attachment_entry e
  placed : IsPlaced e
  stands : StandsAmong config volumes e.0.0 e.0.1 e.1
  supported : is_supported_key e.1.cap ≡ true

module _ (attachment_agrees : (config : Config) (rowid : Value) (e : AttachmentKey × Attachment) → AttachmentAgrees config rowid e) (owner_agrees : (e : AttachmentKey × Attachment) (own : List CapKey) → OwnerAgrees e own)
    (pair_agrees : (e f : AttachmentKey × Attachment) → PairAgrees e f)
    (config : Config) (next : ℕ) (db : Trees) (volumes : FinMap nat_cmp Volume) (rows owned places : List Row)
    (sound : IsSound schema db) (order : IsInOrder (map keyed_attachment (db 3)) rows) (pass : AttachmentsPass config rows) (known : AttachmentsAreKnown rows)
    (volumes_in_order : IsPermutation (map volume_entry (entries volumes)) (map seen_volume (db 1))) (stored : AllByRecursion IsStored (entries volumes))
    (each : (n : ℕ) (v : Volume) → get volumes n ≡ Some v → IsVolume config next n v)
    (owned_are : IsPermutation (owners (db 3) (db 1)) owned) (owned_pass : list_all is_owned owned ≡ true)
    (places_are : IsPermutation (map seen_attachment (db 3)) places) (none : NoneApart places) where
  -- ---- each row

  row_shown : (r : Row) → Has (db 3) r → Has rows (keyed_attachment r)
  row_shown r has = has_permuted rows _ (keyed_attachment r) (IsPermutation-sym _ _ order.same) (mapped_has keyed_attachment (db 3) r has)

  shown_row : (x : Row) → Has rows x → (r : Row) × Has (db 3) r × (x ≡ keyed_attachment r)
  shown_row x has = has_mapped keyed_attachment (db 3) x (has_permuted (map keyed_attachment (db 3)) rows x order.same has)

  says_row : (r : Row) → Has (db 3) r → Says config volumes (keyed_attachment r) (said (keyed_attachment r))
  unfolding said
  says_row r has =
      let shown = row_shown r has in
      let kinds = test_has has_attachment_kinds rows (keyed_attachment r) pass.kinds shown in
      let front = and_parts (is_integer (column r 1) && is_text (column r 2) && is_blob (column r 3)) (is_integer (column r 4)) kinds in
      let firsts = and_parts (is_integer (column r 1) && is_text (column r 2)) (is_blob (column r 3)) front.0 in
      let both = and_parts (is_integer (column r 1)) (is_text (column r 2)) firsts.0 in
      let text = text_cell (column r 2) both.1 in
      let key = key_cell is_supported_key (column r 3) (test_has has_cap rows (keyed_attachment r) pass.caps shown) in
      let flag = flag_cell (column r 4) (test_has has_flag rows (keyed_attachment r) pass.flags shown) in
      let own = numbered owner_agrees volumes (db 3) (db 1) volumes_in_order stored (λ n v some. (each n v some).caps) owned owned_are owned_pass r has both.0 in
      let fit : FitCaps (key.0 ∷ []) = subst (λ (o : Option CapKey). IfSome o (λ k. FitCaps (k ∷ []))) key.1 (all_has (λ x. IfSome (key_at 3 x) (λ k. FitCaps (k ∷ []))) rows (keyed_attachment r) known.caps shown) in
      let e : AttachmentKey × Attachment = ((own.number, text.0), record { node = text.0; cap = key.0; readonly = flag.0 }) in
      let node = ap (λ v. is_some_and (is_node config.nodes) (as_text v)) (sym text.1) ∙ test_has (is_at_node config.nodes) rows (keyed_attachment r) pass.nodes shown in
      let says : Says config volumes (keyed_attachment r) e = record {
        entry = λ i. own.is i ∷ text.1 i ∷ key.2 i ∷ flag.2 i ∷ [];
        placed = record { node = refl; text = text.2; small = own.stored.small; cap = fit };
        stands = record { at = refl; known = (attachment_agrees config (column r 0) e).node.0 node; volume = own.volume; stands = own.stands; cap = own.cap key.0 key.2 fit key.3 };
        supported = key.3;
      } in
      let same : said (keyed_attachment r) ≡ e = λ i. (
        (unwrap_or (as_number (own.is i)) 0, unwrap_or (as_text (text.1 i)) []),
        record { node = unwrap_or (as_text (text.1 i)) []; cap = unwrap_or (key.1 i) spare; readonly = unwrap_or (flag.1 i) false },
      ) in
      subst (Says config volumes (keyed_attachment r)) (sym same) says

  says : (x : Row) → Has rows x → Says config volumes x (said x)
  says x has = let r = shown_row x has in subst (λ y. Says config volumes y (said y)) (sym r.2) (says_row r.0 r.1)

  -- ---- no two rows represent the same place

  apart_rows : (a b : Row) → Has (db 3) a → Has (db 3) b → value_cmp (column a 0) (column b 0) ≡ Less → (said (keyed_attachment a)).0 ≡ (said (keyed_attachment b)).0 → ⊥
  apart_rows a b left right less same =
      let p = (says_row a left).entry in
      let q = (says_row b right).entry in
      let integer : (r : Row) → Has (db 3) r → is_int (column r 0) ≡ true = λ r has. all_has (λ x. is_int (column x 0) ≡ true) rows (keyed_attachment r) known.rising.integers (row_shown r has) in
      not_twice db sound a b left right (integer a left) (integer b right) less (said (keyed_attachment a)).0.0 (said (keyed_attachment a)).0.1
      (ap (λ (x : Row). column x 0) p) (ap (λ (x : Row). column x 0) q ∙ ap (λ (k : AttachmentKey). number_value k.0) (sym same))
      (ap (λ (x : Row). column x 1) p) (ap (λ (x : Row). column x 1) q ∙ ap (λ (k : AttachmentKey). Text k.1) (sym same))

  apart : AreApart (map said rows)
  apart =
      ascending-map (λ e f. e.0 ≡ f.0 → ⊥) said rows
      (ascending_has (λ x y. value_cmp (column x 0) (column y 0) ≡ Less) (λ x y. (said x).0 ≡ (said y).0 → ⊥) rows
      (λ x y left right less.
      let a = shown_row x left in
      let b = shown_row y right in
      subst (λ u. (said u).0 ≡ (said y).0 → ⊥) (sym a.2) (subst (λ w. (said (keyed_attachment a.0)).0 ≡ (said w).0 → ⊥) (sym b.2)
      (apart_rows a.0 b.0 a.1 b.1 (subst (λ w. value_cmp (column a.0 0) (column w 0) ≡ Less) b.2 (subst (λ u. value_cmp (column u 0) (column y 0) ≡ Less) a.2 less)))))
      (ascending_from_map (λ v w. value_cmp v w ≡ Less) (λ (r : Row). column r 0) rows known.rising.rising))

  -- ---- the attachments

  found : FinMap attachment_key_cmp Attachment
  found = from_entries (map said rows)

  found_all : IsPermutation (map said rows) (entries found)
  unfolding found
  found_all = made_of place_total place_exact (map said rows) apart

  each_found : (P : AttachmentKey × Attachment → Type 0) → ((x : Row) → Has rows x → P (said x)) → AllByRecursion P (entries found)
  each_found P good = all-permutation P (map said rows) (entries found) found_all (all-map P said rows (all_from (λ x. P (said x)) rows good))

  listed : IsPermutation (map attachment_entry (entries found)) (map seen_attachment (db 3))
  listed =
      let entry : map attachment_entry (map said rows) ≡ map (drop 1) rows =
      map-map attachment_entry said rows ∙ mapped_alike (λ x. attachment_entry (said x)) (drop 1) rows (λ x has. sym (says x has).entry) in
      let seen : map (drop 1) (map keyed_attachment (db 3)) ≡ map seen_attachment (db 3) = map-map (drop 1) keyed_attachment (db 3) in
      IsPermutation-trans _ _ _ (IsPermutation-sym _ _ (IsPermutation-map attachment_entry _ _ found_all))
      (subst (λ xs. IsPermutation xs (map seen_attachment (db 3))) (sym entry)
      (IsPermutation-sym _ _ (subst (λ xs. IsPermutation xs (map (drop 1) rows)) seen (IsPermutation-map (drop 1) _ _ order.same))))

  stands_found : (n : ℕ) (node : Bytes) (a : Attachment) → get found (n, node) ≡ Some a → StandsAmong config volumes n node a
  stands_found n node a some =
      all_has (λ e. StandsAmong config volumes e.0.0 e.0.1 e.1) (entries found) ((n, node), a) (each_found _ (λ x has. (says x has).stands))
      (got_has place_total place_exact found (n, node) a some)

  -- ---- any two of one volume

  -- each attachment has a row
  row_of : (e : AttachmentKey × Attachment) → Has (entries found) e → (r : Row) × Has (db 3) r × (attachment_entry e ≡ seen_attachment r)
  row_of e has = shown_by seen_attachment attachment_entry (db 3) (entries found) (IsPermutation-sym _ _ listed) e has

  placed : AllByRecursion IsPlaced (entries found)
  placed = each_found IsPlaced (λ x has. (says x has).placed)

  supported : AllByRecursion (λ e. is_supported_key e.1.cap ≡ true) (entries found)
  supported = each_found _ (λ x has. (says x has).supported)

  -- each attachment is in one of the rows that are ordered by number
  place_shown : (e : AttachmentKey × Attachment) → Has (entries found) e → Has places (attachment_entry e)
  place_shown e has =
      let r = row_of e has in
      subst (Has places) (sym r.2) (has_permuted places (map seen_attachment (db 3)) (seen_attachment r.0) (IsPermutation-sym _ _ places_are) (mapped_has seen_attachment (db 3) r.0 r.1))

  beside_reported : (e f : AttachmentKey × Attachment) → Has (entries found) e → Has (entries found) f → e.0.0 ≡ f.0.0 → are_apart (attachment_entry e) (attachment_entry f) ≡ false → coexist e.1 f.1 ≡ true
  beside_reported e f left right same far =
      let good = λ (g : AttachmentKey × Attachment) (has : Has (entries found) g). all_has (λ e. is_supported_key e.1.cap ≡ true) (entries found) g supported has in
      let small = λ (g : AttachmentKey × Attachment) (has : Has (entries found) g). all_has IsPlaced (entries found) g placed has in
      not_not (coexist e.1 f.1) (sym ((pair_agrees e f).beside same (small e left).cap (good e left) (small f right).cap (good f right)) ∙ far)

  coexist_found : (n : ℕ) (d e : Bytes) (a b : Attachment) → get found (n, d) ≡ Some a → get found (n, e) ≡ Some b → (d ≡ e → ⊥) → coexist a b ≡ true
  coexist_found n d e a b one other far =
      elim (one_way (λ x y. are_apart x y ≡ false) places (attachment_entry ((n, d), a)) (attachment_entry ((n, e), b)) none (place_shown ((n, d), a) left) (place_shown ((n, e), b) right) (λ same. far (ap text_of same))) [
        | inl first ↦ beside_reported ((n, d), a) ((n, e), b) left right refl first
        | inr second ↦ coexist_turned a b ∙ beside_reported ((n, e), b) ((n, d), a) right left refl second
      ]
    where
      left : Has (entries found) ((n, d), a)
      left = got_has place_total place_exact found (n, d) a one

      right : Has (entries found) ((n, e), b)
      right = got_has place_total place_exact found (n, e) b other

      text_of : Row → Bytes
      text_of r = unwrap_or (as_text (column r 1)) []

  -- ---- at each node

  nodes_found : (m : Node) → listing.Has config.nodes m → length (map (λ e. e.0.0) (filter (λ e. bytes_eq e.0.1 m.id) (entries found))) ≤ m.max_volumes
  nodes_found m has = subst (λ k. k ≤ m.max_volumes) (counted (entries found) (db 3) rows listed order.same m.id) (all_listed _ config.nodes m pass.counts has)

  pub found_attachments : FoundAttachments config volumes db
  found_attachments = record {
    attachments = found;
    listed = listed;
    placed = placed;
    keyed = keyed_attachments (db 3) rows order known.rising;
    each = stands_found;
    beside = coexist_found;
    nodes = nodes_found;
  }

-- as above, for the rows that two scans show
pub attachments_found : ((config : Config) (rowid : Value) (e : AttachmentKey × Attachment) → AttachmentAgrees config rowid e) → ((e : AttachmentKey × Attachment) (own : List CapKey) → OwnerAgrees e own)
    → ((e f : AttachmentKey × Attachment) → PairAgrees e f) → AttachmentsAreFound
attachments_found attachment_agrees owner_agrees pair_agrees config next db volumes volumes_in_order rows owned places sound shown are stored each order pass known owned_are owned_pass places_are none =
    found_attachments attachment_agrees owner_agrees pair_agrees config next db volumes rows owned places sound order pass known
    (subst (λ xs. IsPermutation xs (map seen_volume (db 1))) (sym are) (IsPermutation-sym _ _ shown.same)) stored each owned_are owned_pass places_are none

-- the attachment is attached in a State that has these volumes
pub is_attached : (config : Config) (s : State) (n : ℕ) (node : Bytes) (a : Attachment) → StandsAmong config s.volumes n node a → IsAttached config s n node a
is_attached config s n node a h = record { at = h.at; known = h.known; volume = h.volume; stands = h.stands; cap = h.cap }
