-- The facts about a State that its rows give.
use Rattle.std.proofs.Common.{◌≡◌, ◌∙◌, ap, sym, subst, is_some, arith, refl, ℕ, ◌==◌, ◌≤◌, nat_lt, zero, suc, List, [], ◌∷◌, map, filter, take, length, sum}
use Rattle.std.specs.BTreeMap.{is_at}
use Rattle.std.specs.BTreeMap.Range.{entries_between}
use Rattle.std.specs.FinMap as fin
use Rattle.std.specs.List.Sorted.{IsStrictlySortedBy}
use Rattle.std.specs.Map.{lookup}
use Rattle.std.specs.Option.{option_map}
use Rattle.std.specs.Ordering.{nat_cmp}
use Rattle.std.specs.declared.ops.Bound.TheVariants.{Included, Excluded, Unbounded}
use Rattle.csi_types.specs.Maps.{same_text}
use Rattle.csi_keeper.specs.declared.volume.Attachment.{Attachment}
use Rattle.csi_keeper.specs.declared.volume.Volume.{Volume}
use Rattle.csi_keeper.specs.declared.totals.Totals.{Totals}
use Rattle.csi_keeper.specs.Totals.{total_of, zero_total, the_total, reported}
use Rattle.csi_maps.specs.Rows.{Nodes, HasNoEmpty, has_spot, numbers_by, volumes_of, places_of, place_end, nodes_in, listed_in}
use Rattle.csi_memory.specs.Kept.{IsKept}
use Rattle.csi_maps.specs.declared.names.Names.{Names}
use Rattle.csi_keeper.specs.State.{State, AttachmentKey, attachment_key_cmp, sizes, page, attached, attached_at, count_at, published_of_page, used, first_state}
use Rattle.csi_keeper.specs.Listing.{listed_at, listing}
use Rattle.csi_keeper.specs.Texts.{Text, text_cmp}
use Rattle.csi_maps.specs.facts.Listing.{page_rows, place_rows}
use Rattle.csi_keeper.specs.facts.Finite.{none_listed, none_some}
use Rattle.csi_maps.specs.facts.Spots.{numbers_spotted}
use Rattle.csi_keeper.specs.facts.Sums.{in_order}

mapped_page : {X : Type 0} (f : Volume → X) (count : ℕ) (es : List (ℕ × Volume)) → take count (map (λ e. f e.1) es) ≡ map f (take count (map (λ e. e.1) es))
mapped_page f zero es = refl
mapped_page f (suc count) [] = refl
mapped_page f (suc count) (e ∷ es) = ap (λ xs. f e.1 ∷ xs) (mapped_page f count es)

module _ (next : ℕ) (volumes : List (ℕ × Volume)) (names : Names) (pools : Totals) (attachments : List (AttachmentKey × Attachment)) (spots : Nodes) (s : State) where
  pub held_next : IsKept next volumes names pools attachments spots s → next ≡ s.next
  held_next k = sym k.next_is

  pub held_number : (n : ℕ) → IsKept next volumes names pools attachments spots s → fin.get (volumes_of volumes) n ≡ fin.get s.volumes n
  held_number n k = ap (λ (m : fin.FinMap nat_cmp Volume). fin.get m n) (sym k.volumes_are)

  pub held_has : (n : ℕ) → IsKept next volumes names pools attachments spots s → is_some (fin.get (volumes_of volumes) n) ≡ is_some (fin.get s.volumes n)
  held_has n k = ap is_some (held_number n k)

  pub held_caps : (n : ℕ) → IsKept next volumes names pools attachments spots s → option_map (λ (v : Volume). v.caps) (fin.get (volumes_of volumes) n) ≡ option_map (λ (v : Volume). v.caps) (fin.get s.volumes n)
  held_caps n k = ap (option_map (λ (v : Volume). v.caps)) (held_number n k)

  rows : IsKept next volumes names pools attachments spots s → fin.entries (volumes_of volumes) ≡ volumes → volumes ≡ fin.entries s.volumes
  rows k o = sym o ∙ ap (λ (m : fin.FinMap nat_cmp Volume). fin.entries m) (sym k.volumes_are)

  places : IsKept next volumes names pools attachments spots s → fin.entries (places_of attachments) ≡ attachments → attachments ≡ fin.entries s.attachments
  places k o = sym o ∙ ap (λ (m : fin.FinMap attachment_key_cmp Attachment). fin.entries m) (sym k.attachments_are)

  pub held_sizes : (pool : Text) → fin.entries (volumes_of volumes) ≡ volumes → IsKept next volumes names pools attachments spots s → map (λ v. v.bytes) (filter (λ v. same_text v.pool pool) (map (λ e. e.1) volumes)) ≡ sizes s pool
  held_sizes pool o k = ap (λ (es : List (ℕ × Volume)). map (λ v. v.bytes) (filter (λ v. same_text v.pool pool) (map (λ e. e.1) es))) (rows k o)

  pub held_page : (after count : ℕ) → fin.entries (volumes_of volumes) ≡ volumes → IsKept next volumes names pools attachments spots s → take count (map (λ e. e.1) (entries_between nat_cmp (Excluded after) Unbounded volumes)) ≡ page s after count
  held_page after count o k =
      ap (λ (es : List (ℕ × Volume)). take count (map (λ e. e.1) es)) (page_rows volumes after)
      ∙ ap (λ (es : List (ℕ × Volume)). take count (map (λ e. e.1) (filter (λ e. nat_lt after e.0) es))) (rows k o)

  -- the nodes of a page
  pub held_nodes : (after count : ℕ) → fin.entries (volumes_of volumes) ≡ volumes → IsKept next volumes names pools attachments spots s
      → take count (map (λ e. nodes_in attachments e.1.number) (entries_between nat_cmp (Excluded after) Unbounded volumes)) ≡ published_of_page s after count
  held_nodes after count o k =
      mapped_page (λ v. nodes_in attachments v.number) count (entries_between nat_cmp (Excluded after) Unbounded volumes)
      ∙ ap (λ (vs : List Volume). map (λ v. nodes_in attachments v.number) vs) (held_page after count o k)
      ∙ ap (λ (m : fin.FinMap attachment_key_cmp Attachment). map (λ v. map (λ a. a.node) (map (λ e. e.1) (filter (λ e. e.0.0 == v.number) (fin.entries m)))) (page s after count)) (sym k.attachments_are)

  -- the listing of a page
  pub held_listing : (after count : ℕ) → fin.entries (volumes_of volumes) ≡ volumes → IsKept next volumes names pools attachments spots s
      → take count (map (λ e. listed_in attachments e.1) (entries_between nat_cmp (Excluded after) Unbounded volumes)) ≡ listing s after count
  held_listing after count o k =
      mapped_page (listed_in attachments) count (entries_between nat_cmp (Excluded after) Unbounded volumes)
      ∙ ap (λ (vs : List Volume). map (listed_in attachments) vs) (held_page after count o k)
      ∙ ap (λ (m : fin.FinMap attachment_key_cmp Attachment). map (λ v. listed_at v (map (λ a. a.node) (map (λ e. e.1) (filter (λ e. e.0.0 == v.number) (fin.entries m))))) (page s after count)) (sym k.attachments_are)

  pub held_places : (n : ℕ) → fin.entries (places_of attachments) ≡ attachments → IsKept next volumes names pools attachments spots s → map (λ e. e.1) (filter (λ e. e.0.0 == n) (entries_between attachment_key_cmp (Included (n, [])) (place_end n) attachments)) ≡ attached s n
  held_places n o k =
      ap (λ (es : List (AttachmentKey × Attachment)). map (λ e. e.1) es) (place_rows attachments n)
      ∙ ap (λ (es : List (AttachmentKey × Attachment)). map (λ e. e.1) (filter (λ e. e.0.0 == n) es)) (places k o)

  pub held_at : (node : Text) → IsStrictlySortedBy nat_cmp (numbers_by spots node) → IsKept next volumes names pools attachments spots s → numbers_by spots node ≡ attached_at s node
  held_at node o k =
      numbers_spotted attachments spots node k.spotted o
      ∙ ap (λ (m : fin.FinMap attachment_key_cmp Attachment). map (λ e. e.0.0) (filter (λ e. same_text e.0.1 node) (fin.entries m))) (sym k.attachments_are)

  pub held_count : (node : Text) → IsStrictlySortedBy nat_cmp (numbers_by spots node) → IsKept next volumes names pools attachments spots s → length (numbers_by spots node) ≡ count_at s node
  held_count node o k = ap (λ (ns : List ℕ). length ns) (held_at node o k)

  -- the kept total is the used bytes
  pub held_used : (pool : Text) → IsKept next volumes names pools attachments spots s → reported (total_of pools pool) ≡ used s pool
  held_used pool k = ap reported (k.totals pool)

-- trees without entries and zero totals represent the first State
pub first_held : (first : ℕ) → 1 ≤ first → (volumes : List (ℕ × Volume)) (names : Names) (pools : Totals) (attachments : List (AttachmentKey × Attachment)) (spots : Nodes)
    → volumes ≡ [] → names.by_hash.entries ≡ [] → names.by_text.entries ≡ [] → attachments ≡ [] → spots ≡ [] → ((q : Text) → total_of pools q ≡ zero_total) → IsKept first volumes names pools attachments spots (first_state first)
first_held first least volumes names pools attachments spots no_volumes no_hashes no_texts no_attachments no_spots none = record {
  next_is = refl;
  volumes_are = sym (ap (λ (es : List (ℕ × Volume)). volumes_of es) no_volumes);
  attachments_are = sym (ap (λ (es : List (AttachmentKey × Attachment)). places_of es) no_attachments);
  named = λ n v e. absurd (none_some v (sym (fin.get-empty {X = Volume} nat_cmp n) ∙ e));
  hashes_stand = λ h n e. absurd (none_some n (sym (ap (λ (es : List (ℕ × ℕ)). lookup (is_at (nat_cmp h)) es) no_hashes) ∙ e));
  texts_stand = λ q n e. absurd (none_some n (sym (ap (λ (es : List (Text × ℕ)). lookup (is_at (text_cmp q)) es) no_texts) ∙ e));
  single = λ n m v w e. absurd (none_some v (sym (fin.get-empty {X = Volume} nat_cmp n) ∙ e));
  totals = λ pool. none pool ∙ sym (ap (λ (es : List (ℕ × Volume)). the_total (length (in_order es pool)) (sum (in_order es pool))) no_rows);
  few = let z = fin.len-empty nat_cmp Volume in omega (arith, z, least);
  small = λ n v e. absurd (none_some v (sym (fin.get-empty {X = Volume} nat_cmp n) ∙ e));
  spotted = record {
    found = λ q.
        ap (λ (es : Nodes). has_spot es q) no_spots
        ∙ sym (ap (λ (es : List (AttachmentKey × Attachment)). is_some (fin.get (places_of es) (q.1, q.0))) no_attachments ∙ ap is_some (fin.get-empty {X = Attachment} attachment_key_cmp (q.1, q.0)));
    no_empty = subst HasNoEmpty (sym no_spots) (λ node numbers e. absurd (none_some numbers e));
  };
}
  where
    no_rows : fin.entries (fin.empty {X = Volume} {R = nat_cmp}) ≡ []
    no_rows = none_listed nat_cmp
