-- Rows, index and totals represent the State after a change.
use Rattle.std.proofs.Common.{◌≡◌, ◌∙◌, ◌⊎◌, inl, inr, ap, sym, subst, cond, arith, refl, ℕ, ◌+◌, ◌-◌, ◌<◌, ◌≤◌, ◌^◌, max, List, Bool, true, false, Some, None}
use Rattle.std.proofs.Math.Nat.{le-max_left, sub-add-eq-max}
use Rattle.std.specs.Cmp.{nat_cmp_total}
use Rattle.std.specs.FinMap as fin
use Rattle.std.specs.Ordering.{nat_cmp, eq_by_cmp}
use Rattle.csi_types.specs.Maps.{same_text}
use Rattle.csi_keeper.specs.declared.volume.Attachment.{Attachment}
use Rattle.csi_keeper.specs.declared.change.Change.TheVariants.{AddVolume, RemoveVolume, Attach}
use Rattle.csi_keeper.specs.declared.volume.Volume.{Volume}
use Rattle.csi_keeper.specs.declared.totals.Totals.{Totals}
use Rattle.csi_maps.specs.Hashing.{name_hash}
use Rattle.csi_maps.specs.Rows.{Nodes, AreSpotted, volumes_of, places_of}
use Rattle.csi_maps.specs.Naming.{Lists, IsNamed, IsUnnamed}
use Rattle.csi_maps.specs.declared.names.Names.{Names}
use Rattle.csi_memory.specs.Kept.{IsKept}
use Rattle.csi_keeper.specs.Totals.{total_of, more, less}
use Rattle.csi_keeper.specs.State.{State, AttachmentKey, attachment_key_cmp, changed, Allows}
use Rattle.csi_memory.specs.Restoring.{CanRestore, from_number}
use Rattle.csi_keeper.specs.Texts.{Text}
use Rattle.csi_keeper.specs.facts.Names.{nobody}
use Rattle.csi_keeper.specs.facts.Finite.{none_some, same_some, tied, inserted, insert_other, put_there, removed}
use Rattle.csi_keeper.specs.facts.Totals.{totals_added, totals_removed}

-- such a volume can be added if its number is the next one
pub restorable : (s : State) (v : Volume) → CanRestore s v → Allows (from_number s v.number) (AddVolume v)
restorable s v can =
    let least : s.next ≤ v.number = can.0 in
    let whole : s.next - v.number + v.number ≡ v.number = omega (arith, least) in
    (sym whole ∙ sub-add-eq-max s.next v.number, can.1, can.2)

module _ (next : ℕ) (volumes rows : List (ℕ × Volume)) (names : Names) (pools kept : Totals) (attachments : List (AttachmentKey × Attachment)) (spots : Nodes) (s : State) where
  -- one more volume
  pub kept_add : (index : Names) (v : Volume) → IsKept next volumes names pools attachments spots s → Allows s (AddVolume v) → v.bytes ≤ 2 ^ 62
      → volumes_of rows ≡ fin.insert (volumes_of volumes) v.number v
      → IsNamed v.name v.number names index
      → ((q : Text) → total_of kept q ≡ cond (same_text v.pool q) (more (total_of pools v.pool) v.bytes) (total_of pools q))
      → IsKept (next + 1) rows index kept attachments spots (changed s (AddVolume v))
  kept_add index v k allows small is_rows is_index is_totals =
      let free : fin.get s.volumes v.number ≡ None = allows.1 in
      let split = inserted nat_cmp_total fin.nat_cmp-IsAntisymmetric s.volumes v.number v in
      let long = fin.len-insert nat_cmp_total s.volumes v.number v in
      record {
        next_is = ap (λ n. n + 1) k.next_is;
        volumes_are = ap (λ (m : fin.FinMap nat_cmp Volume). fin.insert m v.number v) k.volumes_are ∙ sym is_rows;
        attachments_are = k.attachments_are;
        named = λ n w e. elim (split n w e) as (λ _. Lists index w.name n) [
          | inl a ↦ subst (λ (x : Volume). Lists index x.name n) a.1 (subst (Lists index v.name) (sym a.0) is_index.listed)
          | inr b ↦ is_index.others w.name n (λ same. nobody s v.name n w allows.2 b same) (k.named n w b)
        ];
        hashes_stand = λ h n e. elim (is_index.hashes h n e) as (λ _. (w : Volume) × (fin.get (fin.insert s.volumes v.number v) n ≡ Some w) × (name_hash w.name ≡ h)) [
          | inl a ↦ let old = k.hashes_stand h n a in (old.0, still n old.0 old.1, old.2)
          | inr b ↦ (v, there n b.1, sym b.0)
        ];
        texts_stand = λ q n e. elim (is_index.texts q n e) as (λ _. (w : Volume) × (fin.get (fin.insert s.volumes v.number v) n ≡ Some w) × (w.name ≡ q)) [
          | inl a ↦ let old = k.texts_stand q n a in (old.0, still n old.0 old.1, old.2)
          | inr b ↦ (v, there n b.1, sym b.0)
        ];
        single = λ n m w x e f same. one n m w x (split n w e) (split m x f) same;
        totals = totals_added pools kept s v allows.1 k.totals is_totals;
        few = let old = k.few in elim (fin.contains_key s.volumes v.number) as (λ b. fin.len (fin.insert s.volumes v.number v) ≡ cond b (fin.len s.volumes) (fin.len s.volumes + 1) → fin.len (fin.insert s.volumes v.number v) < s.next + 1) [
          | true ↦ λ l. omega (arith, l, old)
          | false ↦ λ l. omega (arith, l, old)
        ] long;
        small = λ n w e. elim (split n w e) as (λ _. w.bytes ≤ 2 ^ 62) [
          | inl a ↦ subst (λ (x : Volume). x.bytes ≤ 2 ^ 62) a.1 small
          | inr b ↦ k.small n w b
        ];
        spotted = k.spotted;
      }
    where
      there : (n : ℕ) → n ≡ v.number → fin.get (fin.insert s.volumes v.number v) n ≡ Some v
      there n is = ap (fin.get (fin.insert s.volumes v.number v)) is ∙ put_there nat_cmp_total fin.nat_cmp-IsAntisymmetric s.volumes v.number v

      still : (n : ℕ) (w : Volume) → fin.get s.volumes n ≡ Some w → fin.get (fin.insert s.volumes v.number v) n ≡ Some w
      still n w e =
          let far : n ≡ v.number → ⊥ = λ same. none_some w (sym allows.1 ∙ ap (fin.get s.volumes) (sym same) ∙ e) in
          insert_other nat_cmp_total fin.nat_cmp-IsAntisymmetric s.volumes v.number v n far ∙ e

      one : (n m : ℕ) (w x : Volume) → ((n ≡ v.number) × (v ≡ w)) ⊎ (fin.get s.volumes n ≡ Some w) → ((m ≡ v.number) × (v ≡ x)) ⊎ (fin.get s.volumes m ≡ Some x) → w.name ≡ x.name → n ≡ m
      one n m w x (inl a) (inl b) same = a.0 ∙ sym b.0
      one n m w x (inl a) (inr b) same = absurd (nobody s v.name m x allows.2 b (sym same ∙ ap (λ (y : Volume). y.name) (sym a.1)))
      one n m w x (inr a) (inl b) same = absurd (nobody s v.name n w allows.2 a (same ∙ ap (λ (y : Volume). y.name) (sym b.1)))
      one n m w x (inr a) (inr b) same = k.single n m w x a b same

  -- no number below n is given any more
  pub kept_next : (n : ℕ) → IsKept next volumes names pools attachments spots s → IsKept (max next n) volumes names pools attachments spots (from_number s n)
  kept_next n k = record {
    next_is = ap (λ m. max m n) k.next_is;
    volumes_are = k.volumes_are;
    attachments_are = k.attachments_are;
    named = k.named;
    hashes_stand = k.hashes_stand;
    texts_stand = k.texts_stand;
    single = k.single;
    totals = k.totals;
    few = let few = k.few in let up = le-max_left s.next n in omega (arith, few, up);
    small = k.small;
    spotted = k.spotted;
  }

  -- one volume less
  pub kept_remove : (index : Names) (n : ℕ) (v : Volume) → IsKept next volumes names pools attachments spots s → fin.get s.volumes n ≡ Some v
      → volumes_of rows ≡ fin.remove (volumes_of volumes) n
      → ((q : Text) → total_of kept q ≡ cond (same_text v.pool q) (less (total_of pools v.pool) v.bytes) (total_of pools q))
      → IsUnnamed v.name n names index
      → IsKept next rows index kept attachments spots (changed s (RemoveVolume n))
  kept_remove index n v k some is_rows is_totals is_index =
      let old = removed nat_cmp_total fin.nat_cmp-IsAntisymmetric s.volumes n in
      let long = fin.len-remove nat_cmp_total s.volumes n in
      record {
        next_is = k.next_is;
        volumes_are = ap (λ (m : fin.FinMap nat_cmp Volume). fin.remove m n) k.volumes_are ∙ sym is_rows;
        attachments_are = k.attachments_are;
        named = λ m w e. let was = old m w e in is_index.others w.name m (λ same. was.0 (k.single m n w v was.1 some same)) was.0 (k.named m w was.1);
        hashes_stand = λ h m e.
            let was = is_index.hashes h m e in
            let who = k.hashes_stand h m was.0 in
            (who.0, left m who.0 who.1 (λ is. was.1 (sym who.2 ∙ ap (λ (x : Volume). name_hash x.name) (whose m who.0 who.1 is)) is), who.2);
        texts_stand = λ q m e.
            let was = is_index.texts q m e in
            let who = k.texts_stand q m was.0 in
            (who.0, left m who.0 who.1 (λ is. was.1 (sym who.2 ∙ ap (λ (x : Volume). x.name) (whose m who.0 who.1 is))), who.2);
        single = λ m l w x e f same. k.single m l w x (old m w e).1 (old l x f).1 same;
        totals = totals_removed pools kept s n v some k.totals is_totals;
        few = let less = k.few in elim (fin.contains_key s.volumes n) as (λ b. fin.len (fin.remove s.volumes n) ≡ cond b (fin.len s.volumes - 1) (fin.len s.volumes) → fin.len (fin.remove s.volumes n) < s.next) [
          | true ↦ λ l. omega (arith, l, less)
          | false ↦ λ l. omega (arith, l, less)
        ] long;
        small = λ m w e. k.small m w (old m w e).1;
        spotted = k.spotted;
      }
    where
      whose : (m : ℕ) (w : Volume) → fin.get s.volumes m ≡ Some w → m ≡ n → w ≡ v
      whose m w e is = same_some w v (sym e ∙ ap (fin.get s.volumes) is ∙ some)

      left : (m : ℕ) (w : Volume) → fin.get s.volumes m ≡ Some w → (m ≡ n → ⊥) → fin.get (fin.remove s.volumes n) m ≡ Some w
      left m w e far = fin.get-remove nat_cmp_total s.volumes n m ∙ go (eq_by_cmp nat_cmp m n) refl
        where
          go : (b : Bool) → eq_by_cmp nat_cmp m n ≡ b → cond b None (fin.get s.volumes m) ≡ Some w
          go true u = absurd (far (fin.nat_cmp-IsAntisymmetric m n (tied _ u)))
          go false u = e

module _ (next : ℕ) (volumes : List (ℕ × Volume)) (names : Names) (pools : Totals) (attachments : List (AttachmentKey × Attachment)) (spots : Nodes) (s : State) where
  -- other attachments, with their index
  pub kept_places : (rows : List (AttachmentKey × Attachment)) (index : Nodes) (m : fin.FinMap attachment_key_cmp Attachment) → IsKept next volumes names pools attachments spots s → m ≡ places_of rows → AreSpotted rows index
      → IsKept next volumes names pools rows index (record s { attachments = m })
  kept_places rows index m k is spotted = record {
    next_is = k.next_is;
    volumes_are = k.volumes_are;
    attachments_are = is;
    named = k.named;
    hashes_stand = k.hashes_stand;
    texts_stand = k.texts_stand;
    single = k.single;
    totals = k.totals;
    few = k.few;
    small = k.small;
    spotted = spotted;
  }

  free : (n : ℕ) (a : Attachment) → IsKept next volumes names pools attachments spots s → Allows s (Attach n a) → fin.get (places_of attachments) (n, a.node) ≡ None
  free n a k allows = ap (λ (m : fin.FinMap attachment_key_cmp Attachment). fin.get m (n, a.node)) (sym k.attachments_are) ∙ allows.1

  -- one more attachment, with its spot
  pub kept_attached : (rows : List (AttachmentKey × Attachment)) (index : Nodes) (n : ℕ) (a : Attachment) → IsKept next volumes names pools attachments spots s → Allows s (Attach n a)
      → places_of rows ≡ fin.insert (places_of attachments) (n, a.node) a
      → (fin.get (places_of attachments) (n, a.node) ≡ None → AreSpotted attachments spots → AreSpotted rows index)
      → IsKept next volumes names pools rows index (changed s (Attach n a))
  kept_attached rows index n a k allows is_rows is_spotted =
      kept_places rows index (fin.insert s.attachments (n, a.node) a) k
      (ap (λ (m : fin.FinMap attachment_key_cmp Attachment). fin.insert m (n, a.node) a) k.attachments_are ∙ sym is_rows)
      (is_spotted (free n a k allows) k.spotted)

  -- the attachment was not made
  pub kept_unattached : (rows : List (AttachmentKey × Attachment)) (index : Nodes) (n : ℕ) (a : Attachment) → IsKept next volumes names pools attachments spots s → Allows s (Attach n a)
      → rows ≡ attachments
      → (fin.get (places_of attachments) (n, a.node) ≡ None → AreSpotted attachments spots → AreSpotted rows index)
      → IsKept next volumes names pools rows index s
  kept_unattached rows index n a k allows is_rows is_spotted =
      kept_places rows index s.attachments k
      (k.attachments_are ∙ sym (ap (λ (es : List (AttachmentKey × Attachment)). places_of es) is_rows))
      (is_spotted (free n a k allows) k.spotted)
