-- The State that rows represent after a change, and after a change that memory refused.
use Rattle.std.proofs.Common.{◌≡◌, ◌∙◌, inl, inr, ap, sym, subst, cond, arith, refl, ℕ, ◌+◌, ◌*◌, ◌<◌, ◌≤◌, ◌^◌, List, [], ◌∷◌, length, sum, Bool, true, false, Some, None, Result, Ok, Err, OnErr}
use Rattle.std.specs.Cmp.{nat_cmp_total}
use Rattle.std.specs.FinMap as fin
use Rattle.std.specs.List.{AllByRecursion}
use Rattle.std.specs.Ordering.{nat_cmp, eq_by_cmp}
use Rattle.csi_types.specs.Maps.{TextMap, same_text}
use Rattle.csi_keeper.specs.declared.volume.Attachment.{Attachment}
use Rattle.csi_keeper.specs.declared.change.Change.TheVariants.{AddVolume, RemoveVolume, SetMutable}
use Rattle.csi_keeper.specs.declared.volume.Volume.{Volume}
use Rattle.csi_keeper.specs.declared.totals.Total.{Total}
use Rattle.csi_keeper.specs.declared.totals.Totals.{Totals}
use Rattle.csi_maps.specs.Hashing.{name_hash}
use Rattle.csi_maps.specs.Rows.{Nodes, volumes_of}
use Rattle.csi_maps.specs.Naming.{Lists, HasSameNames, IsNamed, IsUnnamed}
use Rattle.csi_maps.specs.declared.names.Names.{Names}
use Rattle.csi_memory.specs.Kept.{IsKept}
use Rattle.csi_keeper.specs.Totals.{total_of, more, less, HasRoom}
use Rattle.csi_keeper.specs.State.{State, AttachmentKey, changed, Allows, mutable_set}
use Rattle.csi_keeper.specs.Texts.{Text}
use Rattle.csi_keeper.specs.facts.Finite.{none_some, not_there, all_entries, put_there, tied}
use Rattle.csi_memory.proofs.KeptLemmas.{kept_add, kept_remove}
use Rattle.csi_keeper.specs.facts.Mutable.{stood, stands, as_many, totals_kept}
use Rattle.csi_keeper.specs.facts.Names.{nobody}
use Rattle.csi_keeper.specs.facts.Sums.{in_order, total_cons, count_cons}

pub on_err : {A E P : Type 0} (r : Result A E) → P → OnErr r P
on_err (Ok x) h = tt
on_err (Err e) h = h

-- a volume that was put into the rows is in them
pub stands_now : (es rows : List (ℕ × Volume)) (v : Volume) → volumes_of rows ≡ fin.insert (volumes_of es) v.number v → fin.get (volumes_of rows) v.number ≡ Some v
stands_now es rows v is = ap (λ (m : fin.FinMap nat_cmp Volume). fin.get m v.number) is ∙ put_there nat_cmp_total fin.nat_cmp-IsAntisymmetric (volumes_of es) v.number v

count_most : (es : List (ℕ × Volume)) (pool : Text) → length (in_order es pool) ≤ length es
count_most [] pool = omega arith
count_most (e ∷ es) pool =
    let more = count_most es pool in
    let one = count_cons e es pool in
    elim (same_text e.1.pool pool) as (λ b. length (in_order (e ∷ es) pool) ≡ cond b 1 0 + length (in_order es pool) → length (in_order (e ∷ es) pool) ≤ length (e ∷ es)) [
      | true ↦ λ o. omega (arith, o, more)
      | false ↦ λ o. omega (arith, o, more)
    ] one

sum_most : (es : List (ℕ × Volume)) (pool : Text) → AllByRecursion (λ e. e.1.bytes ≤ 2 ^ 62) es → sum (in_order es pool) ≤ 2 ^ 62 * length (in_order es pool)
sum_most [] pool a = omega arith
sum_most (e ∷ es) pool a =
    let more = sum_most es pool a.1 in
    let small = a.0 in
    let one = count_cons e es pool in
    let two = total_cons e es pool in
    elim (same_text e.1.pool pool) as (λ b. length (in_order (e ∷ es) pool) ≡ cond b 1 0 + length (in_order es pool) → sum (in_order (e ∷ es) pool) ≡ cond b e.1.bytes 0 + sum (in_order es pool) → sum (in_order (e ∷ es) pool) ≤ 2 ^ 62 * length (in_order (e ∷ es) pool)) [
      | true ↦ λ o t. omega (arith, o, t, more, small)
      | false ↦ λ o t. omega (arith, o, t, more)
    ] one two

module _ (next : ℕ) (volumes : List (ℕ × Volume)) (names : Names) (pools : Totals) (attachments : List (AttachmentKey × Attachment)) (spots : Nodes) (s : State) where
  -- the totals have room for one more volume
  pub room : (v : Volume) → IsKept next volumes names pools attachments spots s → Allows s (AddVolume v) → v.number < 2 ^ 62 → v.bytes ≤ 2 ^ 62
      → HasRoom (total_of pools v.pool) v.bytes
  room v k allows number bytes =
      let n = ap (λ (t : Total). t.volumes) (k.totals v.pool) in
      let m = ap (λ (t : Total). t.bytes) (k.totals v.pool) in
      let most = count_most (fin.entries s.volumes) v.pool in
      let len = fin.len-entries s.volumes in
      let few = k.few in
      let first = allows.0 in
      let all = all_entries nat_cmp_total fin.nat_cmp-IsAntisymmetric (λ n (v : Volume). v.bytes ≤ 2 ^ 62) s.volumes k.small in
      let sums = sum_most (fin.entries s.volumes) v.pool all in
      (omega (arith, n, most, len, few, first, number), omega (arith, m, most, len, few, first, number, sums, bytes))

  -- other rows of the same volumes
  pub kept_rows : (rows : List (ℕ × Volume)) → IsKept next volumes names pools attachments spots s → volumes_of rows ≡ volumes_of volumes → IsKept next rows names pools attachments spots s
  kept_rows rows k same = record {
    next_is = k.next_is;
    volumes_are = k.volumes_are ∙ sym same;
    attachments_are = k.attachments_are;
    named = k.named;
    hashes_stand = k.hashes_stand;
    texts_stand = k.texts_stand;
    single = k.single;
    totals = k.totals;
    few = k.few;
    small = k.small;
    spotted = k.spotted;
  }

  -- another index of the same names
  pub kept_names : (index : Names) → IsKept next volumes names pools attachments spots s → HasSameNames names index → IsKept next volumes index pools attachments spots s
  kept_names index k same = record {
    next_is = k.next_is;
    volumes_are = k.volumes_are;
    attachments_are = k.attachments_are;
    named = λ n v e. elim (k.named n v e) as (λ _. Lists index v.name n) [
      | inl a ↦ inl (same.hashes (name_hash v.name) ∙ a)
      | inr b ↦ inr (same.texts v.name ∙ b)
    ];
    hashes_stand = λ h n e. k.hashes_stand h n (sym (same.hashes h) ∙ e);
    texts_stand = λ q n e. k.texts_stand q n (sym (same.texts q) ∙ e);
    single = k.single;
    totals = k.totals;
    few = k.few;
    small = k.small;
    spotted = k.spotted;
  }

  -- a volume that was added is removed again
  pub taken_back : (v : Volume) → IsKept next volumes names pools attachments spots s → Allows s (AddVolume v) → fin.remove (fin.insert (volumes_of volumes) v.number v) v.number ≡ volumes_of volumes
  taken_back v k allows = fin.same_map nat_cmp_total fin.nat_cmp-IsAntisymmetric _ _ (λ q.
      fin.get-remove nat_cmp_total (fin.insert (volumes_of volumes) v.number v) v.number q
      ∙ ap (cond (eq_by_cmp nat_cmp q v.number) None) (fin.get-insert nat_cmp_total (volumes_of volumes) v.number v q)
      ∙ go q (eq_by_cmp nat_cmp q v.number) refl)
    where
      go : (q : ℕ) (b : Bool) → eq_by_cmp nat_cmp q v.number ≡ b → cond b None (cond b (Some v) (fin.get (volumes_of volumes) q)) ≡ fin.get (volumes_of volumes) q
      go q true t = subst (λ (j : ℕ). None ≡ fin.get (volumes_of volumes) j) (sym (fin.nat_cmp-IsAntisymmetric q v.number (tied _ t)))
          (sym (ap (λ (m : fin.FinMap nat_cmp Volume). fin.get m v.number) (sym k.volumes_are) ∙ allows.1))
      go q false t = refl

  -- no volume to remove
  pub kept_none : (rows : List (ℕ × Volume)) (n : ℕ) → IsKept next volumes names pools attachments spots s → fin.get (volumes_of volumes) n ≡ None → volumes_of rows ≡ fin.remove (volumes_of volumes) n
      → IsKept next rows names pools attachments spots (changed s (RemoveVolume n))
  kept_none rows n k none is_rows =
      let same : fin.remove (volumes_of volumes) n ≡ volumes_of volumes = not_there nat_cmp_total fin.nat_cmp-IsAntisymmetric (volumes_of volumes) n none in
      let same_state : fin.remove s.volumes n ≡ s.volumes = not_there nat_cmp_total fin.nat_cmp-IsAntisymmetric s.volumes n (ap (λ (m : fin.FinMap nat_cmp Volume). fin.get m n) k.volumes_are ∙ none) in
      subst (λ (m : fin.FinMap nat_cmp Volume). IsKept next rows names pools attachments spots (record s { volumes = m })) (sym same_state) (kept_rows rows k (is_rows ∙ same))

  -- the name was set, a refused growth left the rows, and the name was removed
  pub refused_rows : (rows : List (ℕ × Volume)) (index back : Names) (v : Volume) → IsKept next volumes names pools attachments spots s → Allows s (AddVolume v)
      → IsNamed v.name v.number names index → IsUnnamed v.name v.number index back
      → volumes_of rows ≡ volumes_of volumes → IsKept next rows back pools attachments spots s
  refused_rows rows index back v k allows is_index is_back same = record {
    next_is = k.next_is;
    volumes_are = k.volumes_are ∙ sym same;
    attachments_are = k.attachments_are;
    named = λ n w e.
        let other : w.name ≡ v.name → ⊥ = λ is. nobody s v.name n w allows.2 e is in
        is_back.others w.name n other (λ is. none_some w (sym allows.1 ∙ ap (fin.get s.volumes) (sym is) ∙ e)) (is_index.others w.name n other (k.named n w e));
    hashes_stand = λ h n e.
        let was = is_back.hashes h n e in
        elim (is_index.hashes h n was.0) as (λ _. (w : Volume) × (fin.get s.volumes n ≡ Some w) × (name_hash w.name ≡ h)) [
          | inl a ↦ k.hashes_stand h n a
          | inr b ↦ absurd (was.1 b.0 b.1)
        ];
    texts_stand = λ q n e.
        let was = is_back.texts q n e in
        elim (is_index.texts q n was.0) as (λ _. (w : Volume) × (fin.get s.volumes n ≡ Some w) × (w.name ≡ q)) [
          | inl a ↦ k.texts_stand q n a
          | inr b ↦ absurd (was.1 b.0)
        ];
    single = k.single;
    totals = k.totals;
    few = k.few;
    small = k.small;
    spotted = k.spotted;
  }

  -- the volume was added, and then removed with its name
  pub refused_total : (taken rows : List (ℕ × Volume)) (index back : Names) (kept : Totals) (v : Volume) → IsKept next volumes names pools attachments spots s → Allows s (AddVolume v)
      → IsNamed v.name v.number names index → IsUnnamed v.name v.number index back
      → volumes_of rows ≡ fin.insert (volumes_of volumes) v.number v
      → volumes_of taken ≡ fin.remove (volumes_of rows) v.number
      → ((q : Text) → total_of kept q ≡ total_of pools q) → IsKept next taken back kept attachments spots s
  refused_total taken rows index back kept v k allows is_index is_back added less same =
      let same_rows : volumes_of taken ≡ volumes_of volumes = less ∙ ap (λ (m : fin.FinMap nat_cmp Volume). fin.remove m v.number) added ∙ taken_back v k allows in
      let rest = refused_rows taken index back v k allows is_index is_back same_rows in
      record {
        next_is = rest.next_is;
        volumes_are = rest.volumes_are;
        attachments_are = rest.attachments_are;
        named = rest.named;
        hashes_stand = rest.hashes_stand;
        texts_stand = rest.texts_stand;
        single = rest.single;
        totals = λ pool. same pool ∙ rest.totals pool;
        few = rest.few;
        small = rest.small;
        spotted = rest.spotted;
      }

  -- the volume was added
  pub added : (rows : List (ℕ × Volume)) (index : Names) (kept : Totals) (v : Volume) (pool : Text) → pool ≡ v.pool → IsKept next volumes names pools attachments spots s → Allows s (AddVolume v)
      → v.number < 2 ^ 62 → v.bytes ≤ 2 ^ 62
      → IsNamed v.name v.number names index
      → volumes_of rows ≡ fin.insert (volumes_of volumes) v.number v
      → (HasRoom (total_of pools pool) v.bytes → (q : Text) → total_of kept q ≡ cond (same_text pool q) (more (total_of pools pool) v.bytes) (total_of pools q))
      → IsKept (v.number + 1) rows index kept attachments spots (changed s (AddVolume v))
  added rows index kept v pool in_pool k allows number bytes is_index add counted =
      let fits : HasRoom (total_of pools pool) v.bytes = subst (λ (p : Text). HasRoom (total_of pools p) v.bytes) (sym in_pool) (room v k allows number bytes) in
      subst (λ (n : ℕ). IsKept (n + 1) rows index kept attachments spots (changed s (AddVolume v))) (sym k.next_is ∙ sym allows.0)
      (kept_add next volumes rows names pools kept attachments spots s index v k allows bytes add is_index
      (λ q. counted fits q ∙ ap (λ (p : Text). cond (same_text p q) (more (total_of pools p) v.bytes) (total_of pools q)) in_pool))

  -- the volume was removed, also from its pool's total, and its name from the index
  pub taken : (rows : List (ℕ × Volume)) (index : Names) (kept : Totals) (n : ℕ) (v : Volume) → IsKept next volumes names pools attachments spots s
      → fin.get (volumes_of volumes) n ≡ Some v
      → volumes_of rows ≡ fin.remove (volumes_of volumes) n
      → ((q : Text) → total_of kept q ≡ cond (same_text v.pool q) (less (total_of pools v.pool) v.bytes) (total_of pools q))
      → IsUnnamed v.name n names index
      → IsKept next rows index kept attachments spots (changed s (RemoveVolume n))
  taken rows index kept n v k some is_rows is_totals is_index =
      kept_remove next volumes rows names pools kept attachments spots s index n v k (ap (λ (m : fin.FinMap nat_cmp Volume). fin.get m n) k.volumes_are ∙ some) is_rows is_totals is_index

  -- a volume got other mutable parameters, or does not exist
  pub kept_mutable : (rows : List (ℕ × Volume)) (n : ℕ) (m : TextMap) → IsKept next volumes names pools attachments spots s
      → volumes_of rows ≡ mutable_set (volumes_of volumes) n m (fin.get (volumes_of volumes) n)
      → IsKept next rows names pools attachments spots (changed s (SetMutable n m))
  kept_mutable rows n m k is = record {
    next_is = k.next_is;
    volumes_are = sym (subst (λ (vs : fin.FinMap nat_cmp Volume). volumes_of rows ≡ mutable_set vs n m (fin.get vs n)) (sym k.volumes_are) is);
    attachments_are = k.attachments_are;
    named = λ q w e. let old = was q w e in subst (λ (t : Text). Lists names t q) (sym old.2) (k.named q old.0 old.1);
    hashes_stand = λ h q e. let old = k.hashes_stand h q e in let new = still q old.0 old.1 in (new.0, new.1, ap name_hash new.2 ∙ old.2);
    texts_stand = λ t q e. let old = k.texts_stand t q e in let new = still q old.0 old.1 in (new.0, new.1, new.2 ∙ old.2);
    single = λ q r w x e f is. let a = was q w e in let b = was r x f in k.single q r a.0 b.0 a.1 b.1 (sym a.2 ∙ is ∙ b.2);
    totals = totals_kept pools s n m k.totals;
    few = let less = k.few in let same = as_many s.volumes n m in omega (arith, less, same);
    small = λ q w e. let old = stood s.volumes n m q w e in elim old.2 as (λ _. w.bytes ≤ 2 ^ 62) [
      | inl a ↦ subst (λ (x : Volume). x.bytes ≤ 2 ^ 62) (sym a) (k.small q old.0 old.1)
      | inr b ↦ subst (λ (x : Volume). x.bytes ≤ 2 ^ 62) (sym b.1) (k.small q old.0 old.1)
    ];
    spotted = k.spotted;
  }
    where
      -- each volume after the change existed before under its name, and the reverse
      was : (q : ℕ) (w : Volume) → fin.get (mutable_set s.volumes n m (fin.get s.volumes n)) q ≡ Some w → (v : Volume) × (fin.get s.volumes q ≡ Some v) × (w.name ≡ v.name)
      was q w e = let old = stood s.volumes n m q w e in (
        old.0,
        old.1,
        elim old.2 as (λ _. w.name ≡ old.0.name) [
          | inl a ↦ ap (λ (x : Volume). x.name) a
          | inr b ↦ ap (λ (x : Volume). x.name) b.1
        ],
      )

      still : (q : ℕ) (v : Volume) → fin.get s.volumes q ≡ Some v → (w : Volume) × (fin.get (mutable_set s.volumes n m (fin.get s.volumes n)) q ≡ Some w) × (w.name ≡ v.name)
      still q v e = let new = stands s.volumes n m q v e in (
        new.0,
        new.1,
        elim new.2 as (λ _. new.0.name ≡ v.name) [
          | inl a ↦ ap (λ (x : Volume). x.name) a
          | inr b ↦ ap (λ (x : Volume). x.name) b.1
        ],
      )
