-- Trees as finite maps.
use Rattle.std.proofs.Common.{◌≡◌, ◌∙◌, ap, sym, cond, ℕ, List, [], ◌∷◌, Some, None, refl, Ordering}
use Rattle.std.specs.BTreeMap.{is_at}
use Rattle.std.specs.Cmp.{IsTotalOrder, nat_cmp_total, eq_by_cmp_equiv}
use Rattle.std.specs.FinMap as fin
use Rattle.std.specs.Map.{lookup}
use Rattle.std.specs.Ordering.{nat_cmp}
use Rattle.csi_keeper.specs.declared.volume.Attachment.{Attachment}
use Rattle.csi_keeper.specs.declared.volume.Volume.{Volume}
use Rattle.csi_maps.specs.Rows.{volumes_of, places_of, IsSetAt}
use Rattle.csi_keeper.specs.State.{AttachmentKey, attachment_key_cmp}
use Rattle.csi_keeper.specs.facts.Orders.{place_total, place_exact}

module _ {K X : Type 0} {R : K → K → Rattle.std.specs.declared.cmp.Ordering.Ordering} (o : IsTotalOrder R) (exact : fin.IsAntisymmetric R) where
  pub find_lookup : (es : List (K × X)) (q : K) → fin.find R q es ≡ lookup (is_at (R q)) es
  find_lookup [] q = refl
  find_lookup (e ∷ es) q = ap (cond (is_at (R q) e.0) (Some e.1)) (find_lookup es q)

  pub tree_get : (es : List (K × X)) (q : K) → fin.get (fin.from_entries {R = R} es) q ≡ lookup (is_at (R q)) es
  tree_get es q = fin.get-from_entries o es q ∙ find_lookup es q

  pub tree_insert : (es fs : List (K × X)) (k : K) (v : X) → IsSetAt R k (Some v) es fs → fin.from_entries {R = R} fs ≡ fin.insert (fin.from_entries es) k v
  tree_insert es fs k v h = fin.same_map o exact _ _ (λ q.
      tree_get fs q ∙ h q ∙ ap (λ b. cond b (Some v) (lookup (is_at (R q)) es)) ((eq_by_cmp_equiv o).symm k q)
      ∙ sym (fin.get-insert o (fin.from_entries es) k v q ∙ ap (cond (is_at (R q) k) (Some v)) (tree_get es q)))

  pub tree_remove : (es fs : List (K × X)) (k : K) → IsSetAt R k None es fs → fin.from_entries {R = R} fs ≡ fin.remove (fin.from_entries es) k
  tree_remove es fs k h = fin.same_map o exact _ _ (λ q.
      tree_get fs q ∙ h q ∙ ap (λ b. cond b None (lookup (is_at (R q)) es)) ((eq_by_cmp_equiv o).symm k q)
      ∙ sym (fin.get-remove o (fin.from_entries es) k q ∙ ap (cond (is_at (R q) k) None) (tree_get es q)))

pub get_number : {X : Type 0} (es : List (ℕ × X)) (q : ℕ) → fin.get (fin.from_entries {R = nat_cmp} es) q ≡ lookup (is_at (nat_cmp q)) es
get_number es q = tree_get nat_cmp_total fin.nat_cmp-IsAntisymmetric es q

pub one_volume : (es fs : List (ℕ × Volume)) (k : ℕ) (v : Volume) → IsSetAt nat_cmp k (Some v) es fs → volumes_of fs ≡ fin.insert (volumes_of es) k v
one_volume es fs k v h = tree_insert nat_cmp_total fin.nat_cmp-IsAntisymmetric es fs k v h

pub no_volume : (es fs : List (ℕ × Volume)) (k : ℕ) → IsSetAt nat_cmp k None es fs → volumes_of fs ≡ fin.remove (volumes_of es) k
no_volume es fs k h = tree_remove nat_cmp_total fin.nat_cmp-IsAntisymmetric es fs k h

pub one_place : (es fs : List (AttachmentKey × Attachment)) (k : AttachmentKey) (v : Attachment) → IsSetAt attachment_key_cmp k (Some v) es fs
    → places_of fs ≡ fin.insert (places_of es) k v
one_place es fs k v h = tree_insert place_total place_exact es fs k v h

pub no_place : (es fs : List (AttachmentKey × Attachment)) (k : AttachmentKey) → IsSetAt attachment_key_cmp k None es fs
    → places_of fs ≡ fin.remove (places_of es) k
no_place es fs k h = tree_remove place_total place_exact es fs k h
