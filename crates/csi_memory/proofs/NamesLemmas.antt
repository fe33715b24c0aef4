-- The facts about a State that the index of names and the totals give.
use Rattle.std.proofs.Common.{◌≡◌, ◌∙◌, ◌⊎◌, inl, inr, ap, sym, subst, cond, refl, ℕ, List, [], ◌∷◌, map, find, Bool, true, false, Option, Some, None}
use Rattle.std.specs.Cmp.{nat_cmp_total}
use Rattle.std.specs.FinMap as fin
use Rattle.std.specs.List.{AllByRecursion}
use Rattle.std.specs.Option.{option_or}
use Rattle.std.specs.Ordering.{nat_cmp}
use lib.Pointwise.{bytes_decides}
use Rattle.csi_types.specs.Maps.{same_text}
use Rattle.csi_keeper.specs.declared.volume.Attachment.{Attachment}
use Rattle.csi_keeper.specs.declared.volume.Volume.{Volume}
use Rattle.csi_keeper.specs.declared.totals.Totals.{Totals}
use Rattle.csi_maps.specs.Hashing.{name_hash}
use Rattle.csi_maps.specs.Rows.{Nodes, volumes_of}
use Rattle.csi_maps.specs.Naming.{named_by, at_number, at_hash, at_text, if_named}
use Rattle.csi_maps.specs.declared.names.Names.{Names}
use Rattle.csi_memory.specs.Kept.{IsKept}
use Rattle.csi_keeper.specs.State.{State, AttachmentKey, named}
use Rattle.csi_keeper.specs.Texts.{Text}
use Rattle.csi_keeper.specs.facts.Names.{nobody}
use Rattle.csi_keeper.specs.facts.Finite.{none_some, same_some, all_entries}

-- a volume found among the values is stored under a number
found_number : (m : fin.FinMap nat_cmp Volume) (p : Volume → Bool) (es : List (ℕ × Volume)) (v : Volume) → AllByRecursion (λ e. fin.get m e.0 ≡ Some e.1) es → find p (map (λ e. e.1) es) ≡ Some v
    → (n : ℕ) × (fin.get m n ≡ Some v) × (p v ≡ true)
found_number m p [] v a f = absurd (none_some v f)
found_number m p (e ∷ es) v a f = go (found_number m p es v a.1) (p e.1) refl f
  where
    go : (find p (map (λ e. e.1) es) ≡ Some v → (n : ℕ) × (fin.get m n ≡ Some v) × (p v ≡ true)) → (b : Bool) → p e.1 ≡ b → cond b (Some e.1) (find p (map (λ e. e.1) es)) ≡ Some v → (n : ℕ) × (fin.get m n ≡ Some v) × (p v ≡ true)
    go next true t h = let same = same_some e.1 v h in (e.0, a.0 ∙ ap Some same, subst (λ (w : Volume). p w ≡ true) same t)
    go next false t h = next h

module _ (next : ℕ) (volumes : List (ℕ × Volume)) (names : Names) (pools : Totals) (attachments : List (AttachmentKey × Attachment)) (spots : Nodes) (s : State) where
  -- the index finds the volume with a name
  pub named_kept : (name : Text) → IsKept next volumes names pools attachments spots s → named_by names (volumes_of volumes) name ≡ named s name
  named_kept name k = subst (λ (m : fin.FinMap nat_cmp Volume). named_by names m name ≡ named s name) k.volumes_are (go (named s name) refl)
    where
      -- no volume has the name
      no_hash : named s name ≡ None → (o : Option ℕ) → if_named name (at_number s.volumes o) ≡ None
      no_hash e None = refl
      no_hash e (Some n) = one (fin.get s.volumes n) refl
        where
          one : (o : Option Volume) → fin.get s.volumes n ≡ o → if_named name o ≡ None
          one None i = refl
          one (Some v) i = two (same_text v.name name) refl
            where
              two : (b : Bool) → same_text v.name name ≡ b → cond b (Some v) None ≡ None
              two true t = absurd (nobody s name n v e i ((bytes_decides v.name name).0 t))
              two false t = refl

      no_text : named s name ≡ None → (o : Option ℕ) → at_text names name ≡ o → at_number s.volumes o ≡ None
      no_text e None i = refl
      no_text e (Some n) i = let one = k.texts_stand name n i in absurd (nobody s name n one.0 e one.1 one.2)

      -- a volume has the name
      is_own : (v : Volume) → v.name ≡ name → if_named name (Some v) ≡ Some v
      is_own v is = ap (λ b. cond b (Some v) None) ((bytes_decides v.name name).1 is)

      -- the hash leads to the volume with the name, to a volume with another name, or to no volume
      by_hash : (n : ℕ) (v : Volume) → fin.get s.volumes n ≡ Some v → v.name ≡ name → (o : Option ℕ) → (if_named name (at_number s.volumes o) ≡ None) ⊎ (if_named name (at_number s.volumes o) ≡ Some v)
      by_hash n v i is None = inl refl
      by_hash n v i is (Some m) = one (fin.get s.volumes m) refl
        where
          one : (o : Option Volume) → fin.get s.volumes m ≡ o → (if_named name o ≡ None) ⊎ (if_named name o ≡ Some v)
          one None j = inl refl
          one (Some w) j = two (same_text w.name name) refl
            where
              two : (b : Bool) → same_text w.name name ≡ b → (cond b (Some w) None ≡ None) ⊎ (cond b (Some w) None ≡ Some v)
              two true t =
                  let same : m ≡ n = k.single m n w v j i ((bytes_decides w.name name).0 t ∙ sym is) in
                  inr (sym j ∙ ap (fin.get s.volumes) same ∙ i)
              two false t = inl refl

      go : (o : Option Volume) → named s name ≡ o → named_by names s.volumes name ≡ o
      go None e = ap (λ o. option_or o (at_number s.volumes (at_text names name))) (no_hash e (at_hash names (name_hash name))) ∙ no_text e (at_text names name) refl
      go (Some v) e =
          let all = all_entries nat_cmp_total fin.nat_cmp-IsAntisymmetric (λ n v. fin.get s.volumes n ≡ Some v) s.volumes (λ n v g. g) in
          let one = found_number s.volumes (λ v. same_text v.name name) (fin.entries s.volumes) v all e in
          let is : v.name ≡ name = (bytes_decides v.name name).0 one.2 in
          elim (k.named one.0 v one.1) as (λ _. named_by names s.volumes name ≡ Some v) [
            | inl a ↦
                let at : at_hash names (name_hash name) ≡ Some one.0 = ap (λ (t : Text). at_hash names (name_hash t)) (sym is) ∙ a in
                ap (λ o. option_or (if_named name (at_number s.volumes o)) (at_number s.volumes (at_text names name))) at
                ∙ ap (λ o. option_or (if_named name o) (at_number s.volumes (at_text names name))) one.1
                ∙ ap (λ o. option_or o (at_number s.volumes (at_text names name))) (is_own v is)
            | inr b ↦
                let at : at_text names name ≡ Some one.0 = ap (at_text names) (sym is) ∙ b in
                let is_it : at_number s.volumes (at_text names name) ≡ Some v = ap (at_number s.volumes) at ∙ one.1 in
                elim (by_hash one.0 v one.1 is (at_hash names (name_hash name))) as (λ _. named_by names s.volumes name ≡ Some v) [
                  | inl c ↦ ap (λ o. option_or o (at_number s.volumes (at_text names name))) c ∙ is_it
                  | inr d ↦ ap (λ o. option_or o (at_number s.volumes (at_text names name))) d
                ]
          ]
