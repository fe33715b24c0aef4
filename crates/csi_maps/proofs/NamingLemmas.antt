-- The index of names after a change of its trees.
use Rattle.std.proofs.Common.{◌≡◌, ◌∙◌, ◌⊎◌, inl, inr, ap, sym, cond, refl, ℕ, List, Bool, true, false, Option, Some, None}
use Rattle.std.specs.BTreeMap.{is_at}
use Rattle.std.specs.FinMap.{nat_cmp-IsAntisymmetric}
use Rattle.std.specs.Map.{lookup}
use Rattle.std.specs.Ordering.{nat_cmp, is_eq}
use Rattle.std.proofs.lemmas.Cmp.{nat_list_cmp_total, tied_itself}
use Rattle.csi_keeper.specs.Texts.{Text, text_cmp}
use Rattle.csi_keeper.specs.facts.Finite.{none_some, same_some, tied}
use Rattle.csi_keeper.specs.facts.Orders.{text_exact}
use Rattle.csi_maps.specs.Hashing.{name_hash}
use Rattle.csi_maps.specs.Rows.{IsSetAt}
use Rattle.csi_maps.specs.Naming.{IsHashDropped, IsNamed, IsUnnamed, Lists, at_hash, at_text}
use Rattle.csi_maps.specs.declared.names.Names.{Names}

same_text_at : (name q : Text) → is_at (text_cmp name) q ≡ true → name ≡ q
same_text_at name q t = text_exact name q (tied _ t)

-- a hash got a number for a moment
hash_back : (old mid new : List (ℕ × ℕ)) (hash n first : ℕ) → lookup (is_at (nat_cmp hash)) old ≡ Some first
    → IsSetAt nat_cmp hash (Some n) old mid → IsSetAt nat_cmp hash (Some first) mid new
    → (h : ℕ) → lookup (is_at (nat_cmp h)) new ≡ lookup (is_at (nat_cmp h)) old
hash_back old mid new hash n first was set back h =
    back h ∙ ap (λ (o : Option ℕ). cond (is_at (nat_cmp hash) h) (Some first) o) (set h) ∙ go (is_at (nat_cmp hash) h) refl
  where
    go : (b : Bool) → is_at (nat_cmp hash) h ≡ b → cond b (Some first) (cond b (Some n) (lookup (is_at (nat_cmp h)) old)) ≡ lookup (is_at (nat_cmp h)) old
    go true t = sym was ∙ ap (λ (k : ℕ). lookup (is_at (nat_cmp k)) old) (nat_cmp-IsAntisymmetric hash h (tied _ t))
    go false t = refl

-- a name got its number by its text, because another name has its hash
pub named_tied : (name : Text) (n first : ℕ) (old new : Names) (mid : List (ℕ × ℕ)) → at_hash old (name_hash name) ≡ Some first
    → IsSetAt nat_cmp (name_hash name) (Some n) old.by_hash.entries mid → IsSetAt nat_cmp (name_hash name) (Some first) mid new.by_hash.entries
    → IsSetAt text_cmp name (Some n) old.by_text.entries new.by_text.entries → IsNamed name n old new
named_tied name n first old new mid was set back text = record {
  listed = inr (text name ∙ ap (λ b. cond b (Some n) (at_text old name)) (ap is_eq (tied_itself nat_list_cmp_total name)));
  others = λ q m far l. elim l as (λ _. Lists new q m) [
    | inl a ↦ inl (same (name_hash q) ∙ a)
    | inr b ↦ inr (text q ∙ stays q m far b (is_at (text_cmp name) q) refl)
  ];
  hashes = λ h m e. inl (sym (same h) ∙ e);
  texts = λ q m e. whose q m (is_at (text_cmp name) q) refl (sym (text q) ∙ e);
}
  where
    same : (h : ℕ) → at_hash new h ≡ at_hash old h
    same h = hash_back old.by_hash.entries mid new.by_hash.entries (name_hash name) n first was set back h

    stays : (q : Text) (m : ℕ) → (q ≡ name → ⊥) → at_text old q ≡ Some m → (b : Bool) → is_at (text_cmp name) q ≡ b → cond b (Some n) (at_text old q) ≡ Some m
    stays q m far e true t = absurd (far (sym (same_text_at name q t)))
    stays q m far e false t = e

    whose : (q : Text) (m : ℕ) (b : Bool) → is_at (text_cmp name) q ≡ b → cond b (Some n) (at_text old q) ≡ Some m → (at_text old q ≡ Some m) ⊎ ((q ≡ name) × (m ≡ n))
    whose q m true t e = inr (sym (same_text_at name q t), sym (same_some n m e))
    whose q m false t e = inl e

-- a name was removed
pub unnamed : (name : Text) (n : ℕ) (old new : Names) → IsHashDropped (name_hash name) n old.by_hash.entries new.by_hash.entries
    → IsSetAt text_cmp name None old.by_text.entries new.by_text.entries → IsUnnamed name n old new
unnamed name n old new hash text = record {
  others = λ q m far low l. elim l as (λ _. Lists new q m) [
    | inl a ↦ inl (hash.others (name_hash q) m low a)
    | inr b ↦ inr (text q ∙ stays q m far b (is_at (text_cmp name) q) refl)
  ];
  hashes = hash.left;
  texts = λ q m e. left q m (is_at (text_cmp name) q) refl (sym (text q) ∙ e);
}
  where
    stays : (q : Text) (m : ℕ) → (q ≡ name → ⊥) → at_text old q ≡ Some m → (b : Bool) → is_at (text_cmp name) q ≡ b → cond b None (at_text old q) ≡ Some m
    stays q m far e true t = absurd (far (sym (same_text_at name q t)))
    stays q m far e false t = e

    left : (q : Text) (m : ℕ) (b : Bool) → is_at (text_cmp name) q ≡ b → cond b None (at_text old q) ≡ Some m → (at_text old q ≡ Some m) × (q ≡ name → ⊥)
    left q m true t e = absurd (none_some m e)
    left q m false t e = (e, λ is. let itself : is_at (text_cmp name) q ≡ true = ap (λ (k : Text). is_at (text_cmp name) k) is ∙ ap is_eq (tied_itself nat_list_cmp_total name) in absurd (cc (itself, t)))
