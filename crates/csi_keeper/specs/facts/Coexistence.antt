-- Attachments that coexist.
use Rattle.std.proofs.Common.{◌≡◌, ◌∙◌, ap, sym, refl, ◌==◌, ◌&&◌, ◌||◌, Bool, true, false, eq-eqb, eqb-true}
use Rattle.csi_keeper.specs.Coexistence.{coexist, is_shared}
use Rattle.csi_keeper.specs.declared.volume.Attachment.{Attachment}

-- attachments that coexist also coexist in the other order
one_way : (a b : Attachment) → coexist a b ≡ true → coexist b a ≡ true
one_way a b h = go (a.cap.mode == b.cap.mode) refl h
  where
    or_turned : (x y : Bool) → (x || y) ≡ (y || x)
    or_turned true true = refl
    or_turned true false = refl
    or_turned false true = refl
    or_turned false false = refl

    go : (d : Bool) → (a.cap.mode == b.cap.mode) ≡ d → (d && is_shared a.cap.mode (a.readonly || b.readonly)) ≡ true → coexist b a ≡ true
    go false t h = absurd (cc)
    go true t h =
        let same : a.cap.mode ≡ b.cap.mode = eqb-true _ _ t in
        ap (λ x. x && is_shared b.cap.mode (b.readonly || a.readonly)) (eq-eqb _ _ (sym same))
        ∙ ap (is_shared b.cap.mode) (or_turned b.readonly a.readonly)
        ∙ ap (λ m. is_shared m (a.readonly || b.readonly)) (sym same)
        ∙ h

pub coexist_turned : (a b : Attachment) → coexist a b ≡ coexist b a
coexist_turned a b = go (coexist a b) refl (coexist b a) refl
  where
    go : (x : Bool) → coexist a b ≡ x → (y : Bool) → coexist b a ≡ y → x ≡ y
    go true t true u = refl
    go true t false u = let v = one_way a b t in absurd (cc (u, v))
    go false t true u = let v = one_way b a u in absurd (cc (t, v))
    go false t false u = refl
