-- The access of a capability after one more payload.
use Rattle.std.proofs.Common.{◌≡◌, ℕ, Bool, true, false, cond, eqb, List, [], ◌∷◌, ◌++◌, Option, None, Some, refl, sym, ap, ◌∙◌, ◌⊎◌, inl, inr}
use Rattle.std.proofs.lemmas.Bool.{eqb-true}
use Rattle.std.proofs.lemmas.List.{append-nil}
use Rattle.pbwire.specs.Wire.{WireField}
use Rattle.csi_types.specs.declared.capability.Mount.{Mount}
use Rattle.csi_types.specs.declared.capability.Access.{Access}
use Rattle.csi_types.specs.declared.capability.Access.TheVariants as variants
use Rattle.pbmessage.specs.Fields.{fields_of}
use Rattle.pbmessage.specs.Views.{Payloads, value_of, joined}
use Rattle.pbmessage.specs.facts.Views.{run_before, joined-push}
use Rattle.csi_codec.specs.messages.Capability.{access, mount_in}

abbrev mount : List WireField → Mount
mount = value_of mount_in

pub mount_again : (o : Option (ℕ × Payloads)) (m new : Mount) (p : List ℕ) → variants.Mount m ≡ access o → ((seen : List WireField) → m ≡ mount seen → new ≡ mount (seen ++ fields_of p)) → variants.Mount new ≡ access (Some (2, run_before 2 o ++ p ∷ []))
mount_again None m new p h step = absurd cc
mount_again (Some run) m new p h step = from (eqb run.0 1) (eqb run.0 2) h
  where
    same : (x y : Mount) → variants.Mount x ≡ variants.Mount y → x ≡ y
    same x y e = cc

    from : (a b : Bool) → variants.Mount m ≡ cond a variants.Block (cond b (variants.Mount (mount (joined run.1))) variants.Missing) → variants.Mount new ≡ variants.Mount (mount (joined (cond b run.1 [] ++ p ∷ [])))
    from true b e = absurd cc
    from false true e = ap (λ (x : Mount). variants.Mount x) (step (joined run.1) (same m (mount (joined run.1)) e) ∙ ap mount (sym (joined-push run.1 p)))
    from false false e = absurd cc

pub mount_first : (o : Option (ℕ × Payloads)) (old : Access) (new : Mount) (p : List ℕ) → old ≡ access o → ((m : Mount) → old ≡ variants.Mount m → ⊥) → new ≡ mount (fields_of p) → variants.Mount new ≡ access (Some (2, run_before 2 o ++ p ∷ []))
mount_first None old new p h other is = ap (λ (x : Mount). variants.Mount x) (is ∙ ap mount (sym (append-nil (fields_of p))))
mount_first (Some run) old new p h other is = from (eqb run.0 1) (eqb run.0 2) (eqb_two run.0) h
  where
    eqb_two : (n : ℕ) → eqb n 1 ≡ true → eqb n 2 ≡ false
    eqb_two n e = ap (λ (k : ℕ). eqb k 2) (eqb-true n 1 e)

    from : (a b : Bool) → (a ≡ true → b ≡ false) → old ≡ cond a variants.Block (cond b (variants.Mount (mount (joined run.1))) variants.Missing) → variants.Mount new ≡ variants.Mount (mount (joined (cond b run.1 [] ++ p ∷ [])))
    from true true d e = absurd (let w = d refl in cc)
    from false true d e = absurd (other (mount (joined run.1)) e)
    from a false d e = ap (λ (x : Mount). variants.Mount x) (is ∙ ap mount (sym (append-nil (fields_of p))))

pub not_mount : (a : Access) → ((a ≡ variants.Missing) ⊎ (a ≡ variants.Block)) → (m : Mount) → a ≡ variants.Mount m → ⊥
not_mount a (inl e) m h = let w : variants.Missing ≡ variants.Mount m = sym e ∙ h in cc
not_mount a (inr e) m h = let w : variants.Block ≡ variants.Mount m = sym e ∙ h in cc
