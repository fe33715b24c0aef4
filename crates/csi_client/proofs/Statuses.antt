-- Each status of a reply is the number of a code.
use Rattle.std.proofs.Common.{◌≡◌, ℕ, Bool, true, false, inl, inr, ◌⊎◌, refl, ◌∙◌}
use Rattle.std.specs.Prelude.{◌==◌, ◌||◌}
use Rattle.std.proofs.lemmas.Bool.{eqb-true}
use Rattle.envelope.specs.Envelope.{is_status}
use Rattle.csi_types.specs.Codes.{number_of}
use Rattle.csi_types.specs.declared.code.Code.{Code}
use Rattle.csi_types.specs.declared.code.Code.TheVariants as code

abbrev HasCode : ℕ → Type 0
HasCode n = (c : Code) × (n ≡ number_of c)

either : (a b : Bool) → (a || b) ≡ true → (a ≡ true) ⊎ (b ≡ true)
either true b e = inl refl
either false b e = inr e

one_of : (n k : ℕ) (c : Code) (more : Bool) → k ≡ number_of c → ((n == k) || more) ≡ true → (more ≡ true → HasCode n) → HasCode n
one_of n k c more e h later = elim (either (n == k) more h) [ inl same ↦ (c, eqb-true n k same ∙ e) | inr rest ↦ later rest ]

pub code_of : (n : ℕ) → is_status n ≡ true → HasCode n
code_of n h =
    one_of n 0 code.Ok _ refl h (λ h. one_of n 3 code.InvalidArgument _ refl h (λ h. one_of n 5 code.NotFound _ refl h (λ h. one_of n 6 code.AlreadyExists _ refl h (λ h. one_of n 8 code.ResourceExhausted _ refl h (λ h.
    one_of n 9 code.FailedPrecondition _ refl h (λ h. one_of n 10 code.Aborted _ refl h (λ h. one_of n 11 code.OutOfRange _ refl h (λ h. one_of n 12 code.Unimplemented _ refl h (λ h. one_of n 13 code.Internal _ refl h (λ h. absurd cc))))))))))
