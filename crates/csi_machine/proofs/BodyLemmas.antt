-- The bytes of a vector after a first part, as a body.
use Rattle.std.proofs.Common.{◌≡◌, ap, cond, subst, sym, ℕ, ◌-◌, ◌≤◌, ◌++◌, List, drop, length, take}
use Rattle.std.proofs.lemmas.Bool.{le-leb}
use Rattle.std.proofs.lemmas.List.{length-drop, take-append-drop}
use Rattle.csi_types.specs.declared.reason.Reason.TheVariants.{ReplyTooLarge}
use Rattle.envelope.specs.declared.limits.TheConstants.{MAX_BODY_BYTES}
use Rattle.csi_machine.specs.Verdicts.{Says, Denies, within}

is_small : (from : ℕ) (old : List ℕ) → length old - from ≤ MAX_BODY_BYTES → length (drop from old) ≤ MAX_BODY_BYTES
is_small from old small = subst (λ n. n ≤ MAX_BODY_BYTES) (sym (length-drop from old)) small

pub body_after : (from : ℕ) (old : List ℕ) → length old - from ≤ MAX_BODY_BYTES → (body : List ℕ) × (old ≡ take from old ++ body) × (length body ≤ MAX_BODY_BYTES)
body_after from old small = (drop from old, sym (take-append-drop from old), is_small from old small)

pub said_after : (from : ℕ) (old : List ℕ) → length old - from ≤ MAX_BODY_BYTES → (body : List ℕ) × (within (drop from old) ≡ Says body) × (old ≡ take from old ++ body)
said_after from old small =
    (drop from old, ap (λ b. cond b (Says (drop from old)) (Denies ReplyTooLarge)) (le-leb _ _ (is_small from old small)), sym (take-append-drop from old))
