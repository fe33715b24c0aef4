-- Checks in order: the first that finds a fault ends them with it.
use Rattle.std.proofs.Common.{◌≡◌, inl, inr, refl, Bool, true, false, List, [], ◌∷◌, Option, Some, None, Result, Ok, Err, IsErrAnd, ap, cond}
use Rattle.sqlite.specs.declared.error.Error.{Error}
use Rattle.csi_constraints.specs.Folds.{HasSome}
use Rattle.csi_adoption.specs.Faults.{failure_of, first_fault, is_failure, is_no_memory, wants_memory}
use Rattle.csi_adoption.specs.declared.fault.AdoptFault.{AdoptFault}
use Rattle.csi_adoption.specs.declared.fault.AdoptFault.TheVariants.{Foreign, Newer, Broken, Store, NoMemory}

pub fault_here : (f : Option AdoptFault) (rest : List (Option AdoptFault)) (e : AdoptFault) → f ≡ Some e → first_fault (f ∷ rest) ≡ Some e
fault_here None rest e is = absurd (cc)
fault_here (Some x) rest e is = is

pub fault_later : (f : Option AdoptFault) (rest : List (Option AdoptFault)) → f ≡ None → first_fault (f ∷ rest) ≡ first_fault rest
fault_later None rest is = refl
fault_later (Some x) rest is = absurd (cc)

-- `?` passes on the fault itself
pub is_err : {X E : Type 0} (r : Result X E) (x : E) → IsErrAnd r (λ e. e ≡ x) → r ≡ Err x
is_err (Ok y) x h = absurd h
is_err (Err e) x h = ap Err h

-- a result that is no failure is never reported as lack of memory
pub not_memory : (e : AdoptFault) → is_failure e ≡ false → is_no_memory e ≡ false
not_memory (Foreign what) known = refl
not_memory (Newer format) known = refl
not_memory (Broken rule) known = refl
not_memory (Store error) known = refl
not_memory NoMemory known = known

-- an error of the database is a failure
pub error_fails : (error : Error) → is_failure (failure_of error) ≡ true
error_fails error = go (wants_memory error)
  where
    go : (b : Bool) → is_failure (cond b NoMemory (Store error)) ≡ true
    go true = refl
    go false = refl

pub must_fail : (e : AdoptFault) → (is_failure e ≡ false → ⊥) → is_failure e ≡ true
must_fail e none = go (is_failure e) none
  where
    go : (b : Bool) → (b ≡ false → ⊥) → b ≡ true
    go true none = refl
    go false none = absurd (none refl)

-- if no part takes memory, there is no part that does
pub none_takes : {X : Type 0} (parts : List X) → HasSome (λ (x : X). ⊥) parts → ⊥
none_takes [] h = h
none_takes (x ∷ parts) (inl h) = h
none_takes (x ∷ parts) (inr h) = none_takes parts h
