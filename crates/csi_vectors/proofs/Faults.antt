-- Faults that are passed on.
use Rattle.std.proofs.Common.{◌≡◌, ◌∙◌, Bool, true, false, true≢false, Result, Ok, Err, IsErrAnd, ap, refl, sym}
use Rattle.csi_vectors.specs.declared.vector.LineFault.{LineFault}
use Rattle.csi_vectors.specs.declared.vector.LineFault.TheVariants as fault
use Rattle.csi_vectors.specs.declared.running.RunHalt.{RunHalt}
use Rattle.csi_vectors.specs.declared.running.RunHalt.TheVariants as halt
use Rattle.csi_vectors.specs.Running.{halt_of}

pub is_err : {X E : Type 0} (r : Result X E) (x : E) → IsErrAnd r (λ e. e ≡ x) → r ≡ Err x
is_err (Ok y) x h = absurd h
is_err (Err e) x h = ap Err h

abbrev is_bad : Result Bool RunHalt → Bool
is_bad (Ok failed) = false
is_bad (Err halt.BadLine) = true
is_bad (Err halt.WriteFailed) = false
is_bad (Err halt.NoMemory) = false

-- a line is no vector only if this fault was reported for it
pub bad_line : (r : Result Bool RunHalt) (x : LineFault) → IsErrAnd r (λ e. e ≡ halt_of x) → r ≡ Err halt.BadLine → x ≡ fault.NotVector
bad_line r fault.NotVector h b = refl
bad_line r fault.NoMemory h b = absurd (true≢false (sym (ap is_bad b) ∙ ap is_bad (is_err r halt.NoMemory h)))
