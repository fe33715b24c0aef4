-- The answers to a call, by whether the keeper was down when the call began.
use Rattle.std.specs.Prelude.{◌≡◌, Bool, true, false, Result, Err, IfOk}
use Rattle.csi_keeper.specs.declared.change.StoreFault.{StoreFault}
use Rattle.csi_keeper.specs.declared.change.StoreFault.TheVariants.{Refused, Down}

-- `Down` is answered only if the keeper was down, and `Refused` only if it was not. Any other answer of a
-- keeper that is down does not depend on its State.
pub record ReportsDown {X : Type 0} (is_down : Bool) (IsSo : X → Type 0) (result : Result X StoreFault) : Type 0 where
  pub down : result ≡ Err Down → is_down ≡ true
  pub refused : result ≡ Err Refused → is_down ≡ false
  pub unasked : is_down ≡ true → IfOk result IsSo
