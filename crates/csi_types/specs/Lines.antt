-- Tables of refusals: each line has a reason, and the test for it.
use Rattle.std.specs.Prelude.{Bool, List, Option, find}
use Rattle.std.specs.Option.{option_map}
use Rattle.csi_types.specs.declared.reason.Reason.{Reason}

-- the reason of the first line whose test is true
abbrev pub first_line : {A : Type 0} → List (Reason × (A → Bool)) → A → Option Reason
first_line table a = option_map (λ line. line.0) (find (λ line. line.1 a) table)
