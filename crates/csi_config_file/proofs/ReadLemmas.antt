-- The tables of an array already read, before the rest.
use Rattle.std.proofs.Common.{List, ◌++◌, Ok}
use Rattle.csi_config_file.specs.Document.{Read, bind}

-- a list appended to another
abbrev pub behind : {X : Type 0} → List X → Read (List X) → Read (List X)
behind xs r = bind r (λ ys. Ok (xs ++ ys))
