-- A clause on an error, weakened.
use Rattle.std.proofs.Common.{Result, Ok, Err, IfErr, IfOk}

pub IfErr-weaker : {X Y : Type 0} (r : Result X Y) (P Q : Y → Type 0) → ((y : Y) → P y → Q y) → IfErr r P → IfErr r Q
IfErr-weaker (Ok x) P Q so h = h
IfErr-weaker (Err y) P Q so h = so y h

-- two clauses on a value, or on an error, together
pub IfOk-both : {X Y : Type 0} (r : Result X Y) (P Q R : X → Type 0) → ((x : X) → P x → Q x → R x) → IfOk r P → IfOk r Q → IfOk r R
IfOk-both (Ok x) P Q R so p q = so x p q
IfOk-both (Err y) P Q R so p q = p

pub IfErr-both : {X Y : Type 0} (r : Result X Y) (P Q R : Y → Type 0) → ((y : Y) → P y → Q y → R y) → IfErr r P → IfErr r Q → IfErr r R
IfErr-both (Ok x) P Q R so p q = p
IfErr-both (Err y) P Q R so p q = so y p q
