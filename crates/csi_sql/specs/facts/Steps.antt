-- The connection's clauses about a statement and a commit, as the definitions of `Transactions`.
use Rattle.std.proofs.Common.{◌≡◌, ◌⊎◌, inl, inr, refl, ℤ, Bool, true, false, cond, Ok, Err, Result, arith}
use Rattle.sqlite.specs.declared.types.Value.{Value}
use Rattle.sqlite.specs.declared.types.Value.TheVariants.{Null, Int}
use Rattle.sqlite.specs.Cast.{cast}
use Rattle.sqlite.specs.Effect.{Database}
use Rattle.sqlite.specs.Held.{Held, state}
use Rattle.sqlite.specs.Kind.TheVariants.{Integer}
use Rattle.sqlite.specs.Ops.{unary}
use Rattle.sqlite.specs.Schema.{Schema}
use Rattle.sqlite.specs.State.{State, HasCleanDisk, Survives}
use Rattle.sqlite.specs.Store as store
use Rattle.sqlite.proofs.Callers.{survives_begin}
use Rattle.sqlite.proofs.StateLemmas.{survives_then}
use Rattle.csi_sql.specs.Transactions.{StepsFrom, LeavesFrom}

-- a part that gave a value did not stop on the way
pub went : {B E R : Type 0} {b : B} {Stops : E → Type 0} → ((stop : E) × Stops stop × (Ok b ≡ Err stop)) ⊎ R → R
went (inl stopped) = absurd (let e = stopped.2 in cc)
went (inr on) = on

pub same_value : {B E : Type 0} {a b : B} → ◌≡◌ {A = Result B E} (Ok a) (Ok b) → a ≡ b
same_value e = cc

either : (b : Bool) (x : Value) → cond b x x ≡ x
either true x = refl
either false x = refl

-- a column of integers keeps NULL and an integer as they are
pub cast_null : cast Integer Null ≡ Null
unfolding unary
cast_null = either _ Null

pub cast_int : (n : ℤ) → cast Integer (Int n) ≡ Int n
unfolding unary
cast_int n = either _ (Int n)

-- after a transaction a stop leaves what it could leave before, or the result of the commit
pub survives_commit : {S : Type 0} (g : store.Ghosts S) (before : Schema) (old : Held S) (mid new : State) (Effect : Database → Database → Type 0)
    → Survives (state g (record old { in_transaction = true })) mid (λ _. ⊥)
    → (HasCleanDisk mid → StepsFrom before Effect (state g (record old { in_transaction = true })) mid)
    → Survives mid new (λ db. db ≡ mid.now.trees) → Survives (state g old) new (LeavesFrom before Effect (state g old))
survives_commit g before old mid new Effect inside step end =
    survives_then (state g old) mid new (λ _. ⊥) (λ db. db ≡ mid.now.trees) (LeavesFrom before Effect (state g old)) (λ _ db none. absurd none)
    (λ clean db is. let did = step (omega (arith, end.clean)) in (did.shown.was_open, mid.now, did.effect, is)) (survives_begin g old mid _ inside) end
