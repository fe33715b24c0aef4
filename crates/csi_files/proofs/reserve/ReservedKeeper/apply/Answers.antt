use Rattle.std.proofs.Common.{Err, sym, subst, subst₂}
use Rattle.csi_keeper.specs.Keeper.{Applies}
use Rattle.csi_tables.specs.Keeping.{tables_model}
use Rattle.csi_files.proofs.ReserveLemmas.{unmade}
use Rattle.csi_files.proofs.reserve.ReservedKeeper.apply.Goals as goal

pub returns-in-Ok : goal.returns-in-Ok
returns-in-Ok g c = subst (λ t. Applies (tables_model g.S.Store t) (tables_model g.S.Store c.apply.new.self) c.args.change.now c.apply.result) c.reserve_for.ensures.unchanged c.apply.ensures.applies

pub returns-in-Err : goal.returns-in-Err
returns-in-Err g c =
    let same = c.reserve_for.ensures.unchanged in
    let why = c.in-Err.ensures.refused in
    subst₂ (λ t f. Applies {X = Unit {0}} (tables_model g.S.Store c.args.self.now.tables) (tables_model g.S.Store t) c.args.change.now (Err f)) (sym same) (sym why.0)
    (unmade (tables_model g.S.Store c.args.self.now.tables) c.args.change.now why.1)
