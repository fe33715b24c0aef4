use Rattle.std.proofs.Common.{◌≡◌, [], List, length, false}
use Rattle.sqlite.specs.Order.{Row as Values}
use Rattle.sqlite.specs.State.{HasCleanDisk, IsUnchanged, Survives}
use Rattle.sqlite.specs.Held.{state}
use Rattle.sqlite.specs.Given.{HasGiven}
use Rattle.csi_sql.proofs.fold.each_row.Given as goal

abbrev pub invariant-rows : goal.invariant-rows
invariant-rows g l =
    let old = state g.S.Store l.fn.conn in
    let now = state g.S.Store l.rows.conn.now in
    (l.rows.conn.ghost_name ≡ l.initial.rows.conn.ghost_name) × (l.rows.conn.now.in_transaction ≡ false) × Survives old now (λ _. ⊥)
    × (HasCleanDisk now → (given : List Values) × HasGiven g.S.Store l.sql [] l.rows.conn.now given × IsUnchanged old now × g.F.Fold.folds l.fn.fold given l.fold × (length given ≡ l.counter))
