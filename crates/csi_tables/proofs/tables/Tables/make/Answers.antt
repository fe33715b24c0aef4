use Rattle.std.proofs.Common.{◌≡◌, ◌∙◌, sym, subst, List, ℕ}
use Rattle.sqlite.specs.Held.{Held, state}
use Rattle.sqlite.specs.State.{HasCleanDisk, Survives}
use Rattle.csi_keeper.specs.Totals.{total_of, zero_total}
use Rattle.csi_keeper.specs.declared.totals.Totals.{Totals}
use Rattle.csi_sql.specs.Making.{MakesTables}
use Rattle.csi_sql.specs.Tables.{no_schema}
use Rattle.csi_sql.specs.Transactions.{ChangesFrom, LeavesFrom}
use Rattle.csi_tables.proofs.NewLemmas.{is_new_over}
use Rattle.csi_tables.proofs.tables.Tables.make.Goals as goal

pub returns-in-Ok-clause-made : goal.returns-in-Ok-clause-made
returns-in-Ok-clause-made g c =
    let made = c.new-in-Ok-2.result in
    let over = c.new-in-Ok-2.ensures.over in
    let fresh = c.new-in-Ok-2.ensures.fresh in
    let conn = sym (over.0 ∙ c.new.ensures) in
    let before = state g.S.Store c.args.conn in
    is_new_over g.S.Store c.read_back.ensures g.met.S.Store.settled c.args.conn made
    (subst (λ (h : Held g.row.S.Denot). HasCleanDisk (state g.S.Store h) → ChangesFrom no_schema MakesTables before (state g.S.Store h)) conn c.in-Ok.ensures.makes.ok)
    (subst (λ (h : Held g.row.S.Denot). Survives before (state g.S.Store h) (LeavesFrom no_schema MakesTables before)) conn c.make_tables.ensures.makes.survives)
    (subst (λ (t : Totals). (q : List ℕ) → total_of t q ≡ zero_total) (sym over.1) c.new-in-Ok.ensures)
    fresh.0 fresh.1
