-- Pages that are read in a transaction, which is committed.
use Rattle.std.proofs.Common.{◌≡◌, ◌∙◌, ℕ, true, List, Result, Ok, Err, IsTrue, refl, sym, ap, subst, arith}
use Rattle.sqlite.specs.Held.{Held, state}
use Rattle.sqlite.specs.State.{HasCleanDisk}
use Rattle.sqlite.specs.Store as store
use Rattle.sqlite.specs.Effect.{Database}
use Rattle.sqlite.specs.State.{State}
use Rattle.sqlite.specs.declared.error.Error.{Error}
use Rattle.csi_client.specs.declared.receiving.Received.{Received}
use Rattle.csi_sql.specs.Making.{MakesTables, RefusesTables}
use Rattle.csi_sql.specs.Tables.{no_schema, schema}
use Rattle.csi_sql.specs.Transactions.{ChangesFrom, CommitsOver, RunsOver}
use Rattle.csi_sql.specs.facts.Failing.{Committed, commits}
use Rattle.csi_change_store.specs.Filling.{AreRead, Fills, HasRows, ReadsRows}
use Rattle.csi_change_store.specs.Pages.{PagesRead}
use Rattle.csi_change_store.specs.Taking.{CommitsNothing, ExtendsFrom, PutsAll}
use Rattle.csi_change_store.specs.Walking.{ReadsAll, all_items}

abbrev Unrefused : State → Error → Type 0
Unrefused s e = ⊥

module _ {S : Type 0} (g : store.Ghosts S) where
  -- on an open connection, a call that extends the tables is a statement that ran
  runs_so : (a b : Held S) (Effect : Database → Database → Type 0) → IsTrue (state g a).is_open → ExtendsFrom g a b Effect → CommitsNothing g a b → RunsOver g a b {X = Unit {0}} schema Effect Unrefused (Ok tt)
  runs_so a b Effect opened ext nothing = record {
    ok = λ clean inside. let it = ext clean inside in record {
      shown = record { was_open = opened; is_open = it.is_open opened; now_is = refl; committed_is = it.committed; mode = it.inside };
      effect = it.effect;
    };
    failed = λ clean inside has. tt;
    kept = nothing.kept;
    survives = nothing.survives;
  }

  module _ {P : Type 0} (exchanged : P → P → List ℕ → Received → Type 0) (p q : P) (notes : PagesRead) where
    pub filled : (old mid end new : Held S) → ReadsAll g (record old { in_transaction = true }) mid exchanged p q notes → CommitsNothing g (record old { in_transaction = true }) mid → Committed g schema old mid end (Ok tt) → end ≡ new → Fills g old new exchanged p q notes
    filled old mid end new r nothing done at = record {
      pages = r.pages;
      read = record { some = r.some; walks = r.walks; last = r.last; typed = r.typed };
      clean = λ clean. let c : HasCleanDisk (state g end) = subst (λ h. HasCleanDisk (state g h)) (sym at) clean in omega (arith, c, done.survives.clean, nothing.survives.clean);
      rows = λ clean opened. (commits g schema old {Effect = PutsAll (all_items r.pages)} {Why = Unrefused} {Refuses = Unrefused} {new = new} (Ok tt) (runs_so (record old { in_transaction = true }) mid (PutsAll (all_items r.pages)) opened r.puts nothing) end done at).ok clean;
    }

    pub read : (old made new : Held S) → CommitsOver g old made {X = Unit {0}} no_schema MakesTables RefusesTables (Ok tt) → Fills g made new exchanged p q notes → ReadsRows g old new exchanged p q notes
    read old made new makes f = record {
      pages = f.pages;
      read = f.read;
      is_open = λ clean. (f.rows clean (makes.ok (f.clean clean)).is_open).is_open;
      committed = λ clean. (f.rows clean (makes.ok (f.clean clean)).is_open).committed;
      rows = λ clean none.
          let one = makes.ok (f.clean clean) in
          let here = one.effect none in
          record { made = (state g made).now; makes = here; puts = (f.rows clean one.is_open).effect here.schema };
    }
