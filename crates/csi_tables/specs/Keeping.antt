-- The keeper over the tables, by its parts.
use Rattle.std.specs.Prelude.{◌≡◌, ℕ, ◌≤◌, Bool, false, Result}
use Rattle.sqlite.specs.Held.{Held, state}
use Rattle.sqlite.specs.Store.{Ghosts}
use Rattle.csi_keeper.specs.Model.{Model}
use Rattle.csi_keeper.specs.State.{State, first_state}
use Rattle.csi_keeper.specs.declared.change.Change.{Change}
use Rattle.csi_keeper.specs.declared.change.StoreFault.{StoreFault}
use Rattle.csi_keeper.specs.declared.change.StoreFault.TheVariants.{Refused}
use Rattle.csi_sql.specs.Tables.{no_schema}
use Rattle.csi_tables.specs.Holding.{Store, conn_doubt, model_with}
use Rattle.csi_tables.specs.Refusing.{RefusesChange, StoreRefuses}
use Rattle.csi_tables.specs.declared.tables.Tables.{Tables}

module _ {S : Type 0} (g : Ghosts S) where
  abbrev pub connection_of : Tables S → Held S
  connection_of t = t.conn

  -- the connection and the totals of the keeper
  abbrev pub store_of : Tables S → Store S
  store_of t = (t.conn, t.totals)

  abbrev pub is_down : Tables S → Bool
  is_down t = t.health.is_down

  abbrev pub refusals : Tables S → ℕ
  refusals t = t.health.refusals

  -- the model of the keeper
  abbrev pub tables_model : Tables S → Model State
  tables_model t = model_with g (store_of t) t.health

  -- a call that is refused has its cause, which is not lack of memory
  abbrev pub TablesRefuses : {X : Type 0} → Tables S → Tables S → Type 0 → Result X StoreFault → Type 0
  TablesRefuses old new Why result = StoreRefuses g (store_of old) (store_of new) Refused Why result

  -- the reasons why a change is refused
  abbrev pub refuses_change : Tables S → Change → Type 0
  refuses_change t change = RefusesChange change t.totals (state g t.conn)

  -- A keeper over tables that were made on a connection. Its State is the first one if the database had no
  -- table.
  pub record IsNewOver (conn : Held S) (t : Tables S) : Type 0 where
    pub clean : conn_doubt g conn ≤ (tables_model t).doubt
    pub begun : (tables_model t).doubt ≡ 0 → (state g conn).now.schema ≡ no_schema → (tables_model t).holds (first_state 1)
    pub settled : (tables_model t).doubt ≡ 0 → (state g conn).now.schema ≡ no_schema → (s : State) → (tables_model t).survivors s → s ≡ first_state 1
    pub ties : (tables_model t).doubt ≡ 0 → (state g conn).now.schema ≡ no_schema → (tables_model t).tied
    pub up : is_down t ≡ false
    pub uncounted : refusals t ≡ 0
    pub limit : t.conn.step_limit ≡ conn.step_limit
