use Rattle.std.proofs.Common.{rules}
use Rattle.csi_sql.specs.Tables.{no_schema}
use Rattle.csi_sql.specs.facts.Failing.{commits, undoes}
use Rattle.csi_sql.proofs.making.make_tables.Goals as goal

pub returns-clause-makes : goal.returns-clause-makes
returns-clause-makes g c = commits g.S.Store no_schema c.args.conn.now c.commit.result (rw c.transaction-tx.ensures.begun at c.in_ok-create_tables.ensures.runs) c.commit.new.self.0 c.commit.ensures (search rules)

pub returns-in_err-create_tables-clause-makes : goal.returns-in_err-create_tables-clause-makes
returns-in_err-create_tables-clause-makes g c =
    undoes g.S.Store no_schema c.args.conn.now c.from_residual.result c.in_err-create_tables.field-0.0 (λ why. why)
    (rw c.transaction-tx.ensures.begun at c.in_err-create_tables.ensures.runs) c.drop-tx.new.self.0 c.drop-tx.ensures (search rules) c.from_residual.ensures.1
