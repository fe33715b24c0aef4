use Rattle.std.proofs.Common.{rules}
use Rattle.csi_sql.proofs.ReadLemmas.{row_keeps, number_read}
use Rattle.csi_sql.proofs.RefusingLemmas.{number_reported}
use Rattle.csi_sql.proofs.statements.meta.select_next.Goals as goal

pub returns-clause-selects : goal.returns-clause-selects
returns-clause-selects g c = record {
  ok = λ clean inside. number_read _ _ c.query_row.result inside (c.query_row.ensures.row clean);
  failed = λ clean inside. number_reported _ _ c.query_row.result inside (c.query_row.ensures.row clean);
  kept = λ clean inside. row_keeps _ _ _ _ c.query_row.result inside (c.query_row.ensures.row clean);
  survives = search rules;
}
