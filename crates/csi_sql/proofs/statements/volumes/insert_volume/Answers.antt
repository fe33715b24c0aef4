use Rattle.csi_sql.specs.facts.Failing.{runs_over}
use Rattle.csi_sql.specs.Borrowed.{borrowed_row}
use Rattle.csi_sql.specs.Rows.{seen_volume}
use Rattle.csi_sql.specs.Texts.{text, AddVolume}
use Rattle.csi_sql.proofs.DoneLemmas.{runs_done}
use Rattle.csi_sql.proofs.InsertLemmas.{adds}
use Rattle.csi_sql.proofs.TextLemmas.{alone}
use Rattle.csi_sql.proofs.statements.volumes.insert_volume.Goals as goal

pub returns-clause-runs : goal.returns-clause-runs
returns-clause-runs g c =
    let row = c.args.row.now in
    rw c.and.ensures (runs_done c.execute.result (runs_over (text AddVolume) (seen_volume (borrowed_row row)) c.execute.result (alone AddVolume) (adds row.number row.name.now row.bytes row.pool.now row.caps.now row.params.now) (rw (c.integer.ensures, c.as_bytes.ensures.value, c.integer-2.ensures, c.as_bytes-2.ensures.value) at c.execute.ensures.runs) c.execute.ensures.survives))
