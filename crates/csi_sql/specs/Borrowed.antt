-- Rows that statements borrow.
use Rattle.sqlite.specs.Order.{Row}
use Rattle.csi_sql.specs.Rows.{volume_row}
use Rattle.csi_sql.specs.declared.statements.volumes.VolumeRow.{VolumeRow}

abbrev pub borrowed_row : VolumeRow → Row
borrowed_row row = volume_row row.number row.name.now row.bytes row.pool.now row.caps.now row.params.now
