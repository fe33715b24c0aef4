use Rattle.std.proofs.Common.{◌≡◌, ◌<◌, length, arith, rules}
use Rattle.csi_change_store.proofs.CellsLemmas.{takes_bytes}
use Rattle.csi_change_store.proofs.cells.Cells.set_field.Goals as goal

pub returns-in-Bytes-Bytes-clause-taken : goal.returns-in-Bytes-Bytes-clause-taken
returns-in-Bytes-Bytes-clause-taken c is =
    let inside : c.args.field.number < 7 = search rules in
    rw c.in-Bytes-Bytes.is-1 (takes_bytes c.args.kinds.now c.args.self.now c.args.field.number c.in-Bytes-Bytes.bytes (omega arith))
