-- `CapacityRange` (CSI specification, csi.proto): what the fields mean, which field numbers have texts and
-- embedded messages, and how a value is written.
use Rattle.csi_types.specs.declared.capacity.CapacityRange.{CapacityRange}
use Rattle.pbmessage.specs.Views.{Views, i64}
use Rattle.pbmessage.specs.Canon.{Rows, Start, ◌▸◌, signed_row, FitsI64}

-- ---- CapacityRange { required_bytes 1, limit_bytes 2 }

abbrev pub range_in : Views → CapacityRange
range_in v = record { required = i64 (v.numbers 1); limit = i64 (v.numbers 2) }

abbrev pub canon_range : CapacityRange → Rows
canon_range r = Start ▸ signed_row 1 r.required ▸ signed_row 2 r.limit

abbrev pub FitsRange : CapacityRange → Type 0
FitsRange r = FitsI64 r.required × FitsI64 r.limit
