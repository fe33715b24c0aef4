-- Segments of a topology (CSI specification, 'CreateVolume', the message Topology).
use Rattle.std.specs.Prelude.{ℕ, List}
use Rattle.std.specs.Str.{str_to_ascii_lowercase}
use Rattle.csi_types.specs.declared.topology.segments.Segment.{Segment}

-- the key and the value of a segment
abbrev pub entry_of : Segment → List ℕ × List ℕ
entry_of s = (s.key.now, s.value.now)

-- the key of a segment with its ASCII letters folded
abbrev pub folded_key : Segment → List ℕ
folded_key s = str_to_ascii_lowercase s.key.now
