use Rattle.std.proofs.Common.{◌≡◌, ◌++◌, map, take}
use Rattle.pbwire.specs.Writing.{spellings}
use Rattle.pbmessage.specs.Canon.{payload_fields, spelled}
use Rattle.csi_codec.specs.messages.Capability.{canon_capability, FitsCapabilities}
use Rattle.csi_keeper.specs.Capability.{capability_of}
use Rattle.csi_columns.proofs.encoding.put_keys.Given as goal

abbrev pub invariant-loop-key : goal.invariant-loop-key
invariant-loop-key l = record {
  wrote : l.out.items ≡ l.fn.out.items
      ++ spellings (payload_fields 3 (spelled canon_capability (map capability_of (take l.key-index l.keys))));
  fitting : FitsCapabilities (map capability_of (take l.key-index l.keys));
}
