use Rattle.std.proofs.Common.{◌≡◌, ◌++◌, map}
use Rattle.toml.specs.View.{members_view}
use Rattle.csi_config_file.specs.Unknown.{place_of, unknown_of}
use Rattle.csi_config_file.proofs.unknown.add_unknown.Given as goal

abbrev pub invariant-loop-key : goal.invariant-loop-key
invariant-loop-key l =
    map place_of l.fn.found.items ++ unknown_of l.section l.known (members_view l.table.entries)
    ≡ map place_of l.found.items ++ unknown_of l.section l.known (members_view l.key-iterator)
