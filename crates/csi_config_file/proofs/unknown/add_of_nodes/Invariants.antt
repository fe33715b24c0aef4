use Rattle.std.proofs.Common.{◌≡◌, ◌++◌, suc, drop, map}
use Rattle.toml.specs.View.{items_view}
use Rattle.csi_config_file.specs.Unknown.{of_tables, place_of}
use Rattle.csi_config_file.specs.declared.config_file.Section.TheVariants as section_of
use Rattle.csi_config_file.proofs.unknown.add_of_nodes.Given as goal

abbrev pub invariant-loop-index : goal.invariant-loop-index
invariant-loop-index l =
    map place_of l.fn.found.items ++ of_tables section_of.Node 1 (items_view l.array)
    ≡ map place_of l.found.items ++ of_tables section_of.Node (suc l.index) (items_view (drop l.index l.array))
