-- The parts of a request that the lines of the table look at.
use Rattle.std.specs.Prelude.{◌++◌, Bool, List, [], ◌∷◌, Option, None, Some, if◌then◌else◌, drop, option_map, option_to_list, take}
use Rattle.csi_types.specs.Checks.{Parts, lines, terms}
use Rattle.csi_types.specs.Maps.{TextMap}
use Rattle.csi_types.specs.declared.reason.Reason.{Reason}
use Rattle.csi_types.specs.declared.topology.Requirement.{Requirement}
use Rattle.csi_checks.specs.declared.parts.Parts.{Parts as BorrowedParts}

-- the topology of a request, and the topologies of its requirement
abbrev pub topologies_in : Option TextMap → Option Requirement → List TextMap
topologies_in None requirement = terms requirement
topologies_in (Some topology) requirement = topology ∷ terms requirement

abbrev pub parts_in : BorrowedParts → Parts
parts_in p =
    let topologies = topologies_in (option_map (λ t. t.now) p.topology) (option_map (λ r. r.now) p.requirement) in
    record {
      names = option_to_list (option_map (λ t. t.now) p.name);
      required_capabilities = if p.wants_capability then p.capabilities.now ∷ [] else [];
      capabilities = p.capabilities.now;
      created_capabilities = if p.is_create then p.capabilities.now else [];
      ranges = p.ranges.now;
      requirements = option_to_list (option_map (λ r. r.now) p.requirement);
      topologies = topologies;
      maps = p.first_map.now ++ p.second_map.now ++ p.third_map.now ++ topologies;
      required_maps = p.required_maps.now;
      volume_ids = p.volume_ids.now;
      node_ids = p.node_ids.now;
      required_node_ids = p.required_node_ids.now;
      tokens = p.tokens.now;
      most_entries = p.most_entries.now;
      has_source = p.has_source;
    }

-- the table in three parts: names and capabilities; sizes; topologies and missing fields
abbrev pub kind_lines : List (Reason × (Parts → Bool))
kind_lines = take 7 lines

abbrev pub size_lines : List (Reason × (Parts → Bool))
size_lines = take 4 (drop 7 lines)

abbrev pub term_lines : List (Reason × (Parts → Bool))
term_lines = drop 11 lines
