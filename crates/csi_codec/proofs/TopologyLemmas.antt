-- The encoding of topologies means it.
use Rattle.std.proofs.Common.{refl}
use Rattle.pbmessage.specs.Schema.{Good}
use Rattle.pbmessage.specs.Canon.{FitsMap}
use Rattle.csi_codec.specs.messages.Topology.{map_in, map_schema, canon_map, requirement_in, requirement_schema, canon_requirement, FitsRequirement}
use Rattle.pbmessage.specs.facts.Laws.{SpellingLaws}
use Rattle.pbmessage.specs.facts.Rows.{rows_again}
use Rattle.pbmessage.specs.facts.Parts.{Law, messages_fit, messages_again, map_fit, map_again}

pub map_law : SpellingLaws → Law (Good map_schema) map_in canon_map FitsMap
map_law l = record { laws = l; again = λ m f. rows_again l (Good map_schema) map_in (canon_map m) m refl (tt, map_fit l m f) (map_again l m f) }

pub requirement_law : SpellingLaws → Law (Good requirement_schema) requirement_in canon_requirement FitsRequirement
requirement_law l = record {
  laws = l;
  again = λ r f. rows_again l (Good requirement_schema) requirement_in (canon_requirement r) r refl ((tt, messages_fit (map_law l) r.requisite f.0), messages_fit (map_law l) r.preferred f.1)
      (λ i. record { requisite = messages_again (map_law l) r.requisite f.0 i; preferred = messages_again (map_law l) r.preferred f.1 i });
}
