-- The encoding of the requests that only ask means it.
use Rattle.std.proofs.Common.{refl}
use Rattle.pbmessage.specs.Schema.{Good}
use Rattle.pbmessage.specs.facts.Laws.{SpellingLaws}
use Rattle.pbmessage.specs.facts.Rows.{rows_again}
use Rattle.pbmessage.specs.facts.Parts.{Law, text_fit, text_again, enum_fit, enum_again, option_fit, option_again, messages_fit, messages_again, map_fit, map_again}
use Rattle.csi_codec.specs.messages.QueryRequests.{validate_in, validate_schema, canon_validate, FitsValidate, list_in, list_schema, canon_list, FitsList, capacity_in, capacity_schema, canon_capacity, FitsCapacity}
use Rattle.csi_codec.proofs.CapabilityLemmas.{capability_law}
use Rattle.csi_codec.proofs.TopologyLemmas.{map_law}

pub validate_law : SpellingLaws → Law (Good validate_schema) validate_in canon_validate FitsValidate
validate_law l = record {
  laws = l;
  again = λ v f. rows_again l (Good validate_schema) validate_in (canon_validate v) v refl
      (((((tt, text_fit v.volume_id f.0), map_fit l v.context f.1), messages_fit (capability_law l) v.capabilities f.2), map_fit l v.parameters f.3), map_fit l v.secrets f.4)
      (λ i. record {
        volume_id = text_again v.volume_id i;
        context = map_again l v.context f.1 i;
        capabilities = messages_again (capability_law l) v.capabilities f.2 i;
        parameters = map_again l v.parameters f.3 i;
        secrets = map_again l v.secrets f.4 i;
      });
}

pub list_law : SpellingLaws → Law (Good list_schema) list_in canon_list FitsList
list_law l = record {
  laws = l;
  again = λ v f. rows_again l (Good list_schema) list_in (canon_list v) v refl ((tt, enum_fit v.max_entries f.0), text_fit v.token f.1)
      (λ i. record { max_entries = enum_again v.max_entries f.0 i; token = text_again v.token i });
}

pub capacity_law : SpellingLaws → Law (Good capacity_schema) capacity_in canon_capacity FitsCapacity
capacity_law l = record {
  laws = l;
  again = λ v f. rows_again l (Good capacity_schema) capacity_in (canon_capacity v) v refl (((tt, messages_fit (capability_law l) v.capabilities f.0), map_fit l v.parameters f.1), option_fit (map_law l) v.topology f.2)
      (λ i. record { capabilities = messages_again (capability_law l) v.capabilities f.0 i; parameters = map_again l v.parameters f.1 i; topology = option_again (map_law l) v.topology f.2 i });
}
