-- The encoding of the requests on volumes means it.
use Rattle.std.proofs.Common.{refl}
use Rattle.pbmessage.specs.Schema.{Good}
use Rattle.pbmessage.specs.facts.Laws.{SpellingLaws}
use Rattle.pbmessage.specs.facts.Rows.{rows_again}
use Rattle.pbmessage.specs.facts.Parts.{Law, text_fit, text_again, option_fit, option_again, messages_fit, messages_again, presence_fit, map_fit, map_again, presence_again}
use Rattle.csi_codec.specs.messages.VolumeRequests.{create_in, create_schema, canon_create, FitsCreate, delete_in, delete_schema, canon_delete, FitsDelete, modify_in, modify_schema, canon_modify, FitsModify}
use Rattle.csi_codec.proofs.CapacityLemmas.{range_law}
use Rattle.csi_codec.proofs.CapabilityLemmas.{capability_law}
use Rattle.csi_codec.proofs.TopologyLemmas.{requirement_law}

pub create_law : SpellingLaws → Law (Good create_schema) create_in canon_create FitsCreate
create_law l = record {
  laws = l;
  again = λ v f. rows_again l (Good create_schema) create_in (canon_create v) v refl
      ((((((((tt, text_fit v.name f.0), option_fit (range_law l) v.range f.1), messages_fit (capability_law l) v.capabilities f.2), map_fit l v.parameters f.3), map_fit l v.secrets f.4), presence_fit v.source), option_fit (requirement_law l) v.topology f.5), map_fit l v.mutable f.6)
      (λ i. record {
        name = text_again v.name i;
        range = option_again (range_law l) v.range f.1 i;
        capabilities = messages_again (capability_law l) v.capabilities f.2 i;
        parameters = map_again l v.parameters f.3 i;
        secrets = map_again l v.secrets f.4 i;
        source = presence_again v.source i;
        topology = option_again (requirement_law l) v.topology f.5 i;
        mutable = map_again l v.mutable f.6 i;
      });
}

pub delete_law : SpellingLaws → Law (Good delete_schema) delete_in canon_delete FitsDelete
delete_law l = record {
  laws = l;
  again = λ v f. rows_again l (Good delete_schema) delete_in (canon_delete v) v refl ((tt, text_fit v.volume_id f.0), map_fit l v.secrets f.1)
      (λ i. record { volume_id = text_again v.volume_id i; secrets = map_again l v.secrets f.1 i });
}

pub modify_law : SpellingLaws → Law (Good modify_schema) modify_in canon_modify FitsModify
modify_law l = record {
  laws = l;
  again = λ v f. rows_again l (Good modify_schema) modify_in (canon_modify v) v refl (((tt, text_fit v.volume_id f.0), map_fit l v.secrets f.1), map_fit l v.mutable f.2)
      (λ i. record { volume_id = text_again v.volume_id i; secrets = map_again l v.secrets f.1 i; mutable = map_again l v.mutable f.2 i });
}
