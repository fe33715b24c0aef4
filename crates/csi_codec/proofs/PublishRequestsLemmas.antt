-- The encoding of the requests on publications means it.
use Rattle.std.proofs.Common.{refl}
use Rattle.pbmessage.specs.Schema.{Good}
use Rattle.pbmessage.specs.facts.Laws.{SpellingLaws}
use Rattle.pbmessage.specs.facts.Rows.{rows_again}
use Rattle.pbmessage.specs.facts.Parts.{Law, text_fit, text_again, flag_fit, flag_again, option_fit, option_again, map_fit, map_again}
use Rattle.csi_codec.specs.messages.PublishRequests.{publish_in, publish_schema, canon_publish, FitsPublish, unpublish_in, unpublish_schema, canon_unpublish, FitsUnpublish}
use Rattle.csi_codec.proofs.CapabilityLemmas.{capability_law}

pub publish_law : SpellingLaws → Law (Good publish_schema) publish_in canon_publish FitsPublish
publish_law l = record {
  laws = l;
  again = λ v f. rows_again l (Good publish_schema) publish_in (canon_publish v) v refl
      ((((((tt, text_fit v.volume_id f.0), text_fit v.node_id f.1), option_fit (capability_law l) v.capability f.2), flag_fit v.readonly), map_fit l v.secrets f.3), map_fit l v.context f.4)
      (λ i. record {
        volume_id = text_again v.volume_id i;
        node_id = text_again v.node_id i;
        capability = option_again (capability_law l) v.capability f.2 i;
        readonly = flag_again v.readonly i;
        secrets = map_again l v.secrets f.3 i;
        context = map_again l v.context f.4 i;
      });
}

pub unpublish_law : SpellingLaws → Law (Good unpublish_schema) unpublish_in canon_unpublish FitsUnpublish
unpublish_law l = record {
  laws = l;
  again = λ v f. rows_again l (Good unpublish_schema) unpublish_in (canon_unpublish v) v refl (((tt, text_fit v.volume_id f.0), text_fit v.node_id f.1), map_fit l v.secrets f.2)
      (λ i. record { volume_id = text_again v.volume_id i; node_id = text_again v.node_id i; secrets = map_again l v.secrets f.2 i });
}
