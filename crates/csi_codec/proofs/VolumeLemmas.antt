-- The encoding of a volume, and of the messages about volumes in responses, means it.
use Rattle.std.proofs.Common.{refl}
use Rattle.pbmessage.specs.Schema.{Good}
use Rattle.pbmessage.specs.Canon.{FitsTexts}
use Rattle.csi_codec.specs.messages.Volume.{volume_in, volume_schema, canon_volume, FitsVolume, nodes_in, nodes_schema, canon_nodes, entry_in, entry_schema, canon_entry, FitsEntry, confirmed_in, confirmed_schema, canon_confirmed, FitsConfirmed}
use Rattle.pbmessage.specs.facts.Laws.{SpellingLaws}
use Rattle.pbmessage.specs.facts.Rows.{rows_again}
use Rattle.pbmessage.specs.facts.Parts.{Law, text_fit, text_again, long_fit, long_again, option_fit, option_again, messages_fit, messages_again, map_fit, map_again}
use Rattle.csi_codec.proofs.CapabilityLemmas.{capability_law}
use Rattle.csi_codec.proofs.TopologyLemmas.{map_law}

pub volume_law : SpellingLaws → Law (Good volume_schema) volume_in canon_volume FitsVolume
volume_law l = record {
  laws = l;
  again = λ v f. rows_again l (Good volume_schema) volume_in (canon_volume v) v refl ((((tt, long_fit v.bytes f.0), text_fit v.id f.1), map_fit l v.context f.2), messages_fit (map_law l) v.topology f.3)
      (λ i. record { bytes = long_again v.bytes f.0 i; id = text_again v.id i; context = map_again l v.context f.2 i; topology = messages_again (map_law l) v.topology f.3 i });
}

pub nodes_law : SpellingLaws → Law (Good nodes_schema) nodes_in canon_nodes FitsTexts
nodes_law l = record { laws = l; again = λ ts f. rows_again l (Good nodes_schema) nodes_in (canon_nodes ts) ts refl (tt, f) refl }

pub entry_law : SpellingLaws → Law (Good entry_schema) entry_in canon_entry FitsEntry
entry_law l = record {
  laws = l;
  again = λ e f. rows_again l (Good entry_schema) entry_in (canon_entry e) e refl ((tt, option_fit (volume_law l) e.volume f.0), option_fit (nodes_law l) e.nodes f.1)
      (λ i. record { volume = option_again (volume_law l) e.volume f.0 i; nodes = option_again (nodes_law l) e.nodes f.1 i });
}

pub confirmed_law : SpellingLaws → Law (Good confirmed_schema) confirmed_in canon_confirmed FitsConfirmed
confirmed_law l = record {
  laws = l;
  again = λ c f. rows_again l (Good confirmed_schema) confirmed_in (canon_confirmed c) c refl (((tt, map_fit l c.context f.0), messages_fit (capability_law l) c.capabilities f.1), map_fit l c.parameters f.2)
      (λ i. record { context = map_again l c.context f.0 i; capabilities = messages_again (capability_law l) c.capabilities f.1 i; parameters = map_again l c.parameters f.2 i });
}
