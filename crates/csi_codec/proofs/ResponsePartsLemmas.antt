-- The encoding of responses of several fields means it.
use Rattle.std.proofs.Common.{refl}
use Rattle.pbmessage.specs.Schema.{Good}
use Rattle.pbmessage.specs.facts.Laws.{SpellingLaws}
use Rattle.pbmessage.specs.facts.Rows.{rows_again}
use Rattle.pbmessage.specs.facts.Parts.{Law, text_fit, text_again, long_fit, long_again, option_fit, option_again, messages_fit, messages_again}
use Rattle.csi_codec.specs.messages.ResponseParts.{info_in, info_schema, canon_info, FitsInfo, validation_in, validation_schema, canon_validation, FitsValidation, listing_in, listing_schema, canon_listing, FitsListing, free_in, free_schema, canon_free, FitsFree}
use Rattle.csi_codec.proofs.SingleLemmas.{int64_value_law}
use Rattle.csi_codec.proofs.VolumeLemmas.{entry_law, confirmed_law}

pub info_law : SpellingLaws → Law (Good info_schema) info_in canon_info FitsInfo
info_law l = record {
  laws = l;
  again = λ r f. rows_again l (Good info_schema) info_in (canon_info r) r refl ((tt, text_fit r.name f.0), text_fit r.version f.1)
      (λ i. record { name = text_again r.name i; version = text_again r.version i });
}

pub validation_law : SpellingLaws → Law (Good validation_schema) validation_in canon_validation FitsValidation
validation_law l = record {
  laws = l;
  again = λ r f. rows_again l (Good validation_schema) validation_in (canon_validation r) r refl ((tt, option_fit (confirmed_law l) r.confirmed f.0), text_fit r.message f.1)
      (λ i. record { confirmed = option_again (confirmed_law l) r.confirmed f.0 i; message = text_again r.message i });
}

pub listing_law : SpellingLaws → Law (Good listing_schema) listing_in canon_listing FitsListing
listing_law l = record {
  laws = l;
  again = λ r f. rows_again l (Good listing_schema) listing_in (canon_listing r) r refl ((tt, messages_fit (entry_law l) r.entries f.0), text_fit r.token f.1)
      (λ i. record { entries = messages_again (entry_law l) r.entries f.0 i; token = text_again r.token i });
}

pub free_law : SpellingLaws → Law (Good free_schema) free_in canon_free FitsFree
free_law l = record {
  laws = l;
  again = λ r f. rows_again l (Good free_schema) free_in (canon_free r) r refl ((tt, long_fit r.available f.0), option_fit (int64_value_law l) r.maximum f.1)
      (λ i. record { available = long_again r.available f.0 i; maximum = option_again (int64_value_law l) r.maximum f.1 i });
}
