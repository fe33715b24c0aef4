-- The encoding of a capacity range means it.
use Rattle.std.proofs.Common.{refl}
use Rattle.pbmessage.specs.Schema.{AnyPayload, Good}
use Rattle.csi_codec.specs.messages.Capacity.{range_in, canon_range, FitsRange}
use Rattle.pbmessage.specs.facts.Laws.{SpellingLaws}
use Rattle.pbmessage.specs.facts.Rows.{rows_again}
use Rattle.pbmessage.specs.facts.Parts.{Law, long_fit, long_again}

pub range_law : SpellingLaws → Law (Good AnyPayload) range_in canon_range FitsRange
range_law l = record { laws = l; again = λ r f. rows_again l (Good AnyPayload) range_in (canon_range r) r refl ((tt, long_fit r.required f.0), long_fit r.limit f.1) (λ i. record { required = long_again r.required f.0 i; limit = long_again r.limit f.1 i }) }
