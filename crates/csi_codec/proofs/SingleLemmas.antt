-- The encoding of messages of one field means it.
use Rattle.std.proofs.Common.{refl}
use Rattle.pbmessage.specs.Schema.{Schema, AnyPayload, Good}
use Rattle.pbmessage.specs.Views.{Views}
use Rattle.pbmessage.specs.Canon.{Rows, FitsI64, FitsI32, FitsOption}
use Rattle.csi_codec.specs.messages.Single.{bool_value_in, canon_bool_value, FitsBoolValue, int64_value_in, enum_value_in, canon_number, only_in, only_schema, canon_only, types_in, types_schema, canon_types, FitsTypes}
use Rattle.pbmessage.specs.facts.Laws.{SpellingLaws}
use Rattle.pbmessage.specs.facts.Rows.{rows_again}
use Rattle.pbmessage.specs.facts.Parts.{Law, long_fit, long_again, enum_fit, enum_again, flag_fit, flag_again, option_fit, option_again, messages_fit, messages_again}

pub bool_value_law : SpellingLaws → Law (Good AnyPayload) bool_value_in canon_bool_value FitsBoolValue
bool_value_law l = record { laws = l; again = λ b f. rows_again l (Good AnyPayload) bool_value_in (canon_bool_value b) b refl (tt, flag_fit b) (flag_again b) }

pub int64_value_law : SpellingLaws → Law (Good AnyPayload) int64_value_in canon_number FitsI64
int64_value_law l = record { laws = l; again = λ z f. rows_again l (Good AnyPayload) int64_value_in (canon_number z) z refl (tt, long_fit z f) (long_again z f) }

pub enum_value_law : SpellingLaws → Law (Good AnyPayload) enum_value_in canon_number FitsI32
enum_value_law l = record { laws = l; again = λ z f. rows_again l (Good AnyPayload) enum_value_in (canon_number z) z refl (tt, enum_fit z f) (enum_again z f) }

pub only_law : {V : Type 0} (schema : Schema) {of : Views → V} {canon : V → Rows} {fits : V → Type 0} → Law (Good schema) of canon fits → Law (Good (only_schema schema)) (only_in of) (canon_only canon) (FitsOption fits canon)
only_law {V} schema {of} {canon} {fits} law = record { laws = law.laws; again = λ o f. rows_again law.laws (Good (only_schema schema)) (only_in of) (canon_only canon o) o refl (tt, option_fit law o f) (option_again law o f) }

pub types_law : SpellingLaws → Law (Good types_schema) types_in canon_types FitsTypes
types_law l = record { laws = l; again = λ os f. rows_again l (Good types_schema) types_in (canon_types os) os refl (tt, messages_fit (only_law AnyPayload (enum_value_law l)) os f) (messages_again (only_law AnyPayload (enum_value_law l)) os f) }
