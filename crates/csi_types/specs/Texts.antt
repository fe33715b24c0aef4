-- The bytes of a text, in each form in which it is kept.
use Rattle.std.specs.Prelude.{ℕ, List}
use Rattle.std.specs.String.{string_bytes}
use Rattle.csi_types.specs.declared.text.TextStorage.{TextStorage}
use Rattle.csi_types.specs.declared.text.TextStorage.TheVariants.{Short, Long}

abbrev pub kept_bytes : TextStorage → List ℕ
kept_bytes (Short short alloc) = short.bytes
kept_bytes (Long string) = string_bytes string
