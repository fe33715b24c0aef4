use Rattle.std.proofs.Common.{◌≡◌}
use Rattle.toml.specs.View.{members_view}
use Rattle.csi_config_file.specs.Document.{with_texts}
use Rattle.csi_config_file.proofs.config_file.insert_texts.Given as goal

abbrev pub invariant-loop-key : goal.invariant-loop-key
invariant-loop-key l = with_texts l.fn.texts (members_view l.table.entries) ≡ with_texts l.texts (members_view l.key-iterator)
