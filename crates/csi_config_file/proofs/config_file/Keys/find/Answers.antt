use Rattle.csi_config_file.specs.Document.{key_text}
use Rattle.toml.proofs.Views.{table_get}
use Rattle.csi_config_file.proofs.config_file.Keys.find.Goals as goal

pub returns : goal.returns
returns c = table_get c.get.result (key_text c.args.key) c.args.self.now.table.now.entries (rw (← c.text.ensures) c.get.ensures.value)
