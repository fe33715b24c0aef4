use Rattle.std.proofs.Common.{◌≡◌, suc, drop}
use Rattle.toml.specs.View.{items_view}
use Rattle.csi_config_file.specs.Document.{each, pool_at}
use Rattle.csi_config_file.proofs.ReadLemmas.{behind}
use Rattle.csi_config_file.proofs.config_file.pools_of.Given as goal

abbrev pub invariant-loop-index : goal.invariant-loop-index
invariant-loop-index l = each pool_at 1 (items_view l.array) ≡ behind l.pools.items (each pool_at (suc l.index) (items_view (drop l.index l.array)))
