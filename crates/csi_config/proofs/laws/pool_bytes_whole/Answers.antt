use Rattle.std.proofs.Common.{◌≤◌, ◌^◌, not, arith}
use Rattle.csi_config.proofs.ConfigLemmas.{up_to, not_off, each_passes, in_sum}
use Rattle.csi_config.proofs.GoodLemmas.{good}
use Rattle.csi_config.specs.Faults.{all_bytes, is_whole}
use Rattle.csi_config.specs.declared.pools.Pool.{Pool}
use Rattle.csi_config.proofs.laws.pool_bytes_whole.Goals as goal

pub returns : goal.returns
returns c =
    let small : all_bytes c.args.config.now.pools ≤ 2 ^ 62 = up_to _ _ (good c.args.config.now).all in
    record {
      in_granules = λ p h. not_off _ (each_passes (λ (p : Pool). not (is_whole p.bytes)) _ (good c.args.config.now).wholes p h);
      each = λ p h. let one = in_sum c.args.config.now.pools p h in omega (arith, one, small);
      all = small;
    }
