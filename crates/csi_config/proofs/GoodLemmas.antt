-- The rules of the table: a good configuration keeps each.
use Rattle.std.proofs.Common.{◌≡◌, ◌||◌, true, false, nat_lt, List, [], length, None, get_or, map}
use Rattle.csi_types.specs.Names.{is_empty, longer_than}
use Rattle.csi_types.specs.declared.limits.TheConstants.{MAX_TEXT_BYTES, MAX_POOLS, MAX_NODES, MAX_POOL_BYTES}
use Rattle.csi_config.proofs.ConfigLemmas.{first_none, rest_none, if_none, map_none, not_off}
use Rattle.csi_config.specs.Faults.{is_plugin_name, is_whole, all_bytes, breaks_pool, breaks_node, place_broken, name_of, id_of, plugin_fault, broken_sizes, sizes_fault, pool_fault, pool_names_fault, pool_bytes_fault, segments_fault, node_fault, node_ids_fault, node_volumes_fault}
use Rattle.csi_config.specs.declared.config.Config.{Config}
use Rattle.csi_config.specs.declared.fault.ConfigFault.TheVariants as Fault
use Rattle.csi_config.specs.declared.fault.NodeRule.{NodeRule}
use Rattle.csi_config.specs.declared.fault.PoolRule.{PoolRule}
use Rattle.csi_config.specs.declared.nodes.Node.{Node}
use Rattle.csi_config.specs.declared.pools.Pool.{Pool}

of_pool : (rule : PoolRule) (pools : List Pool) → pool_fault rule pools ≡ None → place_broken breaks_pool rule pools ≡ None
of_pool rule pools h = map_none (λ place. Fault.Pool (get_or (map name_of pools) place []) rule) (place_broken breaks_pool rule pools) h

of_node : (rule : NodeRule) (nodes : List Node) → node_fault rule nodes ≡ None → place_broken breaks_node rule nodes ≡ None
of_node rule nodes h = map_none (λ place. Fault.Node (get_or (map id_of nodes) place []) rule) (place_broken breaks_node rule nodes) h

pub record IsGood (config : Config) : Type 0 where
  pub name : is_plugin_name config.plugin.name ≡ true
  pub version : (is_empty config.plugin.version || longer_than MAX_TEXT_BYTES config.plugin.version) ≡ false
  pub default : is_whole config.sizes.default_bytes ≡ true
  pub greatest : is_whole config.sizes.greatest_bytes ≡ true
  pub order : nat_lt config.sizes.greatest_bytes config.sizes.default_bytes ≡ false
  pub limit : nat_lt MAX_POOL_BYTES config.sizes.greatest_bytes ≡ false
  pub some_pools : is_empty config.pools ≡ false
  pub few_pools : nat_lt MAX_POOLS (length config.pools) ≡ false
  pub names : place_broken breaks_pool PoolRule.Name config.pools ≡ None
  pub names_apart : place_broken breaks_pool PoolRule.NameTwice config.pools ≡ None
  pub wholes : place_broken breaks_pool PoolRule.Bytes config.pools ≡ None
  pub all : nat_lt MAX_POOL_BYTES (all_bytes config.pools) ≡ false
  pub few_segments : place_broken breaks_pool PoolRule.Segments config.pools ≡ None
  pub keys_apart : place_broken breaks_pool PoolRule.KeysAlike config.pools ≡ None
  pub few_nodes : nat_lt MAX_NODES (length config.nodes) ≡ false
  pub ids_apart : place_broken breaks_node NodeRule.IdTwice config.nodes ≡ None
  pub volumes : place_broken breaks_node NodeRule.Volumes config.nodes ≡ None

pub good : (config : Config) → IsGood config
unfolding plugin_fault sizes_fault pool_names_fault pool_bytes_fault segments_fault node_ids_fault node_volumes_fault
good config =
    let from_sizes = rest_none (plugin_fault config.plugin) _ config.faultless in
    let from_names = rest_none (sizes_fault config.sizes) _ from_sizes in
    let from_bytes = rest_none (pool_names_fault config.pools) _ from_names in
    let from_segments = rest_none (pool_bytes_fault config.pools) _ from_bytes in
    let from_ids = rest_none (segments_fault config.pools) _ from_segments in
    let from_volumes = rest_none (node_ids_fault config.nodes) _ from_ids in
    let plugin = first_none (plugin_fault config.plugin) _ config.faultless in
    let sizes = map_none Fault.Sizes (broken_sizes config.sizes) (first_none (sizes_fault config.sizes) _ from_sizes) in
    let after_default = rest_none _ _ sizes in
    let after_greatest = rest_none _ _ after_default in
    let after_order = rest_none _ _ after_greatest in
    let names = first_none (pool_names_fault config.pools) _ from_names in
    let after_some = rest_none _ _ names in
    let after_few = rest_none _ _ after_some in
    let bytes = first_none (pool_bytes_fault config.pools) _ from_bytes in
    let segments = first_none (segments_fault config.pools) _ from_segments in
    let after_segments = rest_none (pool_fault PoolRule.Segments config.pools) _ segments in
    let after_empty = rest_none (pool_fault PoolRule.KeyEmpty config.pools) _ after_segments in
    let after_long = rest_none (pool_fault PoolRule.KeyTooLong config.pools) _ after_empty in
    let after_values = rest_none (pool_fault PoolRule.ValueTooLong config.pools) _ after_long in
    let ids = first_none (node_ids_fault config.nodes) _ from_ids in
    let after_nodes = rest_none _ _ ids in
    let after_ids = rest_none (node_fault NodeRule.Id config.nodes) _ after_nodes in
    record {
      name = not_off _ (if_none _ _ (first_none _ _ plugin));
      version = if_none _ _ (first_none _ _ (rest_none _ _ plugin));
      default = not_off _ (if_none _ _ (first_none _ _ sizes));
      greatest = not_off _ (if_none _ _ (first_none _ _ after_default));
      order = if_none _ _ (first_none _ _ after_greatest);
      limit = if_none _ _ (first_none _ _ after_order);
      some_pools = if_none _ _ (first_none _ _ names);
      few_pools = if_none _ _ (first_none _ _ after_some);
      names = of_pool PoolRule.Name config.pools (first_none (pool_fault PoolRule.Name config.pools) _ after_few);
      names_apart = of_pool PoolRule.NameTwice config.pools (first_none (pool_fault PoolRule.NameTwice config.pools) _ (rest_none (pool_fault PoolRule.Name config.pools) _ after_few));
      wholes = of_pool PoolRule.Bytes config.pools (first_none (pool_fault PoolRule.Bytes config.pools) _ bytes);
      all = if_none _ _ (first_none _ _ (rest_none (pool_fault PoolRule.Bytes config.pools) _ bytes));
      few_segments = of_pool PoolRule.Segments config.pools (first_none (pool_fault PoolRule.Segments config.pools) _ segments);
      keys_apart = of_pool PoolRule.KeysAlike config.pools (first_none (pool_fault PoolRule.KeysAlike config.pools) _ after_values);
      few_nodes = if_none _ _ (first_none _ _ ids);
      ids_apart = of_node NodeRule.IdTwice config.nodes (first_none (node_fault NodeRule.IdTwice config.nodes) _ after_ids);
      volumes = of_node NodeRule.Volumes config.nodes (first_none (node_fault NodeRule.Volumes config.nodes) _ from_volumes);
    }
