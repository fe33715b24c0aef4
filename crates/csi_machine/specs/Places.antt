-- Entries of a listing. The context and the topology of each pool are encoded once.
use Rattle.std.specs.Prelude.{◌≡◌, ℕ, List, [], ◌∷◌, Some, codes}
use Rattle.std.specs.FinMap.{empty, insert}
use Rattle.std.specs.List.{AllByRecursion}
use Rattle.csi_types.specs.declared.volume.Entry.{Entry}
use Rattle.csi_config.specs.declared.config.Config.{Config}
use Rattle.csi_keeper.specs.declared.listed.Listed.{Listed}
use Rattle.csi_rules.specs.Ids.{id}
use Rattle.csi_rules.specs.Info.{signed, segments_at, topology_of}
use Rattle.csi_machine.specs.declared.places.PoolPlacement.{PoolPlacement}

-- the context and the topology that the configuration gives the volumes of the pool
pub record IsPlaced (config : Config) (place : PoolPlacement) : Type 0 where
  pub context : place.placement.context ≡ insert empty (codes "pool") place.pool
  pub topology : place.placement.topology ≡ topology_of (segments_at config place.pool)

abbrev pub ArePlaced : Config → List PoolPlacement → Type 0
ArePlaced config places = AllByRecursion (IsPlaced config) places

-- the entry for a row of a listing
abbrev pub entry_at : Config → Listed → Entry
entry_at config row = record {
  volume = Some (record {
    bytes = signed row.bytes;
    id = id row.number;
    context = insert empty (codes "pool") row.pool;
    topology = topology_of (segments_at config row.pool);
  });
  nodes = Some row.nodes;
}

-- the number of the last row, or `after` if there are no rows
abbrev pub last_row : ℕ → List Listed → ℕ
last_row after [] = after
last_row after (row ∷ rows) = last_row row.number rows
