-- The invariant of each State that the machine reaches.
use Rattle.std.specs.Prelude.{◌≡◌, ℕ, ◌<◌, ◌≤◌, true, List, Some, None, IsSome, length, sum}
use Rattle.std.specs.FinMap.{get, len}
use Rattle.std.specs.List.{list_all}
use Rattle.csi_types.specs.Checks.{map_bytes}
use Rattle.csi_types.specs.Names.{refused_name}
use Rattle.csi_types.specs.declared.limits.TheConstants.{MAX_MAP_BYTES, MAX_NUMBER, MAX_VOLUMES}
use Rattle.csi_config.specs.Faults.{is_whole}
use Rattle.csi_config.specs.Values.{Has}
use Rattle.csi_config.specs.declared.config.Config.{Config}
use Rattle.csi_config.specs.declared.nodes.Node.{Node}
use Rattle.csi_config.specs.declared.pools.Pool.{Pool}
use Rattle.csi_keeper.specs.declared.capability.CapKey.{CapKey}
use Rattle.csi_keeper.specs.declared.volume.Attachment.{Attachment}
use Rattle.csi_keeper.specs.declared.volume.Volume.{Volume}
use Rattle.csi_keeper.specs.Capability.{AreOrdered, has_key, is_supported_key}
use Rattle.csi_keeper.specs.Coexistence.{coexist}
use Rattle.csi_keeper.specs.Lookup.{node_of, pool_named}
use Rattle.csi_keeper.specs.State.{State, sizes, attached_at}
use Rattle.csi_keeper.specs.Texts.{Text}

-- the capability keys of a volume: in order, at least one, each supported
pub record AreKeys (keys : List CapKey) : Type 0 where
  pub ordered : AreOrdered keys
  pub some : 1 ≤ length keys
  pub supported : list_all is_supported_key keys ≡ true

-- a volume that exists under a number
pub record IsVolume (config : Config) (next n : ℕ) (v : Volume) : Type 0 where
  pub number : v.number ≡ n
  pub given : (1 ≤ n) × (n < next)
  pub name : refused_name v.name ≡ None
  pub pool : IsSome (pool_named config.pools v.pool)
  pub bytes : is_whole v.bytes ≡ true
  pub caps : AreKeys v.caps
  pub params : map_bytes v.params ≤ MAX_MAP_BYTES
  pub mutable : map_bytes v.mutable ≤ MAX_MAP_BYTES

-- an attachment at a number and a node
pub record IsAttached (config : Config) (s : State) (n : ℕ) (node : Text) (a : Attachment) : Type 0 where
  pub at : a.node ≡ node
  pub known : IsSome (node_of config node)
  pub volume : Volume
  pub stands : get s.volumes n ≡ Some volume
  pub cap : has_key volume.caps (Some a.cap) ≡ true

pub record IsInvariant (config : Config) (s : State) : Type 0 where
  pub next : (1 ≤ s.next) × (s.next ≤ MAX_NUMBER)
  pub volumes : (n : ℕ) (v : Volume) → get s.volumes n ≡ Some v → IsVolume config s.next n v
  pub names : (m n : ℕ) (v w : Volume) → get s.volumes m ≡ Some v → get s.volumes n ≡ Some w → v.name ≡ w.name → m ≡ n
  -- no pool is overcommitted
  pub rooms : (p : Pool) → Has config.pools p → sum (sizes s p.name) ≤ p.bytes
  pub attachments : (n : ℕ) (node : Text) (a : Attachment) → get s.attachments (n, node) ≡ Some a → IsAttached config s n node a
  -- any two attachments of a volume coexist
  pub beside : (n : ℕ) (d e : Text) (a b : Attachment) → get s.attachments (n, d) ≡ Some a → get s.attachments (n, e) ≡ Some b → (d ≡ e → ⊥)
      → coexist a b ≡ true
  -- no node holds more volumes than it may
  pub nodes : (m : Node) → Has config.nodes m → length (attached_at s m.id) ≤ m.max_volumes
  pub few : len s.volumes ≤ MAX_VOLUMES
