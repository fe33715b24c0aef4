-- Memory that is kept for the next opening of tables: the bytes that a change adds, and the blocks that are
-- kept.
use Rattle.std.specs.Prelude.{ℕ, ◌+◌, ◌≤◌, All, List, length, sum_by, vec_capacity, vec_len}
use Rattle.std.specs.Global.{Vec}
use Rattle.std.specs.Int.{div_ceil}
use Rattle.csi_types.specs.Checks.{map_bytes}
use Rattle.csi_keeper.specs.State.{up_to_u64}
use Rattle.csi_keeper.specs.declared.capability.CapKey.{CapKey}
use Rattle.csi_keeper.specs.declared.capability.Kind.{Kind}
use Rattle.csi_keeper.specs.declared.capability.Kind.TheVariants.{Block, Mount}
use Rattle.csi_keeper.specs.declared.change.Change.{Change}
use Rattle.csi_keeper.specs.declared.change.Change.TheVariants.{AddVolume, RemoveVolume, Attach, Detach, DetachAll, SetMutable}
use Rattle.csi_keeper.specs.declared.volume.Volume.{Volume}
use Rattle.csi_files.specs.declared.reserve.Reserve.{Reserve}

-- ---- bytes

-- a capability takes 4 bytes, and the bytes of the name of its file system
abbrev pub kind_bytes : Kind → ℕ
kind_bytes Block = 4
kind_bytes (Mount name) = length name + 4

abbrev pub cap_bytes : CapKey → ℕ
cap_bytes key = kind_bytes key.kind

-- a row takes 256 bytes, and the bytes of its texts and blobs
abbrev pub volume_bytes : Volume → ℕ
volume_bytes v = 256 + length v.name + length v.pool + sum_by cap_bytes v.caps + map_bytes v.params + map_bytes v.mutable

-- the bytes that a change adds to an opening; 0 for a change that removes rows
abbrev pub change_bytes : Change → ℕ
change_bytes (AddVolume v) = volume_bytes v
change_bytes (Attach n a) = 256 + length a.node + cap_bytes a.cap
change_bytes (SetMutable n m) = map_bytes m
change_bytes (RemoveVolume n) = 0
change_bytes (Detach n node) = 0
change_bytes (DetachAll n) = 0

-- ---- blocks

-- the bytes of a block, 1 MiB
abbrev pub block_bytes : ℕ
block_bytes = 1048576

-- each block has at least `BLOCK_BYTES` bytes
abbrev pub AreBlocks : List (Vec ℕ) → Type 0
AreBlocks blocks = All (λ block. block_bytes ≤ vec_capacity block) blocks

-- the number of blocks that hold this number of bytes
abbrev pub blocks_for : ℕ → ℕ
blocks_for bytes = div_ceil bytes block_bytes

-- the reserve has enough blocks for the bytes that it wants
abbrev pub IsFull : Reserve → Type 0
IsFull reserve = blocks_for reserve.wanted ≤ vec_len reserve.blocks

-- the bytes to keep after the tables grew by this number of bytes
abbrev pub wanted_with : Reserve → ℕ → ℕ
wanted_with reserve bytes = up_to_u64 (reserve.wanted + bytes)
