-- Entries of a listing, made of the parts that they are written from.
use Rattle.std.specs.Prelude.{ℕ, ℤ, List, ◌∷◌, ◌+◌, ◌≤◌, ◌<◌, ◌++◌, Some, length}
use Rattle.std.specs.Fmt.{decimal}
use Rattle.std.specs.Int.{cast_unsigned, w64}
use Rattle.pbwire.specs.Writing.{spellings}
use Rattle.pbmessage.specs.Canon.{Numbers, present_number, row_fields}
use Rattle.csi_types.specs.declared.volume.VolumeInfo.{VolumeInfo}
use Rattle.csi_types.specs.declared.volume.Entry.{Entry}
use Rattle.csi_codec.specs.declared.placement.Placement.{Placement}
use Rattle.csi_codec.specs.declared.listing.ListedEntry.{ListedEntry}
use Rattle.csi_codec.specs.messages.Volume.{no_nodes, placement_bytes}

-- a volume with the context and the topology of its pool
abbrev pub placed_volume : ℤ → List ℕ → Placement → VolumeInfo
placed_volume bytes id p = record { bytes = bytes; id = id; context = p.context; topology = p.topology }

-- the id of the entry's volume
abbrev pub listed_id : ListedEntry → List ℕ
listed_id e = e.prefix.now ++ decimal e.number

abbrev pub listed_entry : ListedEntry → Entry
listed_entry e = record { volume = Some (placed_volume e.bytes (listed_id e) e.placement.now); nodes = Some e.nodes.now }

-- the field of a size, from the 64 bits of the size
abbrev pub size_bytes : ℕ → List ℕ
size_bytes n = spellings (row_fields (Numbers 1 (present_number n)))

-- the field of an id of less than 128 bytes
abbrev pub id_field : List ℕ → ℕ → List ℕ
id_field prefix n = 18 ∷ (length prefix + length (decimal n)) ∷ (prefix ++ decimal n)

-- the bytes of a volume whose id has fewer than 128 bytes
unfoldable pub short_volume : ListedEntry → List ℕ
short_volume e =
    size_bytes (cast_unsigned w64 e.bytes)
    ++ (id_field e.prefix.now e.number ++ placement_bytes e.placement.now.context e.placement.now.topology)

-- the bytes of an entry in which each length takes one byte, for a volume that is published nowhere
unfoldable pub short_entry : ListedEntry → List ℕ
short_entry e =
    10 ∷ (length (short_volume e) + 4) ∷ 10 ∷ length (short_volume e) ∷ (short_volume e ++ no_nodes)

-- the entry's volume has an id, and each length in the entry takes one byte
pub record IsShort (e : ListedEntry) : Type 0 where
  pub named : 1 ≤ length e.prefix.now
  pub low : length (short_volume e) < 122
