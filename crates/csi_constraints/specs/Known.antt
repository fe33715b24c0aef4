-- The caps that were read last, and their keys.
use Rattle.std.specs.Prelude.{◌≡◌, ℕ, Bool, false, bytes_eq, List, Option, None, Some}
use Rattle.csi_keeper.specs.declared.capability.CapKey.{CapKey}
use Rattle.csi_constraints.specs.Coding.{keys_in}
use Rattle.csi_constraints.specs.declared.owners.KnownCaps.{KnownCaps}

abbrev pub AreCached : Option KnownCaps → Type 0
AreCached None = Unit {0}
AreCached (Some known) = known.caps ≡ keys_in known.bytes.items

-- the keys of the caps that were read last
abbrev pub last_keys : Option KnownCaps → Option (List CapKey)
last_keys None = None
last_keys (Some known) = known.caps

-- these are the bytes that were read last
abbrev pub are_last : Option KnownCaps → List ℕ → Bool
are_last None bytes = false
are_last (Some known) bytes = bytes_eq known.bytes.items bytes
