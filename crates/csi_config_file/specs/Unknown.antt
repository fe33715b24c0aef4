-- The keys of a document that are not known.
use Rattle.std.specs.Prelude.{ℕ, suc, List, [], ◌∷◌, ◌++◌, Bool, if◌then◌else◌, Option, None, Some, option_and_then, bytes_eq, string_bytes}
use Rattle.std.specs.List.{list_any}
use Rattle.toml.specs.Data.{Data, Items, no_items, item, Members, no_members, member, get_member, as_array, as_table}
use Rattle.csi_config_file.specs.Document.{key_text}
use Rattle.csi_config_file.specs.declared.config_file.Section.{Section}
use Rattle.csi_config_file.specs.declared.config_file.Section.TheVariants as section
use Rattle.csi_config_file.specs.declared.config_file.Key.{Key}
use Rattle.csi_config_file.specs.declared.config_file.Key.TheVariants as key
use Rattle.csi_config_file.specs.declared.unknown.UnknownKey.{UnknownKey}

-- the keys that a table may have
abbrev pub known_in : Section → List Key
known_in section.Top = key.Name ∷ key.VendorVersion ∷ key.DefaultBytes ∷ key.GreatestBytes ∷ key.Pool ∷ key.Node ∷ []
known_in (section.Pool n) = key.Name ∷ key.Bytes ∷ key.Segments ∷ []
known_in (section.Node n) = key.Id ∷ key.MaxVolumes ∷ []

-- a key, and the section that it is in
abbrev pub KeyPlace : Type 0
KeyPlace = Section × List ℕ

abbrev pub place_of : UnknownKey → KeyPlace
place_of u = (u.section, string_bytes u.key)

abbrev pub is_known : List Key → List ℕ → Bool
is_known known k = list_any (λ one. bytes_eq (key_text one) k) known

-- the keys of a table that are not in this list
abbrev pub unknown_of : Section → List Key → Members → List KeyPlace
unknown_of s known no_members = []
unknown_of s known (member k d ms) = if is_known known k then unknown_of s known ms else ((s, k) ∷ unknown_of s known ms)

abbrev pub of_table : Section → Option Members → List KeyPlace
of_table s None = []
of_table s (Some ms) = unknown_of s (known_in s) ms

-- the unknown keys in the tables of an array, by number
abbrev pub of_tables : (ℕ → Section) → ℕ → Items → List KeyPlace
of_tables place n no_items = []
of_tables place n (item d ds) = of_table (place n) (as_table d) ++ of_tables place (suc n) ds

-- the unknown keys in a value that may be an array
abbrev pub of_array : (ℕ → Section) → Option Items → List KeyPlace
of_array place None = []
of_array place (Some ds) = of_tables place 1 ds

-- the unknown keys at the top, in the pools and in the nodes
abbrev pub unknown_in : Members → List KeyPlace
unknown_in ms =
    unknown_of section.Top (known_in section.Top) ms
    ++ (of_array section.Pool (option_and_then as_array (get_member (key_text key.Pool) ms))
    ++ of_array section.Node (option_and_then as_array (get_member (key_text key.Node) ms)))

-- bytes that are no document have no unknown keys
abbrev pub unknown_if : Option Members → List KeyPlace
unknown_if None = []
unknown_if (Some ms) = unknown_in ms
