-- The values of the keys of a document (docs/OPERATING.md, 'Configuration'): the parts of a configuration, or
-- the first key that is missing or of another type.
use Rattle.std.specs.Prelude.{codes, ℕ, suc, ℤ, pos, negsuc, List, [], ◌∷◌, Option, None, Some, ok_or, option_and_then, Result, Ok, Err}
use Rattle.std.specs.FinMap.{empty, insert}
use Rattle.toml.specs.Data.{Data, Items, no_items, item, Members, no_members, member, get_member, as_str, as_integer, as_array, as_table}
use Rattle.csi_types.specs.Maps.{TextMap}
use Rattle.csi_config.specs.declared.plugin.Plugin.{Plugin}
use Rattle.csi_config.specs.declared.sizes.Sizes.{Sizes}
use Rattle.csi_config.specs.declared.pools.Pool.{Pool}
use Rattle.csi_config.specs.declared.nodes.Node.{Node}
use Rattle.csi_config_file.specs.declared.config_file.Section.{Section}
use Rattle.csi_config_file.specs.declared.config_file.Section.TheVariants as section
use Rattle.csi_config_file.specs.declared.config_file.Key.{Key}
use Rattle.csi_config_file.specs.declared.config_file.Key.TheVariants as key
use Rattle.csi_config_file.specs.declared.config_file.KeyRule.TheVariants as rule
use Rattle.csi_config_file.specs.declared.config_file.ConfigError.{ConfigError}
use Rattle.csi_config_file.specs.declared.config_file.ConfigError.TheVariants as error

-- how a key is written
abbrev pub key_text : Key → List ℕ
key_text key.Name = codes "name"
key_text key.VendorVersion = codes "vendor_version"
key_text key.DefaultBytes = codes "default_bytes"
key_text key.GreatestBytes = codes "greatest_bytes"
key_text key.Pool = codes "pool"
key_text key.Bytes = codes "bytes"
key_text key.Segments = codes "segments"
key_text key.Node = codes "node"
key_text key.Id = codes "id"
key_text key.MaxVolumes = codes "max_volumes"

-- the configuration of a document, or its first fault
abbrev pub Read : Type 0 → Type 0
Read X = Result X ConfigError

-- the rest of a configuration, from the part read before
abbrev pub bind : {X Y : Type 0} → Read X → (X → Read Y) → Read Y
bind (Ok x) f = f x
bind (Err e) f = Err e

-- the value of a key that must be present
abbrev pub value_at : Section → Members → Key → Read Data
value_at s ms k = ok_or (get_member (key_text k) ms) (error.Key s k rule.Missing)

abbrev pub text_at : Section → Members → Key → Read (List ℕ)
text_at s ms k = bind (value_at s ms k) (λ d. ok_or (as_str d) (error.Key s k rule.Text))

-- a number that is not negative
abbrev pub whole : ℤ → Option ℕ
whole (pos n) = Some n
whole (negsuc n) = None

abbrev pub count_at : Section → Members → Key → Read ℕ
count_at s ms k = bind (value_at s ms k) (λ d. ok_or (option_and_then whole (as_integer d)) (error.Key s k rule.Count))

-- a map with the texts of a table added, if all values of the table are texts
abbrev pub with_texts : TextMap → Members → Option TextMap
with_texts m no_members = Some m
with_texts m (member k d ms) = option_and_then (λ t. with_texts (insert m k t) ms) (as_str d)

-- the texts of an optional table
abbrev pub texts_of : Section → Option Data → Read TextMap
texts_of s None = Ok empty
texts_of s (Some d) = ok_or (option_and_then (with_texts empty) (as_table d)) (error.Key s key.Segments rule.Texts)

-- the values of an array, each read with its number, or the first fault
abbrev pub each : {X : Type 0} → (ℕ → Data → Read X) → ℕ → Items → Read (List X)
each f n no_items = Ok []
each f n (item d ds) = bind (f n d) (λ x. bind (each f (suc n) ds) (λ xs. Ok (x ∷ xs)))

-- a table of an array of tables
abbrev pub table_in : Key → Data → Read Members
table_in k d = ok_or (as_table d) (error.Key section.Top k rule.Tables)

abbrev pub array_in : Key → Data → Read Items
array_in k d = ok_or (as_array d) (error.Key section.Top k rule.Tables)

abbrev pub pool_in : Section → Members → Read Pool
pool_in s ms =
    bind (text_at s ms key.Name) (λ name.
    bind (count_at s ms key.Bytes) (λ bytes.
    bind (texts_of s (get_member (key_text key.Segments) ms)) (λ segments.
    Ok (record { name = name; bytes = bytes; segments = segments }))))

abbrev pub node_in : Section → Members → Read Node
node_in s ms =
    bind (text_at s ms key.Id) (λ id.
    bind (count_at s ms key.MaxVolumes) (λ most.
    Ok (record { id = id; max_volumes = most })))

abbrev pub pool_at : ℕ → Data → Read Pool
pool_at n d = bind (table_in key.Pool d) (pool_in (section.Pool n))

abbrev pub node_at : ℕ → Data → Read Node
node_at n d = bind (table_in key.Node d) (node_in (section.Node n))

-- the pools, a required array, numbered from 1
abbrev pub pools_in : Members → Read (List Pool)
pools_in ms = bind (value_at section.Top ms key.Pool) (λ d. bind (array_in key.Pool d) (each pool_at 1))

-- the nodes, an optional array
abbrev pub nodes_in : Option Data → Read (List Node)
nodes_in None = Ok []
nodes_in (Some d) = bind (array_in key.Node d) (each node_at 1)

abbrev pub plugin_in : Members → Read Plugin
plugin_in ms =
    bind (text_at section.Top ms key.Name) (λ name.
    bind (text_at section.Top ms key.VendorVersion) (λ version.
    Ok (record { name = name; version = version })))

abbrev pub sizes_in : Members → Read Sizes
sizes_in ms =
    bind (count_at section.Top ms key.DefaultBytes) (λ default.
    bind (count_at section.Top ms key.GreatestBytes) (λ greatest.
    Ok (record { default_bytes = default; greatest_bytes = greatest })))

-- the parts of a configuration
pub record Parts : Type 0 where
  pub plugin : Plugin
  pub sizes : Sizes
  pub pools : List Pool
  pub nodes : List Node

abbrev pub parts_in : Members → Read Parts
parts_in ms =
    bind (plugin_in ms) (λ plugin.
    bind (sizes_in ms) (λ sizes.
    bind (pools_in ms) (λ pools.
    bind (nodes_in (get_member (key_text key.Node) ms)) (λ nodes.
    Ok (record { plugin = plugin; sizes = sizes; pools = pools; nodes = nodes })))))
