-- The result of reading a configuration, by its text.
use Rattle.std.specs.Prelude.{◌≡◌, ℕ, List, Option, None, Some, Result, Ok, Err, IsOkAnd, IsUtf8, ⊤}
use Rattle.toml.specs.Data.{Members}
use Rattle.toml.specs.Parse.{parse_document}
use Rattle.csi_config.specs.Faults.{fault_of}
use Rattle.csi_config.specs.declared.config.Config.{Config}
use Rattle.csi_config_file.specs.Document.{Read, parts_in}
use Rattle.csi_config_file.specs.declared.config_file.ConfigError.{ConfigError}
use Rattle.csi_config_file.specs.declared.config_file.ConfigError.TheVariants.{NotToml, Key, Fault, NoMemory}

-- the result is the one in the definition, with `seen` applied to its value; or memory was refused
abbrev pub IsRead : {X Y : Type 0} → (Y → X) → Read X → Read Y → Type 0
IsRead seen r (Ok y) = r ≡ Ok (seen y)
IsRead seen r (Err (NotToml line)) = ⊥
IsRead seen r (Err (Key section key rule)) = r ≡ Err (Key section key rule)
IsRead seen r (Err (Fault f)) = ⊥
IsRead seen r (Err NoMemory) = ⊤

-- the configuration of a document, the first key at fault, or otherwise the first fault of its parts; or
-- memory was refused
abbrev pub IsOfDocument : Members → Result Config ConfigError → Type 0
IsOfDocument ms (Ok config) = parts_in ms ≡ Ok (record { plugin = config.plugin; sizes = config.sizes; pools = config.pools; nodes = config.nodes })
IsOfDocument ms (Err (NotToml line)) = ⊥
IsOfDocument ms (Err (Key section key rule)) = parts_in ms ≡ Err (Key section key rule)
IsOfDocument ms (Err (Fault f)) = IsOkAnd (parts_in ms) (λ p. fault_of p.plugin p.sizes p.pools p.nodes ≡ Some f)
IsOfDocument ms (Err NoMemory) = ⊤

-- the result for bytes that may be a document of TOML's grammar
abbrev pub IsOfParsed : Option Members → Result Config ConfigError → Type 0
IsOfParsed None r = ⊥
IsOfParsed (Some ms) r = IsOfDocument ms r

-- the bytes are a document in UTF-8 that gives this result, or they are no such document; lack of memory says
-- nothing about them
abbrev pub IsOfText : List ℕ → Result Config ConfigError → Type 0
IsOfText bytes (Ok config) = IsUtf8 bytes × IsOfParsed (parse_document bytes) (Ok config)
IsOfText bytes (Err (NotToml line)) = IsUtf8 bytes → parse_document bytes ≡ None
IsOfText bytes (Err (Key section key rule)) = IsUtf8 bytes × IsOfParsed (parse_document bytes) (Err (Key section key rule))
IsOfText bytes (Err (Fault f)) = IsUtf8 bytes × IsOfParsed (parse_document bytes) (Err (Fault f))
IsOfText bytes (Err NoMemory) = ⊤
