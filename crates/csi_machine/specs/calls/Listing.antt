-- ListVolumes (CSI specification, 'ListVolumes').
use Rattle.std.specs.Prelude.{ℕ, ◌==◌, ◌&&◌, nat_lt, nat_le, min, List, [], ◌∷◌, Option, Some, None, map, if◌then◌else◌}
use Rattle.std.specs.Fmt.{decimal}
use Rattle.csi_types.specs.Names.{is_empty}
use Rattle.csi_types.specs.declared.limits.TheConstants.{MAX_PAGE_ENTRIES}
use Rattle.csi_types.specs.declared.reason.Reason.TheVariants.{BadToken}
use Rattle.csi_types.specs.declared.requests.ListVolumes.{ListVolumes}
use Rattle.csi_types.specs.declared.responses.Response.TheVariants as response
use Rattle.csi_types.specs.declared.volume.Entry.{Entry}
use Rattle.csi_config.specs.declared.config.Config.{Config}
use Rattle.csi_machine.specs.declared.plan.Plan.{Plan}
use Rattle.csi_keeper.specs.declared.volume.Volume.{Volume}
use Rattle.csi_rules.specs.Ids.{number_of}
use Rattle.csi_rules.specs.Info.{info}
use Rattle.csi_machine.specs.Plan.{refuse, respond}
use Rattle.csi_rules.specs.Size.{whole}
use Rattle.csi_keeper.specs.State.{State, published, beyond, page}
use Rattle.csi_keeper.specs.Texts.{Text}

-- the number, if it was given to a volume
abbrev pub given : ℕ → Option ℕ → Option ℕ
given next None = None
given next (Some n) = if nat_le 1 n && nat_lt n next then Some n else None

-- the number after which a page begins; a token is the number of the last volume that was listed, which need
-- not exist any more
abbrev pub start_of : ℕ → Text → Option ℕ
start_of next token = if is_empty token then Some 0 else given next (number_of token)

-- the number of entries that are asked for, up to the limit; 0 asks for no certain number
abbrev pub entries_for : ℕ → ℕ
entries_for most = if most == 0 then MAX_PAGE_ENTRIES else min most MAX_PAGE_ENTRIES

-- the volumes of a page that begins after a number
abbrev pub listed : State → ℕ → ℕ → List Volume
listed s after most = page s after (entries_for most)

-- the number of the last volume, or `after` if there are no volumes
abbrev pub last_of : ℕ → List Volume → ℕ
last_of after [] = after
last_of after (v ∷ vs) = last_of v.number vs

-- the token of the next page, if a volume exists beyond this one
abbrev pub token_for : ℕ → List Volume → Text
token_for last [] = []
token_for last (v ∷ vs) = decimal last

-- a volume, and the nodes that it is published at
abbrev pub entry_with : Config → Volume → List Text → Entry
entry_with config v nodes = record { volume = Some (info config v); nodes = Some nodes }

-- a volume of a State, and the nodes that it is published at
abbrev pub entry_of : Config → State → Volume → Entry
entry_of config s v = entry_with config v (published s v.number)

abbrev pub list_after : Config → State → ℕ → Option ℕ → Plan
list_after config s most None = refuse BadToken
list_after config s most (Some after) =
    respond (response.List (map (entry_of config s) (listed s after most))
    (token_for (last_of after (listed s after most)) (beyond s (last_of after (listed s after most)))))

abbrev pub list_volumes : Config → State → ListVolumes → Plan
list_volumes config s r = list_after config s (whole r.max_entries) (start_of s.next r.token)
