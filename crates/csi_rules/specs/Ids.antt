-- Numbers of volumes as texts: volume ids, and tokens of a listing (CSI specification, 'CreateVolume',
-- Volume.volume_id, and 'ListVolumes', starting_token). Both are the plugin's own.
use Rattle.std.specs.Prelude.{ℕ, ◌^◌, ◌++◌, ◌&&◌, nat_lt, Option, None, Some, drop, take, codes, if◌then◌else◌}
use Rattle.std.specs.Fmt.{decimal}
use Rattle.std.specs.Str.Parse.{digits_value}
use Rattle.csi_types.specs.Maps.{same_text}
use Rattle.csi_keeper.specs.Texts.{Text}

-- the number of a text that is the number's decimal without leading zeros; it is below 2 ^ 64
abbrev pub number_of : Text → Option ℕ
number_of text =
    if nat_lt (digits_value 10 text) (2 ^ 64) && same_text (decimal (digits_value 10 text)) text then Some (digits_value 10 text) else None

abbrev pub id : ℕ → Text
id n = codes "vol-" ++ decimal n

-- the number of a text that is the number's id; any other text names no volume
abbrev pub number_of_id : Text → Option ℕ
number_of_id text = if same_text (take 4 text) (codes "vol-") then number_of (drop 4 text) else None
