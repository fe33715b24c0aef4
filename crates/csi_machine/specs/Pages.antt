-- Pages of a listing, written volume by volume.
use Rattle.std.specs.Prelude.{◌≡◌, ℕ, Bool, true, false, List, [], ◌∷◌, ◌++◌, map, if◌then◌else◌}
use Rattle.std.specs.Fmt.{decimal}
use Rattle.csi_codec.specs.Methods.{response_bytes}
use Rattle.csi_types.specs.declared.responses.Response.TheVariants as response
use Rattle.csi_config.specs.declared.config.Config.{Config}
use Rattle.csi_keeper.specs.State.{State, beyond}
use Rattle.csi_keeper.specs.Texts.{Text}
use Rattle.csi_keeper.specs.declared.listed.Listed.{Listed}
use Rattle.csi_machine.specs.Places.{ArePlaced, entry_at, last_row}
use Rattle.csi_machine.specs.calls.Listing.{entry_of, last_of, listed, token_for}
use Rattle.csi_machine.specs.declared.page.Page.{Page}

-- the page `now` is the page `first` with the entries of these rows appended
pub record HasWritten (first : Page) (rows : List Listed) (now : Page) : Type 0 where
  pub config : now.config.now ≡ first.config.now
  pub placed : ArePlaced now.config.now now.places.items
  pub last : now.last ≡ last_row first.last rows
  pub body : now.body.items ≡ first.body.items ++ response_bytes (response.List (map (entry_at first.config.now) rows) [])

-- true if there is a row
abbrev pub is_any : List Listed → Bool
is_any [] = false
is_any (row ∷ rows) = true

-- the token of the next page, if there is one
abbrev pub token_when : ℕ → Bool → Text
token_when last is_more = if is_more then decimal last else []

-- `new` is `old` with the body of a page appended: the volumes after the number `after`, at most `most` of
-- them
abbrev pub IsPage : Config → State → ℕ → ℕ → List ℕ → List ℕ → Type 0
IsPage config s after most old new =
    new ≡ old ++ response_bytes (response.List (map (entry_of config s) (listed s after most))
    (token_for (last_of after (listed s after most)) (beyond s (last_of after (listed s after most)))))
