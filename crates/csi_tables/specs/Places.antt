-- The places (number and node) of attachments, as a listing of published nodes reads them.
use Rattle.std.specs.Prelude.{ℕ, ◌<◌, ◌≤◌, ◌==◌, List, [], ◌∷◌, filter, map, IsUtf8}
use Rattle.std.specs.List.{AllByRecursion}
use Rattle.sqlite.specs.Order.{Row}
use Rattle.sqlite.specs.Tree.{IsAscending}
use Rattle.sqlite.specs.declared.types.Value.TheVariants.{Text}
use Rattle.csi_keeper.specs.State.{AttachmentKey}
use Rattle.csi_keeper.specs.Texts as texts
use Rattle.csi_sql.specs.Rows.{number_value}

-- the row of a place: number, node
abbrev pub place_row : AttachmentKey → Row
place_row p = number_value p.0 ∷ Text p.1 ∷ []

-- the places are in the order of their numbers
abbrev pub IsRisen : List AttachmentKey → Type 0
IsRisen ps = IsAscending (λ a b. a.0 ≤ b.0) ps

-- the nodes are UTF-8
abbrev pub AreTexts : List AttachmentKey → Type 0
AreTexts ps = AllByRecursion (λ p. IsUtf8 p.1) ps

abbrev pub AreRising : List ℕ → Type 0
AreRising ns = IsAscending (λ a b. a < b) ns

-- the nodes of the places with this number
abbrev pub nodes_at : List AttachmentKey → ℕ → List texts.Text
nodes_at ps number = map (λ p. p.1) (filter (λ p. p.0 == number) ps)
