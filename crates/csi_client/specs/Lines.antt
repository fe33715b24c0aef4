-- The lines that the client prints for a response, one line for each part.
use Rattle.std.specs.Prelude.{ℕ, ℤ, Bool, true, false, List, [], ◌∷◌, ◌++◌, Option, Some, None, codes}
use Rattle.std.specs.Fmt.{signed_decimal}
use Rattle.std.specs.FinMap.{entries}
use Rattle.csi_types.specs.declared.responses.Response.{Response}
use Rattle.csi_types.specs.declared.responses.Response.TheVariants as response
use Rattle.csi_types.specs.declared.volume.Confirmed.{Confirmed}
use Rattle.csi_types.specs.declared.volume.Entry.{Entry}
use Rattle.csi_types.specs.declared.volume.VolumeInfo.{VolumeInfo}
use Rattle.csi_client.specs.Escape.{escaped}

-- the texts of all items, in order
abbrev pub each : {A : Type 0} → (A → List ℕ) → List A → List ℕ
each f [] = []
each f (x ∷ xs) = f x ++ each f xs

abbrev pub number_or_none : Option ℤ → List ℕ
number_or_none None = codes "-"
number_or_none (Some n) = signed_decimal n

abbrev pub capability_line : Option ℤ → List ℕ
capability_line n = codes "capability " ++ number_or_none n ++ codes "\n"

abbrev pub ready_word : Option Bool → List ℕ
ready_word None = codes "-"
ready_word (Some true) = codes "true"
ready_word (Some false) = codes "false"

-- an id and a size in bytes
abbrev pub volume_words : VolumeInfo → List ℕ
volume_words v = escaped v.id ++ codes " " ++ signed_decimal v.bytes

abbrev pub volume_line : Option VolumeInfo → List ℕ
volume_line None = codes "volume -\n"
volume_line (Some v) = codes "volume " ++ volume_words v ++ codes "\n"

abbrev pub context_line : List ℕ × List ℕ → List ℕ
context_line e = codes "context " ++ escaped e.0 ++ codes "=" ++ escaped e.1 ++ codes "\n"

abbrev pub confirmed_line : Option Confirmed → List ℕ → List ℕ
confirmed_line None message = codes "not confirmed " ++ escaped message ++ codes "\n"
confirmed_line (Some c) message = codes "confirmed\n"

-- the nodes after the first one, each with a comma before it
abbrev pub further : List (List ℕ) → List ℕ
further nodes = each (λ n. codes "," ++ escaped n) nodes

abbrev pub nodes_word : Option (List (List ℕ)) → List ℕ
nodes_word None = codes "-"
nodes_word (Some []) = codes "-"
nodes_word (Some (n ∷ ns)) = escaped n ++ further ns

abbrev pub entry_of : Option VolumeInfo → Option (List (List ℕ)) → List ℕ
entry_of None nodes = codes "volume -\n"
entry_of (Some v) nodes = codes "volume " ++ volume_words v ++ codes " " ++ nodes_word nodes ++ codes "\n"

abbrev pub entry_line : Entry → List ℕ
entry_line e = entry_of e.volume e.nodes

-- the last page has no token
abbrev pub token_line : List ℕ → List ℕ
token_line [] = []
token_line (b ∷ bs) = codes "next " ++ escaped (b ∷ bs) ++ codes "\n"

abbrev pub lines : Response → List ℕ
lines (response.PluginInfo name version) = codes "plugin " ++ escaped name ++ codes " " ++ escaped version ++ codes "\n"
lines (response.PluginCapabilities types) = each capability_line types
lines (response.Probe ready) = codes "ready " ++ ready_word ready ++ codes "\n"
lines (response.ControllerCapabilities types) = each capability_line types
lines (response.Create volume) = volume_line volume
lines response.Delete = []
lines (response.Publish context) = each context_line (entries context)
lines response.Unpublish = []
lines (response.Validate confirmed message) = confirmed_line confirmed message
lines (response.List es token) = each entry_line es ++ token_line token
lines (response.Capacity available maximum) = codes "available " ++ signed_decimal available ++ codes " maximum " ++ number_or_none maximum ++ codes "\n"
lines response.Modify = []
