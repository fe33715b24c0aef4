-- Topologies (CSI specification, 'CreateVolume', the message Topology). Keys are case-insensitive:
-- they are compared with their ASCII letters folded. Values are compared by bytes.
use Rattle.std.specs.Prelude.{ℕ, Bool, false, ◌||◌, ◌&&◌, List, [], ◌∷◌, map}
use Rattle.std.specs.FinMap.{entries, from_entries}
use Rattle.std.specs.List.{list_any, list_all}
use Rattle.std.specs.Str.{str_to_ascii_lowercase}
use Rattle.csi_types.specs.Maps.{TextMap, same_text, same_map}

-- the keys are equal when their ASCII letters are folded
abbrev pub alike : List ℕ → List ℕ → Bool
alike j k = same_text (str_to_ascii_lowercase j) (str_to_ascii_lowercase k)

-- some two items of the list pass the test
abbrev pub some_two : {A : Type 0} → (A → A → Bool) → List A → Bool
some_two test [] = false
some_two test (x ∷ xs) = list_any (test x) xs || some_two test xs

-- two keys of a topology are alike
abbrev pub has_alike_keys : TextMap → Bool
has_alike_keys m = some_two (λ e f. alike e.0 f.0) (entries m)

-- the topology with its keys folded
unfoldable pub folded : TextMap → TextMap
folded m = from_entries (map (λ e. (str_to_ascii_lowercase e.0, e.1)) (entries m))

-- the topologies are equal when their keys are folded
abbrev pub same_topology : TextMap → TextMap → Bool
same_topology m n = same_map (folded m) (folded n)

-- each segment of the inner topology is a segment of the outer topology
abbrev pub is_within : TextMap → TextMap → Bool
is_within inner outer =
    list_all (λ e. list_any (λ f. alike e.0 f.0 && same_text e.1 f.1) (entries outer)) (entries inner)
