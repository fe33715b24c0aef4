-- Which pools serve a topology (CSI specification, 'CreateVolume', the messages Topology and
-- TopologyRequirement).
use Rattle.std.specs.Prelude.{◌==◌, ◌||◌, Bool, true, List, [], ◌∷◌, ◌++◌, Option, Some, None, length}
use Rattle.std.specs.FinMap.{empty}
use Rattle.std.specs.List.{list_any}
use Rattle.csi_types.specs.Maps.{TextMap}
use Rattle.csi_types.specs.Topology.{is_within}
use Rattle.csi_types.specs.declared.topology.Requirement.{Requirement}

-- one of the two maps contains the other, if the case of the ASCII letters in keys is ignored
abbrev pub serves : TextMap → TextMap → Bool
serves segments term = is_within segments term || is_within term segments

abbrev pub or_empty : List TextMap → List TextMap
or_empty [] = empty ∷ []
or_empty (t ∷ ts) = t ∷ ts

-- the terms in the order of the tries: the preferred ones, then the requisite ones, or the empty term if
-- the request gives no term
abbrev pub terms : Option Requirement → List TextMap
terms None = empty ∷ []
terms (Some r) = r.preferred ++ or_empty r.requisite

-- a pool of these segments serves a requisite term, or no requisite term is given
abbrev pub is_reachable : TextMap → Option Requirement → Bool
is_reachable segments None = true
is_reachable segments (Some r) = length r.requisite == 0 || list_any (serves segments) r.requisite
