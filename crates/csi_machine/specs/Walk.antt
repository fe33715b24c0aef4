-- A walk over the pages of a listing, with other requests among them (CSI specification, 'ListVolumes').
use Rattle.std.specs.Prelude.{◌≡◌, ℕ, pos, List, [], ◌∷◌, ◌++◌, map, Option, None, Some, Result, Ok, Err}
use Rattle.std.specs.FinMap.{get}
use Rattle.std.specs.List.{AllByRecursion}
use Rattle.csi_types.specs.declared.reason.Reason.{Reason}
use Rattle.csi_types.specs.Checks.{checked}
use Rattle.csi_types.specs.declared.reason.Reason.TheVariants.{BadToken}
use Rattle.csi_types.specs.declared.requests.Request.{Request}
use Rattle.csi_types.specs.declared.requests.Request.TheVariants as request
use Rattle.csi_types.specs.declared.responses.Response.{Response}
use Rattle.csi_types.specs.declared.responses.Response.TheVariants as response
use Rattle.csi_types.specs.declared.volume.Entry.{Entry}
use Rattle.csi_types.specs.declared.volume.VolumeInfo.{VolumeInfo}
use Rattle.csi_config.specs.Values.{Has}
use Rattle.csi_config.specs.declared.config.Config.{Config}
use Rattle.csi_keeper.specs.declared.volume.Volume.{Volume}
use Rattle.csi_machine.specs.calls.Listing.{entry_of}
use Rattle.csi_keeper.specs.State.{State}
use Rattle.csi_machine.specs.Step.{plan, step}
use Rattle.csi_keeper.specs.Texts.{Text}
use Rattle.csi_machine.specs.Verdicts.{Report, Says, Denies}

-- a call of a walk: for its next page, with this number of entries, or any other request
pub data Call : Type 0 where
  Next : ℕ → Call
  Other : Request → Call

-- the entries that a response lists, and the token that it has
abbrev pub listing_of : Response → Option (List Entry × Text)
listing_of (response.List entries token) = Some (entries, token)
listing_of _ = None

abbrev pub listing_in : Result Response Reason → Option (List Entry × Text)
listing_in (Ok r) = listing_of r
listing_in (Err reason) = None

abbrev pub listing_reported : Result Response Reason → Report → Option (List Entry × Text)
listing_reported o (Says body) = listing_in o
listing_reported o (Denies reason) = None

-- the request for the page that begins after a token
abbrev pub asked_with : Text → ℕ → Request
asked_with token most = request.List (record { max_entries = pos most; token = token })

-- the entries and the token of a page, if it is not refused
abbrev pub shown : Config → State → Request → Option (List Entry × Text)
shown config s r = listing_reported (plan config s r).outcome (step config s r).0

-- a page of a walk: the State at it, its entries, and the token of the next page, which is empty after the
-- last page
pub record Page : Type 0 where
  pub at : State
  pub entries : List Entry
  pub token : Text

-- a page that is refused is no page of the walk, and is asked for again with its token
abbrev pub with_page : State → Option (List Entry × Text) → List Page → List Page
with_page s None pages = pages
with_page s (Some p) pages = record { at = s; entries = p.0; token = p.1 } ∷ pages

abbrev pub next_token : Text → Option (List Entry × Text) → Text
next_token token None = token
next_token token (Some p) = p.1

-- the pages of a walk from a State on; the first page begins after this token
abbrev pub pages : Config → State → Text → List Call → List Page
pages config s token [] = []
pages config s token (Next most ∷ calls) =
    let r = asked_with token most in
    with_page s (shown config s r) (pages config (step config s r).1 (next_token token (shown config s r)) calls)
pages config s token (Other r ∷ calls) = pages config (step config s r).1 token calls

-- no page is refused for its token
abbrev pub AreRead : Config → State → Text → List Call → Type 0
AreRead config s token [] = Unit {0}
AreRead config s token (Next most ∷ calls) =
    let r = asked_with token most in
    ((step config s r).0 ≡ Denies BadToken → ⊥) × AreRead config (step config s r).1 (next_token token (shown config s r)) calls
AreRead config s token (Other r ∷ calls) = AreRead config (step config s r).1 token calls

-- the other requests pass the checks of their arguments
abbrev pub AreChecked : List Call → Type 0
AreChecked [] = Unit {0}
AreChecked (Next most ∷ calls) = AreChecked calls
AreChecked (Other r ∷ calls) = (checked r ≡ None) × AreChecked calls

-- each page but the last has a token
abbrev pub GoOn : List Page → Type 0
GoOn [] = Unit {0}
GoOn (p ∷ []) = Unit {0}
GoOn (p ∷ q ∷ ps) = (p.token ≡ [] → ⊥) × GoOn (q ∷ ps)

-- the last page has no token
abbrev pub End : List Page → Type 0
End [] = ⊥
End (p ∷ []) = p.token ≡ []
End (p ∷ q ∷ ps) = End (q ∷ ps)

-- each entry of a page is the entry of a volume that existed when the page was made
abbrev pub AreOfVolumes : Config → Page → Type 0
AreOfVolumes config p = AllByRecursion (λ e. (n : ℕ) × (v : Volume) × (get p.at.volumes n ≡ Some v) × (e ≡ entry_of config p.at v)) p.entries

-- a volume with the number existed when each page was made
abbrev pub Stood : ℕ → List Page → Type 0
Stood n ps = AllByRecursion (λ p. (v : Volume) × (get p.at.volumes n ≡ Some v)) ps

abbrev pub id_in : Option VolumeInfo → Text
id_in None = []
id_in (Some v) = v.id

-- the ids of the volumes that are listed
abbrev pub listed_ids : List Page → List Text
listed_ids [] = []
listed_ids (p ∷ ps) = map (λ e. id_in e.volume) p.entries ++ listed_ids ps

-- no two texts are equal
abbrev pub AreApart : List Text → Type 0
AreApart [] = Unit {0}
AreApart (t ∷ ts) = (Has ts t → ⊥) × AreApart ts
