-- Calls that walk over the pages of a listing, with other calls among them (CSI specification,
-- 'ListVolumes').
use Rattle.std.specs.Prelude.{◌≡◌, ◌≢◌, ℕ, Bool, true, false, List, [], ◌∷◌, Option, Some, None}
use Rattle.envelope.specs.Envelope.{CallBytes, ReplyBytes}
use Rattle.csi_types.specs.declared.reason.Reason.TheVariants.{BadToken}
use Rattle.csi_types.specs.declared.volume.Entry.{Entry}
use Rattle.csi_config.specs.declared.config.Config.{Config}
use Rattle.csi_keeper.specs.State.{State}
use Rattle.csi_keeper.specs.Texts.{Text}
use Rattle.csi_machine.specs.Walk.{Page, asked_with, next_token, shown, with_page}
use Rattle.csi_server.specs.Machine.{Mark, Unmarked, OutOfMemory, StoreRefused, StoreDown, refused}
use Rattle.csi_server.specs.Machine.{step as call_step}
use Rattle.csi_server.specs.Tries.{Exchange, asked}
use Rattle.csi_server.specs.Volumes.{volumes}

-- a call of a walk: for its next page, with this number of entries, or any other call of any client
pub record Turn : Type 0 where
  pub exchange : Exchange
  pub page : Option ℕ

-- the page that a call for the next page shows; none if the call is refused inside or its reply is not heard
abbrev pub shown_heard : Config → State → Text → ℕ → Mark → Bool → Option (List Entry × Text)
shown_heard config s token most Unmarked true = shown config s (asked_with token most)
shown_heard config s token most Unmarked false = None
shown_heard config s token most OutOfMemory is_heard = None
shown_heard config s token most StoreRefused is_heard = None
shown_heard config s token most StoreDown is_heard = None

abbrev pub shown_by : Config → State → Text → Option ℕ → Mark → Bool → Option (List Entry × Text)
shown_by config s token None mark is_heard = None
shown_by config s token (Some most) mark is_heard = shown_heard config s token most mark is_heard

abbrev pub shown_in : Config → State → Text → Turn → Option (List Entry × Text)
shown_in config s token t = shown_by config s token t.page t.exchange.event.mark t.exchange.is_heard

-- The pages of a walk from a State on; the first page begins after this token. A call that shows nothing is
-- no page, and the next page is asked for with the same token.
abbrev pub pages : Config → State → Text → List Turn → List Page
pages config s token [] = []
pages config s token (t ∷ ts) =
    with_page s (shown_in config s token t) (pages config (call_step (volumes config) s t.exchange.event).1 (next_token token (shown_in config s token t)) ts)

abbrev pub IsAsked : Text → Option ℕ → CallBytes → Type 0
IsAsked token None call = Unit {0}
IsAsked token (Some most) call = asked call ≡ Some (asked_with token most)

-- each call for a page asks for it with the token of the page before it
abbrev pub AreAsked : Config → State → Text → List Turn → Type 0
AreAsked config s token [] = Unit {0}
AreAsked config s token (t ∷ ts) =
    IsAsked token t.page t.exchange.event.call
    × AreAsked config (call_step (volumes config) s t.exchange.event).1 (next_token token (shown_in config s token t)) ts

abbrev pub IsRead : Option ℕ → Bool → ReplyBytes → Type 0
IsRead None is_heard reply = Unit {0}
IsRead (Some most) false reply = Unit {0}
IsRead (Some most) true reply = reply ≢ refused BadToken

-- no page whose reply is heard is refused for its token
abbrev pub AreRead : Config → State → Text → List Turn → Type 0
AreRead config s token [] = Unit {0}
AreRead config s token (t ∷ ts) =
    IsRead t.page t.exchange.is_heard (call_step (volumes config) s t.exchange.event).0
    × AreRead config (call_step (volumes config) s t.exchange.event).1 (next_token token (shown_in config s token t)) ts
