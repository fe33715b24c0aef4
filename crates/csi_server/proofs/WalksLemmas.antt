-- Calls that walk over the pages of a listing are requests that walk over them.
use Rattle.std.proofs.Common.{◌≡◌, ◌≢◌, ◌∙◌, ap, sym, subst, refl, ℕ, Bool, true, false, List, [], ◌∷◌, Option, Some, None}
use Rattle.envelope.specs.Envelope.{CallBytes, ReplyBytes}
use Rattle.csi_types.specs.Codes.{number_of}
use Rattle.csi_types.specs.Reasons.{code_of}
use Rattle.csi_types.specs.declared.reason.Reason.{Reason}
use Rattle.csi_types.specs.declared.reason.Reason.TheVariants as reason
use Rattle.csi_types.specs.declared.requests.Request.{Request}
use Rattle.csi_config.specs.declared.config.Config.{Config}
use Rattle.csi_keeper.specs.State.{State}
use Rattle.csi_keeper.specs.Texts.{Text}
use Rattle.csi_machine.specs.Step.{step}
use Rattle.csi_machine.specs.Walk.{Call, Next, Other, Page, AreChecked, asked_with, next_token, shown, with_page, pages as request_pages, AreRead as AreRequestsRead}
use Rattle.csi_machine.specs.Verdicts.{Report, Says, Denies}
use Rattle.csi_server.specs.Machine.{Mark, Unmarked, OutOfMemory, StoreRefused, StoreDown, marked, refused}
use Rattle.csi_server.specs.Machine.{step as call_step}
use Rattle.csi_server.specs.Requests.{reported}
use Rattle.csi_server.specs.Tries.{asked}
use Rattle.csi_server.specs.Volumes.{volumes}
use Rattle.csi_server.specs.Walks.{Turn, AreAsked, AreRead, IsAsked, IsRead, pages, shown_by, shown_in}
use Rattle.csi_server.proofs.TriesLemmas.{asked_answers, asked_is, unasked_stays}

-- no other reason has this status
bad_token : (r : Reason) → number_of (code_of r) ≡ number_of (code_of reason.BadToken) → r ≡ reason.BadToken
bad_token reason.NameMissing e = absurd (cc)
bad_token reason.NameTooLong e = absurd (cc)
bad_token reason.NameBanned e = absurd (cc)
bad_token reason.CapabilityMissing e = absurd (cc)
bad_token reason.AccessTypeMissing e = absurd (cc)
bad_token reason.AccessModeUnknown e = absurd (cc)
bad_token reason.CapabilityNotSupported e = absurd (cc)
bad_token reason.CapacityNegative e = absurd (cc)
bad_token reason.MapTooLarge e = absurd (cc)
bad_token reason.TextTooLong e = absurd (cc)
bad_token reason.SourceNotSupported e = absurd (cc)
bad_token reason.TopologyKeysAlike e = absurd (cc)
bad_token reason.PreferredNotRequisite e = absurd (cc)
bad_token reason.VolumeIdMissing e = absurd (cc)
bad_token reason.NodeIdMissing e = absurd (cc)
bad_token reason.MaxEntriesNegative e = absurd (cc)
bad_token reason.MutableMissing e = absurd (cc)
bad_token reason.UnknownMethod e = absurd (cc)
bad_token reason.VolumeNotFound e = absurd (cc)
bad_token reason.NodeNotFound e = absurd (cc)
bad_token reason.VolumeNotCompatible e = absurd (cc)
bad_token reason.NoRoom e = absurd (cc)
bad_token reason.TooManyVolumes e = absurd (cc)
bad_token reason.NumbersUsedUp e = absurd (cc)
bad_token reason.OutOfRange e = absurd (cc)
bad_token reason.VolumeInUse e = absurd (cc)
bad_token reason.PublishedElsewhere e = absurd (cc)
bad_token reason.PublishedOtherwise e = absurd (cc)
bad_token reason.NodeFull e = absurd (cc)
bad_token reason.CapabilityNotOfVolume e = absurd (cc)
bad_token reason.BadToken e = refl
bad_token reason.MutableTooLarge e = absurd (cc)
bad_token reason.ReplyTooLarge e = absurd (cc)
bad_token reason.OutOfMemory e = absurd (cc)
bad_token reason.StoreRefused e = absurd (cc)
bad_token reason.StoreDown e = absurd (cc)

-- the reply that refuses the token
reported_bad : (t : Report) → reported t ≡ refused reason.BadToken → t ≡ Denies reason.BadToken
reported_bad (Says body) e = (let none : 0 ≡ number_of (code_of reason.BadToken) = ap (λ (r : ReplyBytes). r.status) e in absurd (cc))
reported_bad (Denies r) e = ap (λ (q : Reason). Denies q) (bad_token r (ap (λ (x : ReplyBytes). x.status) e))

marks_apart : (r : Reason) → (number_of (code_of r) ≡ number_of (code_of reason.BadToken) → ⊥) → refused r ≢ refused reason.BadToken
marks_apart r apart e = apart (ap (λ (x : ReplyBytes). x.status) e)

module _ (config : Config) where
  -- requests that show these pages, and that refuse no token if the calls refuse none
  pub record Walks (s : State) (token : Text) (ps : List Page) (Read : Type 0) : Type 0 where
    pub calls : List Call
    pub checked : AreChecked calls
    pub same : ps ≡ request_pages config s token calls
    pub read : AreRequestsRead config s token calls → Read

  abbrev answered : State → CallBytes → ReplyBytes × State
  answered s call = (volumes config).respond s call

  -- ---- one call

  -- a call that leaves the State and shows nothing
  nothing_more : (s x : State) (token : Text) (ps : List Page) (First Read : Type 0) → x ≡ s → First → Walks x token ps Read → Walks s token ps (First × Read)
  nothing_more s x token ps First Read e first w =
      let v : Walks s token ps Read = subst (λ (z : State). Walks z token ps Read) e w in
      record { calls = v.calls; checked = v.checked; same = v.same; read = λ r. (first, v.read r) }

  -- a call that asks for a request, and shows nothing
  other_more : (s x : State) (token : Text) (ps : List Page) (First Read : Type 0) (call : CallBytes) (r : Request) → asked call ≡ Some r → x ≡ (step config s r).1 → First → Walks x token ps Read → Walks s token ps (First × Read)
  other_more s x token ps First Read call r asks e first w =
      let v : Walks (step config s r).1 token ps Read = subst (λ (z : State). Walks z token ps Read) e w in
      record { calls = Other r ∷ v.calls; checked = ((asked_is call r asks).passed, v.checked); same = v.same; read = λ read. (first, v.read read) }

  moved : (s : State) (call : CallBytes) (r : Request) → asked call ≡ Some r → (answered s call).1 ≡ (step config s r).1
  moved s call r asks = ap (λ (y : ReplyBytes × State). y.1) (asked_answers config s call r asks)

  -- any other call
  other_turn : (s : State) (token : Text) (call : CallBytes) (ps : List Page) (First Read : Type 0) (o : Option Request) → asked call ≡ o → First → Walks (answered s call).1 token ps Read → Walks s token ps (First × Read)
  other_turn s token call ps First Read None asks first w = nothing_more s (answered s call).1 token ps First Read (ap (λ (y : ReplyBytes × State). y.1) ((unasked_stays call asks).1 config s)) first w
  other_turn s token call ps First Read (Some r) asks first w = other_more s (answered s call).1 token ps First Read call r asks (moved s call r asks) first w

  -- the next page, whose reply is heard
  page_turn : (s : State) (token : Text) (call : CallBytes) (most : ℕ) (ps : List Page) (Read : Type 0) → asked call ≡ Some (asked_with token most) → Walks (answered s call).1 (next_token token (shown config s (asked_with token most))) ps Read
      → Walks s token (with_page s (shown config s (asked_with token most)) ps) (((answered s call).0 ≢ refused reason.BadToken) × Read)
  page_turn s token call most ps Read asks w =
      let r : Request = asked_with token most in
      let next : Text = next_token token (shown config s r) in
      let v : Walks (step config s r).1 next ps Read = subst (λ (z : State). Walks z next ps Read) (moved s call r asks) w in
      let reply : (answered s call).0 ≡ reported (step config s r).0 = ap (λ (y : ReplyBytes × State). y.0) (asked_answers config s call r asks) in
      record {
        calls = Next most ∷ v.calls;
        checked = v.checked;
        same = ap (λ (qs : List Page). with_page s (shown config s r) qs) v.same;
        read = λ read. ((λ e. read.0 (reported_bad (step config s r).0 (sym reply ∙ e))), v.read read.1);
      }

  turn : (s : State) (token : Text) (ts : List Turn) (call : CallBytes) (mark : Mark) (is_heard : Bool) (page : Option ℕ) → IsAsked token page call
      → Walks (marked s (answered s call) mark).1 (next_token token (shown_by config s token page mark is_heard)) (pages config (marked s (answered s call) mark).1 (next_token token (shown_by config s token page mark is_heard)) ts) (AreRead config (marked s (answered s call) mark).1 (next_token token (shown_by config s token page mark is_heard)) ts)
      → Walks s token (with_page s (shown_by config s token page mark is_heard) (pages config (marked s (answered s call) mark).1 (next_token token (shown_by config s token page mark is_heard)) ts))
      (IsRead page is_heard (marked s (answered s call) mark).0 × AreRead config (marked s (answered s call) mark).1 (next_token token (shown_by config s token page mark is_heard)) ts)
  turn s token ts call Unmarked is_heard None asks w = other_turn s token call _ _ _ (asked call) refl tt w
  turn s token ts call Unmarked false (Some most) asks w = other_turn s token call _ _ _ (Some (asked_with token most)) asks tt w
  turn s token ts call Unmarked true (Some most) asks w = page_turn s token call most _ _ asks w
  turn s token ts call OutOfMemory is_heard None asks w = nothing_more s s token _ _ _ refl tt w
  turn s token ts call OutOfMemory false (Some most) asks w = nothing_more s s token _ _ _ refl tt w
  turn s token ts call OutOfMemory true (Some most) asks w = nothing_more s s token _ _ _ refl (marks_apart reason.OutOfMemory (λ e. absurd cc)) w
  turn s token ts call StoreRefused is_heard None asks w = nothing_more s s token _ _ _ refl tt w
  turn s token ts call StoreRefused false (Some most) asks w = nothing_more s s token _ _ _ refl tt w
  turn s token ts call StoreRefused true (Some most) asks w = nothing_more s s token _ _ _ refl (marks_apart reason.StoreRefused (λ e. absurd cc)) w
  turn s token ts call StoreDown is_heard None asks w = nothing_more s s token _ _ _ refl tt w
  turn s token ts call StoreDown false (Some most) asks w = nothing_more s s token _ _ _ refl tt w
  turn s token ts call StoreDown true (Some most) asks w = nothing_more s s token _ _ _ refl (marks_apart reason.StoreDown (λ e. absurd cc)) w

  -- ---- all calls

  pub walked : (ts : List Turn) (s : State) (token : Text) → AreAsked config s token ts → Walks s token (pages config s token ts) (AreRead config s token ts)
  walked [] s token asks = record { calls = []; checked = tt; same = refl; read = λ read. tt }
  walked (t ∷ ts) s token asks =
      turn s token ts t.exchange.event.call t.exchange.event.mark t.exchange.is_heard t.page asks.0
      (walked ts (call_step (volumes config) s t.exchange.event).1 (next_token token (shown_in config s token t)) asks.1)
