-- The model of a framer of calls and of a framer of replies.
use Rattle.std.specs.Prelude.{ℕ, ◌+◌, List, [], length, Option, Some, None, IsSome, IsNone, ◌≢◌, ◌⊎◌}
use Rattle.envelope.specs.declared.fault.FrameFault.{FrameFault}
use Rattle.envelope.specs.declared.reply_fault.ReplyFault.{ReplyFault}
use Rattle.envelope.specs.declared.kind.FrameKind.{FrameKind}
use Rattle.envelope.specs.declared.kind.FrameKind.TheVariants.{Calls, Replies}
use Rattle.envelope.specs.Grammar as grammar
use Rattle.envelope.specs.Faults.{part, place, call_cut_at, reply_part, reply_place, reply_cut_at}
use Rattle.frames_core.specs.Holding.{IsFaultIn, IsBreakIn}

-- the number of bytes of all frames that were passed on, the bytes held since then, and the fault, if one is
-- known
pub record CutterState (F : Type 0) : Type 0 where
  pub past : ℕ
  pub held : List ℕ
  pub fault : Option F

-- a framer that has taken nothing
abbrev pub begun : {F : Type 0} → CutterState F
begun = record { past = 0; held = []; fault = None }

-- the framer takes no more bytes: it holds a whole frame, or a fault is known
abbrev pub IsSettledAs : {F : Type 0} → FrameKind → CutterState F → Type 0
IsSettledAs kind s = grammar.IsFrame kind s.held ⊎ IsSome s.fault

-- the end of the input is a fault: a frame was begun and is not whole
abbrev pub IsCutShortAs : {F : Type 0} → FrameKind → CutterState F → Type 0
IsCutShortAs kind s = IsNone s.fault × (s.held ≢ []) × ¬ grammar.IsFrame kind s.held

abbrev pub cut_with : {F : Type 0} → (ℕ → F) → CutterState F → CutterState F
cut_with cut_at s = record { past = s.past; held = s.held; fault = Some (cut_at (s.past + length s.held)) }

-- ---- framers of calls

abbrev pub FramerState : Type 0
FramerState = CutterState FrameFault

abbrev pub start : FramerState
start = begun

abbrev pub IsFrame : List ℕ → Type 0
IsFrame bytes = grammar.IsFrame Calls bytes

-- the fault, with its place counted from the first byte of the stream
abbrev pub IsFaultOf : ℕ → List ℕ → FrameFault → Type 0
IsFaultOf past held f = IsFaultIn Calls past held (part f) (place f)

-- a fault that the bytes have, whichever bytes follow
abbrev pub IsBreakOf : ℕ → List ℕ → FrameFault → Type 0
IsBreakOf past held f = IsBreakIn Calls past held (part f) (place f)

abbrev pub IsSettled : FramerState → Type 0
IsSettled s = IsSettledAs Calls s

abbrev pub IsCutShort : FramerState → Type 0
IsCutShort s = IsCutShortAs Calls s

abbrev pub cut_short : FramerState → FramerState
cut_short s = cut_with call_cut_at s

-- ---- framers of replies

abbrev pub ReplyFramerState : Type 0
ReplyFramerState = CutterState ReplyFault

abbrev pub reply_start : ReplyFramerState
reply_start = begun

abbrev pub IsReplyFrame : List ℕ → Type 0
IsReplyFrame bytes = grammar.IsFrame Replies bytes

abbrev pub IsReplyFaultOf : ℕ → List ℕ → ReplyFault → Type 0
IsReplyFaultOf past held f = IsFaultIn Replies past held (reply_part f) (reply_place f)

abbrev pub IsReplyBreakOf : ℕ → List ℕ → ReplyFault → Type 0
IsReplyBreakOf past held f = IsBreakIn Replies past held (reply_part f) (reply_place f)

abbrev pub IsReplySettled : ReplyFramerState → Type 0
IsReplySettled s = IsSettledAs Replies s

abbrev pub IsReplyCutShort : ReplyFramerState → Type 0
IsReplyCutShort s = IsCutShortAs Replies s

abbrev pub reply_cut_short : ReplyFramerState → ReplyFramerState
reply_cut_short s = cut_with reply_cut_at s
