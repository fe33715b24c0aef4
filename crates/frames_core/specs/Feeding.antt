-- One feed of a framer of calls or of a framer of replies.
use Rattle.std.specs.Prelude.{ℕ, ◌≡◌, ◌≤◌, ◌<◌, List, ◌++◌, length, take, None, IfSome}
use Rattle.envelope.specs.declared.kind.FrameKind.{FrameKind}
use Rattle.envelope.specs.declared.kind.FrameKind.TheVariants.{Calls, Replies}
use Rattle.envelope.specs.declared.kind.Part.{Part}
use Rattle.envelope.specs.Faults.{part, place, reply_part, reply_place}
use Rattle.frames_core.specs.Framer.{CutterState, FramerState, ReplyFramerState, IsSettledAs}
use Rattle.frames_core.specs.Holding.{IsBreakIn}

-- A feed took `n` of the bytes `rest`: all clauses of a feed together.
pub record FedAs {F : Type 0} (kind : FrameKind) (wrong : F → Part) (at : F → ℕ) (old new : CutterState F) (rest : List ℕ) (n : ℕ) : Type 0 where
  pub within : n ≤ length rest
  pub past : new.past ≡ old.past
  pub held : new.held ≡ old.held ++ take n rest
  pub all : n < length rest → IsSettledAs kind new
  pub known : old.fault ≡ None → IfSome new.fault (λ f. IsBreakIn kind new.past new.held (wrong f) (at f))
  pub idle : n ≡ 0 → new ≡ old

abbrev pub Fed : FramerState → FramerState → List ℕ → ℕ → Type 0
Fed old new rest n = FedAs Calls part place old new rest n

abbrev pub ReplyFed : ReplyFramerState → ReplyFramerState → List ℕ → ℕ → Type 0
ReplyFed old new rest n = FedAs Replies reply_part reply_place old new rest n
