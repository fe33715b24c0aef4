-- The prefix of a piece that a framer takes.
use Rattle.std.specs.Prelude.{◌≡◌, ℕ, ◌+◌, ◌≤◌, ◌<◌, List, ◌++◌, length, take, Option, None, Some, IsSome, ◌⊎◌}
use Rattle.envelope.specs.declared.kind.FrameKind.{FrameKind}
use Rattle.frames_core.specs.declared.prefix.Prefix.{Prefix}
use Rattle.envelope.specs.declared.head.Flaw.{Flaw}
use Rattle.envelope.specs.Grammar.{lead, text_length, body_length, IsUnbroken, IsUnfinished, BreaksFirst}
use Rattle.envelope.specs.Head.{IsShort, IsWhole}
use Rattle.frames_core.specs.Holding.{Marks}

-- the bytes with the prefix that was taken: without a flaw they are short or whole, with a flaw they break
-- first there
abbrev pub Stands : FrameKind → List ℕ → Option Flaw → Type 0
Stands kind bytes None = IsUnbroken kind bytes × (IsShort kind bytes ⊎ IsWhole kind bytes)
Stands kind bytes (Some f) = BreaksFirst kind bytes f.part f.at

pub record TakesPrefix (kind : FrameKind) (old piece new : List ℕ) (prefix : Prefix) : Type 0 where
  pub within : prefix.count ≤ length piece
  pub held : new ≡ old ++ take prefix.count piece
  pub least : (k : ℕ) → k < prefix.count → IsUnfinished kind (old ++ take k piece)
  pub stands : Stands kind new prefix.flaw
  pub all : prefix.count < length piece → IsWhole kind new ⊎ IsSome prefix.flaw
  pub marks : Marks kind new prefix.flaw prefix.whole
  pub idle : prefix.count ≡ 0 → prefix.flaw ≡ None

-- `n` bytes of the frame are missing; 0 while the body's length is not known
pub record Misses (kind : FrameKind) (bytes : List ℕ) (n : ℕ) : Type 0 where
  pub head : length bytes < lead kind + 7 + text_length kind bytes → n ≡ 0
  pub body : lead kind + 7 + text_length kind bytes ≤ length bytes → length bytes + n ≡ lead kind + 7 + text_length kind bytes + body_length kind bytes
