-- The invariant of a framer of either kind: the bytes of the frames that were passed on, the bytes held since
-- then, and the fault. Two functions give the fault's part of a frame and its place.
use Rattle.std.specs.Prelude.{ℕ, ◌≡◌, ◌+◌, ◌-◌, ◌≤◌, ◌<◌, ◌^◌, List, ◌++◌, length, Bool, false, IsTrue}
use Rattle.std.specs.Prelude.{Option, None, MatchOption, ◌⊎◌}
use Rattle.envelope.specs.declared.kind.FrameKind.{FrameKind}
use Rattle.envelope.specs.declared.kind.Part.{Part}
use Rattle.envelope.specs.Grammar.{IsUnbroken, FaultAt, BreaksFirst}
use Rattle.envelope.specs.Head.{IsShort, IsWhole}

-- the bytes held have this fault; its place is counted from the first byte of the stream
abbrev pub IsFaultIn : FrameKind → ℕ → List ℕ → Part → ℕ → Type 0
IsFaultIn kind past held part at = (past ≤ at) × FaultAt kind held part (at - past)

-- the bytes held have this fault, whichever bytes follow
abbrev pub IsBreakIn : FrameKind → ℕ → List ℕ → Part → ℕ → Type 0
IsBreakIn kind past held part at = (past ≤ at) × ((more : List ℕ) → BreaksFirst kind (held ++ more) part (at - past))

pub record Holds {F : Type 0} (kind : FrameKind) (part : F → Part) (at : F → ℕ) (past : ℕ) (held : List ℕ) (known : Option F) : Type 0 where
  pub few : past + length held < 2 ^ 63
  pub faults : MatchOption known (IsUnbroken kind held × (IsShort kind held ⊎ IsWhole kind held)) (λ f. IsFaultIn kind past held (part f) (at f))

-- If the mark is true, the bytes held are a whole frame without a fault. If it is false and no fault is
-- known, the bytes held are short of a frame.
pub record Marks {F : Type 0} (kind : FrameKind) (held : List ℕ) (known : Option F) (mark : Bool) : Type 0 where
  pub whole : IsTrue mark → (known ≡ None) × IsWhole kind held
  pub short : (mark ≡ false) → known ≡ None → IsShort kind held
