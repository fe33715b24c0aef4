-- The bytes that were read, after one feed of a framer.
use Rattle.std.proofs.Common.{◌≡◌, ℕ, ◌+◌, ◌-◌, ◌<◌, List, [], ◌++◌, length, take, drop, Option, Some, None, sym, ap, subst, ◌∙◌, append_assoc}
use Rattle.std.proofs.Common.{length-append, arith, inl, inr}
use Rattle.std.specs.Prelude.{IfSome, IsSome}
use Rattle.std.proofs.Math.Seq.{take-add}
use Rattle.std.proofs.lemmas.Bool.{cases_lt}
use Rattle.std.proofs.lemmas.List.{take-append-drop, length-take}
use Rattle.envelope.specs.declared.kind.FrameKind.{FrameKind}
use Rattle.envelope.specs.declared.kind.Part.{Part}
use Rattle.envelope.specs.declared.kind.Part.TheVariants.{Missing}
use Rattle.envelope.specs.Grammar.{Breaks, IsUnfinished}
use Rattle.envelope.specs.facts.Frames.{fault_of_break, frame_begins}
use Rattle.frames_core.specs.Framer.{CutterState, IsSettledAs}
use Rattle.frames_core.specs.Holding.{IsBreakIn, IsFaultIn}
use Rattle.frames_core.specs.Feeding.{FedAs}

-- ---- how many bytes are taken

pub none_some : {X : Type 0} (o : Option X) → o ≡ None → IsSome o → ⊥
none_some None none some = absurd cc
none_some (Some x) none some = absurd cc

-- a framer is not settled if its bytes may yet become a frame
pub not_settled : {F : Type 0} (kind : FrameKind) (s : CutterState F) → s.fault ≡ None → IsUnfinished kind s.held → IsSettledAs kind s → ⊥
not_settled kind s none open_ (inl f) = open_.frameless (frame_begins kind s.held f.0 f.1 f.2)
not_settled kind s none open_ (inr some) = none_some s.fault none some

pub some_fed : {F : Type 0} (kind : FrameKind) (wrong : F → Part) (at : F → ℕ) (old new : CutterState F) (rest : List ℕ) (n : ℕ) → old.fault ≡ None
    → IsUnfinished kind old.held → FedAs kind wrong at old new rest n → 0 < length rest → 0 < n
some_fed kind wrong at old new rest n none open_ f some =
    elim (cases_lt 0 n) [
      | inl lt ↦ lt
      | inr le ↦
          let zero_ : n ≡ 0 = omega arith in
          absurd (not_settled kind old none open_ (subst (IsSettledAs kind) (f.idle zero_) (f.all (omega arith))))
    ]

-- a framer that is not settled took all bytes
pub took_all : {F : Type 0} (kind : FrameKind) (wrong : F → Part) (at : F → ℕ) (old new : CutterState F) (rest : List ℕ) (n : ℕ) → new.fault ≡ None
    → IsUnfinished kind new.held → FedAs kind wrong at old new rest n → n ≡ length rest
took_all kind wrong at old new rest n none open_ f =
    elim (cases_lt n (length rest)) [
      | inl lt ↦ absurd (not_settled kind new none open_ (f.all lt))
      | inr ge ↦ omega (arith, f.within)
    ]

pub fed_count : {F : Type 0} (kind : FrameKind) (wrong : F → Part) (at : F → ℕ) (old new : CutterState F) (rest : List ℕ) (n : ℕ)
    → FedAs kind wrong at old new rest n → new.past + length new.held ≡ old.past + length old.held + n
fed_count kind wrong at old new rest n f = omega (arith, f.within, f.past, ap length f.held, length-append old.held (take n rest), length-take n rest)

-- ---- the bytes read: passed on, held, and not fed yet

pub all_of : {F : Type 0} (kind : FrameKind) (wrong : F → Part) (at : F → ℕ) (read given : List ℕ) (old new : CutterState F) (rest : List ℕ) (n : ℕ)
    → read ≡ given ++ old.held → FedAs kind wrong at old new rest n → read ++ rest ≡ given ++ (new.held ++ drop n rest)
all_of kind wrong at read given old new rest n e f =
    ap (λ (x : List ℕ). x ++ rest) e
    ∙ (append_assoc given old.held rest
    ∙ ap (λ (x : List ℕ). given ++ x) (ap (λ (x : List ℕ). old.held ++ x) (sym (take-append-drop n rest))
    ∙ (sym (append_assoc old.held (take n rest) (drop n rest)) ∙ ap (λ (x : List ℕ). x ++ drop n rest) (sym f.held))))

pub taken_of : {F : Type 0} (kind : FrameKind) (wrong : F → Part) (at : F → ℕ) (read given : List ℕ) (old new : CutterState F) (rest : List ℕ) (n : ℕ)
    → read ≡ given ++ old.held → FedAs kind wrong at old new rest n → read ++ take n rest ≡ given ++ new.held
taken_of kind wrong at read given old new rest n e f =
    ap (λ (x : List ℕ). x ++ take n rest) e ∙ (append_assoc given old.held (take n rest) ∙ ap (λ (x : List ℕ). given ++ x) (sym f.held))

-- ---- the fault that is known after a feed

pub known_break : {F : Type 0} (kind : FrameKind) (wrong : F → Part) (at : F → ℕ) (old new : CutterState F) (rest : List ℕ) (n : ℕ) (f : F)
    → old.fault ≡ None → FedAs kind wrong at old new rest n → new.fault ≡ Some f → IsBreakIn kind new.past new.held (wrong f) (at f)
known_break {F} kind wrong at old new rest n f none fed is = subst
    (λ (o : Option F). IfSome o (λ g. IsBreakIn kind new.past new.held (wrong g) (at g))) is (fed.known none)

-- it is a fault of any longer bytes
pub fault_of : (kind : FrameKind) (past : ℕ) (held more : List ℕ) (part : Part) (at : ℕ) → IsBreakIn kind past held part at
    → IsFaultIn kind past (held ++ more) part at
fault_of kind past held more part at k = (k.0, fault_of_break kind (held ++ more) part (at - past) (k.1 more))

nothing_breaks : (kind : FrameKind) (bytes : List ℕ) (at : ℕ) → Breaks kind bytes Missing at → ⊥
unfolding Breaks
nothing_breaks kind bytes at h = h

-- and it is not an early end of the input
pub not_at_end : (kind : FrameKind) (past : ℕ) (held : List ℕ) (part : Part) (at : ℕ) → IsBreakIn kind past held part at → part ≡ Missing → ⊥
not_at_end kind past held part at k e = nothing_breaks kind (held ++ []) (at - past)
    (subst (λ (p : Part). Breaks kind (held ++ []) p (at - past)) e (k.1 []).breaks)

-- ---- a piece after a piece

pub one_piece : (read piece : List ℕ) (at n : ℕ) (rest : List ℕ) → rest ≡ drop at piece → (read ++ take at piece) ++ take n rest ≡ read ++ take (at + n) piece
one_piece read piece at n rest e = append_assoc read (take at piece) (take n rest)
    ∙ ap (λ (x : List ℕ). read ++ x) (ap (λ (x : List ℕ). take at piece ++ take n x) e ∙ sym (take-add at n piece))

pub whole_piece : (read piece : List ℕ) (at : ℕ) (rest : List ℕ) → rest ≡ drop at piece → (read ++ take at piece) ++ rest ≡ read ++ piece
whole_piece read piece at rest e = append_assoc read (take at piece) rest
    ∙ ap (λ (x : List ℕ). read ++ x) (ap (λ (x : List ℕ). take at piece ++ x) e ∙ take-append-drop at piece)
