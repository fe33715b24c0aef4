-- Longer bytes keep the calls of the bytes, and a fault.
use Rattle.std.proofs.Common.{◌≡◌, ℕ, List, [], ◌∷◌, ◌++◌, length, All, refl, sym, ap, subst, ◌∙◌, append_assoc, arith}
use Rattle.std.proofs.lemmas.List.Elements.{All-tail}
use Rattle.std.proofs.lemmas.List.{append-nil}
use Rattle.envelope.specs.Envelope.{CallBytes, IsCall, frame}
use Rattle.envelope.specs.declared.kind.FrameKind.TheVariants.{Calls}
use Rattle.envelope.specs.Stream.{part_of, BeginsFrame, End, Clean, Fault, Open, Ends, KeepsEnd, KeepsReading, frames}
use Rattle.envelope.specs.facts.Breaking.{BreaksFirst-longer}
use Rattle.envelope.specs.facts.Frames.{broken_rest}
use Rattle.envelope.proofs.Reading.{frame_cancel, one_end, end_no_frame}

-- the calls come first in every other reading, and the later calls are a reading of the rest
record Follows (calls others : List CallBytes) (rest end : List ℕ) : Type 0 where
  later : List CallBytes
  whole : others ≡ calls ++ later
  each : All IsCall later
  read : rest ≡ frames later ++ end

follows : (calls others : List CallBytes) (rest end : List ℕ) → All IsCall calls → All IsCall others → frames calls ++ rest ≡ frames others ++ end → (BeginsFrame end → ⊥) → Follows calls others rest end
follows [] others rest end h k e none = record { later = others; whole = refl; each = k; read = e }
follows (c ∷ cs) [] rest end h k e none = absurd (none (c, frames cs ++ rest, h 0 c (omega arith), sym e ∙ append_assoc (frame c) (frames cs) rest))
follows (c ∷ cs) (d ∷ ds) rest end h k e none =
    let opened = sym (append_assoc (frame c) (frames cs) rest) ∙ (e ∙ append_assoc (frame d) (frames ds) end) in
    let one = frame_cancel c d (frames cs ++ rest) (frames ds ++ end) (h 0 c (omega arith)) (k 0 d (omega arith)) opened in
    let more = follows cs ds rest end (All-tail IsCall c cs h) (All-tail IsCall d ds k) one.1 none in
    record {
      later = more.later;
      whole = ap (λ (z : CallBytes). z ∷ ds) (sym one.0) ∙ ap (λ (zs : List CallBytes). c ∷ zs) more.whole;
      each = more.each;
      read = more.read;
    }

no_later : (later : List CallBytes) (rest end : List ℕ) → All IsCall later → rest ≡ frames later ++ end → (BeginsFrame rest → ⊥) → later ≡ []
no_later [] rest end each read none = refl
no_later (d ∷ ds) rest end each read none = absurd (none (d, frames ds ++ end, each 0 d (omega arith), read ∙ append_assoc (frame d) (frames ds) end))

keeps_end : (calls others : List CallBytes) (rest more last : List ℕ) (end other : End) → Follows calls others (rest ++ more) last → Ends (length (frames calls)) rest end → Ends (length (frames others)) last other → KeepsEnd calls others end other
keeps_end calls others rest more last Clean other f ends theirs = tt
keeps_end calls others rest more last Open other f ends theirs = tt
keeps_end calls others rest more last (Fault why place) other f ends theirs =
    let broken = BreaksFirst-longer Calls rest more (part_of why) ends.0 ends.1 in
    let none : f.later ≡ [] = no_later f.later (rest ++ more) last f.each f.read (broken_rest Calls (rest ++ more) (part_of why) ends.0 broken) in
    let same : others ≡ calls = f.whole ∙ (ap (λ (zs : List CallBytes). calls ++ zs) none ∙ append-nil calls) in
    let read : rest ++ more ≡ last = f.read ∙ ap (λ (zs : List CallBytes). frames zs ++ last) none in
    let there : Ends (length (frames calls)) (rest ++ more) other = subst (λ (r : List ℕ). Ends (length (frames calls)) r other) (sym read) (subst (λ (zs : List CallBytes). Ends (length (frames zs)) last other) same theirs) in
    let here : Ends (length (frames calls)) (rest ++ more) (Fault why place) = (ends.0, broken, ends.2) in
    (same, one_end (length (frames calls)) (rest ++ more) other (Fault why place) there here)

pub longer_keeps : (bytes more : List ℕ) → KeepsReading bytes more
longer_keeps bytes more calls others end other s t =
    let split : frames calls ++ (s.rest ++ more) ≡ frames others ++ t.rest = sym (append_assoc (frames calls) s.rest more) ∙ (ap (λ (x : List ℕ). x ++ more) (sym s.whole) ∙ t.whole) in
    let f = follows calls others (s.rest ++ more) t.rest s.each t.each split (end_no_frame (length (frames others)) t.rest other t.ends) in
    ((f.later, f.whole), keeps_end calls others s.rest more t.rest end other f s.ends t.ends)
