-- Bytes have one reading as calls and an end.
use Rattle.std.proofs.Common.{◌≡◌, ℕ, List, [], ◌∷◌, ◌++◌, length, All, refl, sym, ap, subst, ◌∙◌, append_assoc, arith}
use Rattle.std.proofs.lemmas.List.Elements.{All-tail}
use Rattle.envelope.specs.declared.fault.FrameWhy.{FrameWhy}
use Rattle.envelope.specs.declared.fault.FrameWhy.TheVariants.{BadPathLength, BadPath, BadFlag, TooLong, EndOfInput}
use Rattle.envelope.specs.Envelope.{CallBytes, IsCall, frame}
use Rattle.envelope.specs.declared.kind.FrameKind.TheVariants.{Calls}
use Rattle.envelope.specs.Grammar as grammar
use Rattle.envelope.specs.Stream.{part_of, BreaksFirst, BeginsFrame, IsUnbroken, End, Clean, Fault, Open, Ends, Stream, frames}
use Rattle.envelope.specs.facts.Breaking.{nil_unbroken}
use Rattle.envelope.proofs.Cancelling.{cancel, nil_no_frame}
use Rattle.envelope.specs.facts.Frames.{broken_rest}

pub frame_cancel : (c d : CallBytes) (x y : List ℕ) → IsCall c → IsCall d → frame c ++ x ≡ frame d ++ y → (c ≡ d) × (x ≡ y)
frame_cancel c d x y gc gd e = cancel Calls c d x y gc gd e

pub one_split : (cs ds : List CallBytes) (r q : List ℕ) → All IsCall cs → All IsCall ds → frames cs ++ r ≡ frames ds ++ q → (BeginsFrame r → ⊥) → (BeginsFrame q → ⊥) → (cs ≡ ds) × (r ≡ q)
one_split [] [] r q h k e nr nq = (refl, e)
one_split [] (d ∷ ds) r q h k e nr nq = absurd (nr (d, frames ds ++ q, k 0 d (omega arith), e ∙ append_assoc (frame d) (frames ds) q))
one_split (c ∷ cs) [] r q h k e nr nq = absurd (nq (c, frames cs ++ r, h 0 c (omega arith), sym e ∙ append_assoc (frame c) (frames cs) r))
one_split (c ∷ cs) (d ∷ ds) r q h k e nr nq =
    let opened = sym (append_assoc (frame c) (frames cs) r) ∙ (e ∙ append_assoc (frame d) (frames ds) q) in
    let one = frame_cancel c d (frames cs ++ r) (frames ds ++ q) (h 0 c (omega arith)) (k 0 d (omega arith)) opened in
    let rest = one_split cs ds r q (All-tail IsCall c cs h) (All-tail IsCall d ds k) one.1 nr nq in
    (ap (λ (z : CallBytes). z ∷ cs) one.0 ∙ ap (λ (zs : List CallBytes). d ∷ zs) rest.0, rest.1)

pub end_no_frame : (from : ℕ) (r : List ℕ) (e : End) → Ends from r e → BeginsFrame r → ⊥
end_no_frame from r Clean h b = nil_no_frame Calls r h b
end_no_frame from r (Fault why place) h b = broken_rest Calls r (part_of why) h.0 h.1 b
end_no_frame from r Open h b = h.1.frameless b

one_why : (bytes : List ℕ) (w v : FrameWhy) (at : ℕ) → grammar.Breaks Calls bytes (part_of w) at → grammar.Breaks Calls bytes (part_of v) at → w ≡ v
unfolding grammar.Breaks
one_why bytes EndOfInput v at h k = absurd h
one_why bytes w EndOfInput at h k = absurd k
one_why bytes BadPathLength BadPathLength at h k = refl
one_why bytes BadPathLength BadPath at h k = absurd (omega (arith, h.0, k.0))
one_why bytes BadPathLength BadFlag at h k = absurd (omega (arith, h.0, k.0))
one_why bytes BadPathLength TooLong at h k = absurd (omega (arith, h.0, k.0))
one_why bytes BadPath BadPathLength at h k = absurd (omega (arith, h.0, k.0))
one_why bytes BadPath BadPath at h k = refl
one_why bytes BadPath BadFlag at h k = absurd (omega (arith, h.1, k.0))
one_why bytes BadPath TooLong at h k = absurd (omega (arith, h.1, k.0))
one_why bytes BadFlag BadPathLength at h k = absurd (omega (arith, h.0, k.0))
one_why bytes BadFlag BadPath at h k = absurd (omega (arith, h.0, k.1))
one_why bytes BadFlag BadFlag at h k = refl
one_why bytes BadFlag TooLong at h k = absurd (omega (arith, h.0, k.0))
one_why bytes TooLong BadPathLength at h k = absurd (omega (arith, h.0, k.0))
one_why bytes TooLong BadPath at h k = absurd (omega (arith, h.0, k.1))
one_why bytes TooLong BadFlag at h k = absurd (omega (arith, h.0, k.0))
one_why bytes TooLong TooLong at h k = refl

begun_not : (why : FrameWhy) (at : ℕ) (r : List ℕ) → r ≡ [] → BreaksFirst r why at → ⊥
unfolding grammar.IsUnbroken
begun_not why at r e h = nil_unbroken Calls (part_of why) at (subst (λ (x : List ℕ). grammar.Breaks Calls x (part_of why) at) e h.breaks)

open_not : (why : FrameWhy) (at : ℕ) (r : List ℕ) → IsUnbroken r → BreaksFirst r why at → ⊥
unfolding grammar.IsUnbroken
open_not why at r u h = u (part_of why) at h.breaks

pub one_end : (from : ℕ) (r : List ℕ) (e f : End) → Ends from r e → Ends from r f → e ≡ f
one_end from r Clean Clean h k = refl
one_end from r Clean (Fault why place) h k = absurd (begun_not why k.0 r h k.1)
one_end from r Clean Open h k = absurd (k.0 h)
one_end from r (Fault why place) Clean h k = absurd (begun_not why h.0 r k h.1)
one_end from r (Fault why place) (Fault way point) h k =
    let at : h.0 ≡ k.0 = omega (arith, h.1.least (part_of way) k.0 k.1.breaks, k.1.least (part_of why) h.0 h.1.breaks) in
    let same = one_why r why way h.0 h.1.breaks (subst (λ (a : ℕ). grammar.Breaks Calls r (part_of way) a) (sym at) k.1.breaks) in
    let places : place ≡ point = omega (arith, h.2, k.2) in
    ap (λ (w : FrameWhy). Fault w place) same ∙ ap (λ (p : ℕ). Fault way p) places
one_end from r (Fault why place) Open h k = absurd (open_not why h.0 r k.1.unbroken h.1)
one_end from r Open Clean h k = absurd (h.0 k)
one_end from r Open (Fault why place) h k = absurd (open_not why k.0 r h.1.unbroken k.1)
one_end from r Open Open h k = refl

pub one_reading : (bytes : List ℕ) (cs ds : List CallBytes) (e f : End) → Stream bytes cs e → Stream bytes ds f → (cs ≡ ds) × (e ≡ f)
one_reading bytes cs ds e f s t =
    let split = one_split cs ds s.rest t.rest s.each t.each (sym s.whole ∙ t.whole) (end_no_frame (length (frames cs)) s.rest e s.ends) (end_no_frame (length (frames ds)) t.rest f t.ends) in
    let there : Ends (length (frames cs)) s.rest f = subst (λ (r : List ℕ). Ends (length (frames cs)) r f) (sym split.1) (subst (λ (zs : List CallBytes). Ends (length (frames zs)) t.rest f) (sym split.0) t.ends) in
    (split.0, one_end (length (frames cs)) s.rest e f s.ends there)
