-- A frame is read in only one way: bytes that begin with it begin with no other frame.
use Rattle.std.proofs.Common.{◌≡◌, ℕ, ◌≤◌, List, [], ◌∷◌, ◌++◌, length, take, drop, refl, sym, ap, subst, ◌∙◌, length-append, arith}
use Rattle.std.proofs.lemmas.List.{take_at, drop_at, take-append-drop, length-take}
use Rattle.std.specs.Int.{w16, w32, to_be_bytes}
use Rattle.envelope.specs.declared.kind.FrameKind.{FrameKind}
use Rattle.envelope.specs.declared.kind.FrameKind.TheVariants.{Calls, Replies}
use Rattle.envelope.specs.Grammar.{Item, IsItem, spelling, BeginsFrame}
use Rattle.envelope.specs.Head.{item}
use Rattle.envelope.specs.facts.Frames.{BeginsWith, begins_with, spelling-append, length-spelling, length-status, status_bytes, status_of, text_of, body_of, block}

split_same : (a b x y : List ℕ) → length a ≡ length b → a ++ x ≡ b ++ y → (a ≡ b) × (x ≡ y)
split_same a b x y len e = (
  sym (take_at a x (length a) refl) ∙ (ap (λ (l : List ℕ). take (length a) l) e ∙ take_at b y (length a) (sym len)),
  sym (drop_at a x (length a) refl) ∙ (ap (λ (l : List ℕ). drop (length a) l) e ∙ drop_at b y (length a) (sym len)),
)

block_cancel : (t u b d x y : List ℕ) → length t ≡ length u → length b ≡ length d → block t b x ≡ block u d y → (t ≡ u) × (b ≡ d) × (x ≡ y)
unfolding block
block_cancel t u b d x y texts bodies e =
    let one = split_same (to_be_bytes w16 (length t)) (to_be_bytes w16 (length u)) (t ++ (0 ∷ (to_be_bytes w32 (length b) ++ (b ++ x)))) (u ++ (0 ∷ (to_be_bytes w32 (length d) ++ (d ++ y)))) refl e in
    let two = split_same t u (0 ∷ (to_be_bytes w32 (length b) ++ (b ++ x))) (0 ∷ (to_be_bytes w32 (length d) ++ (d ++ y))) texts one.1 in
    let three = split_same (0 ∷ to_be_bytes w32 (length b)) (0 ∷ to_be_bytes w32 (length d)) (b ++ x) (d ++ y) refl two.1 in
    let four = split_same b d x y bodies three.1 in
    (two.0, four.0, four.1)

first_of : (s t : ℕ) → s ∷ [] ≡ t ∷ [] → s ≡ t
first_of s t e = cc

same_item : (kind : FrameKind) (c d : Item kind) → status_bytes kind (status_of kind c) ≡ status_bytes kind (status_of kind d) → text_of kind c ≡ text_of kind d → body_of kind c ≡ body_of kind d → c ≡ d
same_item Calls c d s t b = ap (λ (x : List ℕ). item Calls 0 x c.message) t ∙ ap (λ (x : List ℕ). item Calls 0 d.path x) b
same_item Replies c d s t b = ap (λ (n : ℕ). item Replies n c.text c.body) (first_of c.status d.status s) ∙ (ap (λ (x : List ℕ). item Replies d.status x c.body) t ∙ ap (λ (x : List ℕ). item Replies d.status d.text x) b)

pub cancel : (kind : FrameKind) (c d : Item kind) (x y : List ℕ) → IsItem kind c → IsItem kind d → spelling kind c ++ x ≡ spelling kind d ++ y → (c ≡ d) × (x ≡ y)
cancel kind c d x y gc gd e =
    let b = begins_with kind c x gc in
    let f : BeginsWith kind (spelling kind c ++ x) d = subst (λ (l : List ℕ). BeginsWith kind l d) (sym e) (begins_with kind d y gd) in
    let texts : length (text_of kind c) ≡ length (text_of kind d) = sym b.text_is ∙ f.text_is in
    let bodies : length (body_of kind c) ≡ length (body_of kind d) = sym b.body_is ∙ f.body_is in
    let opened = sym (spelling-append kind c x) ∙ (e ∙ spelling-append kind d y) in
    let first = split_same (status_bytes kind (status_of kind c)) (status_bytes kind (status_of kind d)) (block (text_of kind c) (body_of kind c) x) (block (text_of kind d) (body_of kind d) y) (length-status kind (status_of kind c) ∙ sym (length-status kind (status_of kind d))) opened in
    let rest = block_cancel (text_of kind c) (text_of kind d) (body_of kind c) (body_of kind d) x y texts bodies first.1 in
    (same_item kind c d first.0 rest.0 rest.1, rest.2)

-- taking from a frame and more bytes gives that frame
pub taken_whole : (kind : FrameKind) (c d : Item kind) (more : List ℕ) (size : ℕ) → IsItem kind c → IsItem kind d → size ≤ length (spelling kind c ++ more) → take size (spelling kind c ++ more) ≡ spelling kind d → (d ≡ c) × (size ≡ length (spelling kind c))
taken_whole kind c d more size gc gd within e =
    let bytes = spelling kind c ++ more in
    let both : spelling kind d ++ drop size bytes ≡ bytes = ap (λ (x : List ℕ). x ++ drop size bytes) (sym e) ∙ take-append-drop size bytes in
    let same = cancel kind d c (drop size bytes) more gd gc both in
    let long : length (spelling kind d) ≡ length (spelling kind c) = ap (λ (i : Item kind). length (spelling kind i)) same.0 in
    (same.0, omega (arith, ap length e, length-take size bytes, long))

pub begins_itself : (kind : FrameKind) (c : Item kind) (more : List ℕ) → IsItem kind c → BeginsFrame kind (spelling kind c ++ more)
begins_itself kind c more good = (c, more, good, refl)

pub nil_no_frame : (kind : FrameKind) (r : List ℕ) → r ≡ [] → BeginsFrame kind r → ⊥
nil_no_frame kind r e b = omega (arith, ap length e, ap length b.3, length-append (spelling kind b.0) b.1, length-spelling kind b.0)
