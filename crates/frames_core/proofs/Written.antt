-- The bytes that a writer holds after two writes.
use Rattle.std.proofs.Common.{ℕ, ◌+◌, List, take, drop, Option, sym, subst}
use Rattle.std.proofs.lemmas.List.{take-append-drop}
use Rattle.std.proofs.Math.Seq.{take-add}
use Rattle.std.specs.Io.KnownBytes.{Appends, Keeps}
use Rattle.std.proofs.KnownBytes.{Appends-kept, Appends-trans}
use Rattle.frames_core.specs.Writing.{WrotePrefix}

pub wrote_take : (a b : Option (List ℕ)) (n : ℕ) (whole : List ℕ) → Appends a b (take n whole) → WrotePrefix a b whole
wrote_take a b n whole h = (take n whole, (drop n whole, sym (take-append-drop n whole)), h)

pub wrote_kept : (a b c : Option (List ℕ)) (whole : List ℕ) → WrotePrefix a b whole → Keeps b c → WrotePrefix a c whole
wrote_kept a b c whole h k = (h.0, h.1, Appends-kept a b c h.0 h.2 k)

pub Appends-more : (a b c : Option (List ℕ)) (n m : ℕ) (whole : List ℕ) → Appends a b (take n whole) → Appends b c (take m (drop n whole)) → Appends a c (take (n + m) whole)
Appends-more a b c n m whole p q = subst (λ (x : List ℕ). Appends a c x) (sym (take-add n m whole)) (Appends-trans a b c (take n whole) (take m (drop n whole)) p q)
