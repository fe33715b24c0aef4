use Rattle.std.proofs.Common.{◌≡◌, ◌∙◌, ◌++◌, ap, refl, subst, sym, append-nil, length, take, ℕ, List, [], ◌∷◌, Result, Ok, Err, OnOk, OnErr}
use Rattle.pbmessage.specs.Kept.{Keeps}
use Rattle.csi_codec.proofs.created.encode_created.Goals as goal

front : (old tail : List ℕ) → take (length old) (old ++ tail) ≡ old
front [] tail = refl
front (x ∷ old) tail = ap (λ xs. x ∷ xs) (front old tail)

kept_or_same : {X E : Type 0} (r : Result X E) (old written new : List ℕ) (from : ℕ) → from ≡ length old → Keeps old written → OnOk r (new ≡ written) → OnErr r (new ≡ take from written) → Keeps old new
kept_or_same (Ok x) old written new from is kept ok err = subst (Keeps old) (sym ok) kept
kept_or_same (Err e) old written new from is kept ok err = record { tail = []; is = err ∙ ap (λ n. take n written) is ∙ ap (take (length old)) kept.is ∙ front old kept.tail ∙ sym (append-nil old) }

pub returns-clause-kept : goal.returns-clause-kept
returns-clause-kept c =
    kept_or_same c.whole_or_none.result c.args.out.now.items c.put_message-written.new.out.items c.whole_or_none.new.out.items c.len-from.result (c.len-from.ensures ∙ c.args.out.now.ok.0)
    c.put_message-written.ensures.kept c.whole_or_none.ensures.ok c.whole_or_none.ensures.err
