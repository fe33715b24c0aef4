use Rattle.std.proofs.Common.{◌≡◌, ◌+◌, ℕ, drop, take, ap, ◌∙◌, arith}
use Rattle.std.proofs.lemmas.List.{drop-drop}
use Rattle.envelope.specs.Grammar.{lead, text_length}
use Rattle.envelope.specs.facts.Frames.{said_by}
use Rattle.envelope.proofs.head.parts.Goals as goal

pub returns : goal.returns
returns c =
    let kind = c.args.kind in
    let bytes = c.args.bytes.now in
    let n = c.text_length_of-text_length.result in
    let lead-is : c.lead.result ≡ lead kind = c.lead.ensures.value in
    let is : n ≡ text_length kind bytes = c.text_length_of-text_length.ensures.value in
    let back = c.split_at.ensures.back in
    let at : c.lead.result + 2 + n + 5 ≡ lead kind + 7 + text_length kind bytes = omega arith in
    let text = c.split_at-2.ensures.front ∙ ap (take n) back ∙ ap (λ (k : ℕ). take n (drop (k + 2) bytes)) lead-is ∙ ap (λ (k : ℕ). take k (drop (lead kind + 2) bytes)) is in
    let body = c.split_at-3.ensures.back ∙ ap (drop 5) (c.split_at-2.ensures.back ∙ ap (drop n) back ∙ drop-drop n (c.lead.result + 2) bytes) ∙ drop-drop 5 (c.lead.result + 2 + n) bytes ∙ ap (λ (k : ℕ). drop k bytes) at in
    said_by kind bytes c.split_at-2.result.0.now c.split_at-3.result.1.now (λ i. let f = c.type_inv.bytes i in omega arith) c.requires.unbroken c.requires.whole text body
