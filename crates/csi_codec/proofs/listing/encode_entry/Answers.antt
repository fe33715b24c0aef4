use Rattle.std.proofs.Common.{◌≡◌, ◌∙◌, ◌-◌, ◌++◌, ap, arith, drop, length, sym, take, List, ℕ}
use Rattle.std.proofs.lemmas.List.{take_rest}
use Rattle.pbmessage.specs.facts.Views.{then_ok}
use Rattle.pbmessage.specs.facts.Writing.{no_items}
use Rattle.csi_codec.proofs.ListingLemmas.{extended, short_fits, short_is}
use Rattle.csi_codec.proofs.listing.encode_entry.Goals as goal

pub returns-in-Some-clause-ok : goal.returns-in-Some-clause-ok
returns-in-Some-clause-ok c =
    let e = c.args.entry.now in
    let none = no_items e.nodes.now (sym c.is_empty.ensures ∙ c.if-is_empty.true) in
    let short = short_is c.short.ensures e none c.in-Some.ensures.short in
    let start = c.in-Some.start in
    let buffer = c.put_short.new.buffer in
    let long : length buffer ≡ 176 = omega arith in
    let rest : take (176 - start) (drop start buffer) ≡ drop start buffer = ap (λ (n : ℕ). take (n - start) (drop start buffer)) (sym long) ∙ take_rest buffer start in
    then_ok c.extend_from_slice.result (λ is. is ∙ ap (λ (bs : List ℕ). c.args.out.now.items ++ bs) (rest ∙ c.in-Some.ensures.written ∙ sym short))
    (extended c.extend_from_slice.result _ c.args.out.now.items (take (176 - start) (drop start buffer)) c.extend_from_slice.ensures.items)

pub returns-in-Some-clause-fitting : goal.returns-in-Some-clause-fitting
returns-in-Some-clause-fitting c =
    let e = c.args.entry.now in
    let none = no_items e.nodes.now (sym c.is_empty.ensures ∙ c.if-is_empty.true) in
    let part = take (176 - c.in-Some.start) (drop c.in-Some.start c.put_short.new.buffer) in
    then_ok c.extend_from_slice.result (λ _. short_fits c.short.ensures e none c.in-Some.ensures.short c.in-Some.ensures.fitting)
    (extended c.extend_from_slice.result _ c.args.out.now.items part c.extend_from_slice.ensures.items)
