use Rattle.std.proofs.Common.{arith, length-append, ◌≡◌, ◌++◌, ◌∙◌, ◌≤◌, ◌<◌, ◌^◌, [], ap, ap₂, length, subst, sym, List, OnOk, ℕ}
use Rattle.std.proofs.lemmas.Str.{IsUtf8-append}
use Rattle.pbwire.specs.Wire.{Payload}
use Rattle.pbwire.specs.Writing.{spelling, spellings}
use Rattle.pbmessage.specs.Canon.{row_fields, text_row}
use Rattle.pbmessage.specs.facts.Views.{then_ok}
use Rattle.pbmessage.specs.facts.Writing.{joined_row, no_items, some_bytes}
use Rattle.pbmessage.proofs.writing.put_joined.Goals as goal

pub returns-then-is_empty-clause-ok : goal.returns-then-is_empty-clause-ok
returns-then-is_empty-clause-ok c =
    let none : c.args.first.now ≡ [] = no_items c.args.first.now (sym c.is_empty.ensures ∙ c.if-is_empty.true) in
    subst (λ (first : List ℕ). OnOk c.put_str.result (c.put_str.new.out.items ≡ c.args.out.now.items ++ spellings (row_fields (text_row c.args.number (first ++ c.args.second.now))))) (sym none) c.put_str.ensures.ok

pub returns-clause-ok : goal.returns-clause-ok
returns-clause-ok c =
    let some : 1 ≤ length c.args.first.now = some_bytes c.args.first.now (sym c.is_empty.ensures ∙ c.if-is_empty.false) in
    let both : c.as_bytes.result.now ++ c.as_bytes-2.result.now ≡ c.args.first.now ++ c.args.second.now = ap₂ (λ (xs ys : List ℕ). xs ++ ys) c.as_bytes.ensures.value c.as_bytes-2.ensures.value in
    then_ok c.put_joined.result (λ is.
    is ∙ ap (λ (bs : List ℕ). c.args.out.now.items ++ spelling (record { number = c.args.number; part = Payload bs })) both
    ∙ ap (λ (bs : List ℕ). c.args.out.now.items ++ bs) (joined_row c.args.number c.args.first.now c.args.second.now some)) c.put_joined.ensures.ok

pub returns-clause-fitting : goal.returns-clause-fitting
returns-clause-fitting c =
    let long = c.as_bytes.type_inv.1 in
    let longer = c.as_bytes-2.type_inv.1 in
    let small : length (c.args.first.now ++ c.args.second.now) < 2 ^ 64 = omega (arith, long, longer, ap length c.as_bytes.ensures.value, ap length c.as_bytes-2.ensures.value, length-append c.args.first.now c.args.second.now) in
    then_ok c.put_joined.result (λ is. (IsUtf8-append c.args.first.now c.args.second.now c.utf8.first c.utf8.second, small)) c.put_joined.ensures.ok
