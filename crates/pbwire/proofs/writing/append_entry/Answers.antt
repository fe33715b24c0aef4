use Rattle.std.proofs.Common.{ℕ, List, [], ◌≡◌, ◌++◌, OnOk, length, rules, ap, subst, ◌∙◌, append_assoc, length-append, arith}
use Rattle.pbwire.specs.Wire.{Payload}
use Rattle.pbwire.specs.Writing.{spelling}
use Rattle.pbwire.proofs.CloseLemmas.{closed, after_empty}
use Rattle.pbwire.proofs.writing.append_entry.Goals as goal

pub close_bytes-requires : goal.close_bytes-requires
close_bytes-requires c =
    let size : c.len-from.result ≡ length c.put_bytes.new.out.items = search rules in
    let two = c.in_ok-put_bytes-2.ensures.ok in
    let three = c.in_ok-put_bytes-3.ensures.ok in
    let key = spelling (record { number = 1; part = Payload c.args.key.now }) in
    let value = spelling (record { number = 2; part = Payload c.args.value.now }) in (
      after_empty c.args.number c.len-from.result c.args.out.now.items (size ∙ ap length c.in_ok-put_bytes.ensures.ok),
      omega (arith, size, ap length two, ap length three, length-append c.put_bytes.new.out.items key, length-append c.put_bytes-2.new.out.items value),
    )

pub returns-clause-ok : goal.returns-clause-ok
returns-clause-ok c =
    let size : c.len-from.result ≡ length c.put_bytes.new.out.items = search rules in
    let key = spelling (record { number = 1; part = Payload c.args.key.now }) in
    let value = spelling (record { number = 2; part = Payload c.args.value.now }) in
    let whole = c.in_ok-put_bytes-3.ensures.ok ∙ ap (λ (bs : List ℕ). bs ++ value) (c.in_ok-put_bytes-2.ensures.ok ∙ ap (λ (bs : List ℕ). bs ++ key) c.in_ok-put_bytes.ensures.ok)
    ∙ append_assoc (c.args.out.now.items ++ spelling (record { number = c.args.number; part = Payload [] })) key value in
    subst (λ (bs : List ℕ). OnOk c.close_bytes.result (c.close_bytes.new.out.items ≡ bs))
    (closed c.args.number c.len-from.result c.args.out.now.items (key ++ value) c.put_bytes-3.new.out.items whole (size ∙ ap length c.in_ok-put_bytes.ensures.ok))
    c.close_bytes.ensures.ok
