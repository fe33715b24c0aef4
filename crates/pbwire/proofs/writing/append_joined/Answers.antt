use Rattle.std.proofs.Common.{ℕ, List, [], ◌≡◌, ◌++◌, OnOk, length, rules, ap, subst, ◌∙◌, append_assoc, length-append, arith}
use Rattle.pbwire.specs.Wire.{Payload}
use Rattle.pbwire.specs.Writing.{spelling}
use Rattle.pbwire.proofs.CloseLemmas.{closed, after_empty}
use Rattle.pbwire.proofs.writing.append_joined.Goals as goal

pub close_bytes-requires : goal.close_bytes-requires
close_bytes-requires c =
    let size : c.len-from.result ≡ length c.put_bytes.new.out.items = search rules in
    let two = c.in_ok-extend_from_slice.ensures.items in
    let three = c.in_ok-extend_from_slice-2.ensures.items in (
      after_empty c.args.number c.len-from.result c.args.out.now.items (size ∙ ap length c.in_ok-put_bytes.ensures.ok),
      omega (arith, size, ap length two, ap length three, length-append c.put_bytes.new.out.items c.args.first.now, length-append c.extend_from_slice.new.self.items c.args.second.now),
    )

pub returns-clause-ok : goal.returns-clause-ok
returns-clause-ok c =
    let size : c.len-from.result ≡ length c.put_bytes.new.out.items = search rules in
    let whole = c.in_ok-extend_from_slice-2.ensures.items ∙ ap (λ (bs : List ℕ). bs ++ c.args.second.now) (c.in_ok-extend_from_slice.ensures.items ∙ ap (λ (bs : List ℕ). bs ++ c.args.first.now) c.in_ok-put_bytes.ensures.ok)
    ∙ append_assoc (c.args.out.now.items ++ spelling (record { number = c.args.number; part = Payload [] })) c.args.first.now c.args.second.now in
    subst (λ (bs : List ℕ). OnOk c.close_bytes.result (c.close_bytes.new.out.items ≡ bs))
    (closed c.args.number c.len-from.result c.args.out.now.items (c.args.first.now ++ c.args.second.now) c.extend_from_slice-2.new.self.items whole (size ∙ ap length c.in_ok-put_bytes.ensures.ok))
    c.close_bytes.ensures.ok
