use Rattle.std.proofs.Common.{ℕ, List, [], ◌≡◌, ◌++◌, ◌-◌, length, take, drop, rules, ap, ◌∙◌}
use Rattle.pbwire.specs.Wire.{Payload}
use Rattle.pbwire.specs.Writing.{varint, spelling}
use Rattle.pbmessage.specs.Canon.{bytes_of}
use Rattle.pbmessage.specs.facts.Writing.{keeps_on, closed_keeps}
use Rattle.pbmessage.proofs.writing.put_message.Goals as goal

pub returns-clause-kept : goal.returns-clause-kept
returns-clause-kept g c =
    let size : c.len-from.result ≡ length c.put_bytes.new.out.items = search rules in
    let whole = c.in_ok-write.ensures.ok ∙ ap (λ (bs : List ℕ). bs ++ bytes_of (g.M.Written.canon c.args.message.now)) c.in_ok-put_bytes.ensures.ok in
    closed_keeps c.close_bytes.result c.args.out.now.items c.write.new.out.items c.close_bytes.new.out.items
    (take (c.len-from.result - 1) c.write.new.out.items ++ (varint (length c.write.new.out.items - c.len-from.result) ++ drop c.len-from.result c.write.new.out.items))
    (spelling (record { number = c.args.number; part = Payload (bytes_of (g.M.Written.canon c.args.message.now)) }))
    (c.closed.ensures.spelled c.args.number c.len-from.result c.args.out.now.items (bytes_of (g.M.Written.canon c.args.message.now)) c.write.new.out.items whole (size ∙ ap length c.in_ok-put_bytes.ensures.ok))
    (keeps_on c.args.out.now.items c.put_bytes.new.out.items c.write.new.out.items c.in_ok-write.ensures.kept (record { tail = spelling (record { number = c.args.number; part = Payload [] }); is = c.in_ok-put_bytes.ensures.ok }))
    c.close_bytes.ensures.ok c.close_bytes.ensures.err
