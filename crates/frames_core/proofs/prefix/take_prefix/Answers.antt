use Rattle.std.proofs.Common.{◌≡◌, ℕ, ◌-◌, ◌≤◌, List, ◌++◌, length, take, drop, refl, sym, ap, ◌∙◌, arith}
use Rattle.std.specs.Prelude.{min}
use Rattle.std.proofs.lemmas.List.{take_at, length-append}
use Rattle.envelope.specs.Head.{most_head}
use Rattle.frames_core.proofs.Taking.{takes_broken, takes_whole, takes_short, missing_room, broken_later, whole_later}
use Rattle.frames_core.proofs.prefix.take_prefix.Goals as goal

-- the held bytes stay in prefix
kept : (old piece all : List ℕ) (h : ℕ) → all ≡ old ++ take h piece → take (length old) all ≡ old
kept old piece all h is = ap (λ (x : List ℕ). take (length old) x) is ∙ take_at old (take h piece) (length old) refl

pub overflow_sub-result : goal.overflow_sub-result
overflow_sub-result c =
    let old = c.args.buffer.now.items in
    let all = c.as_slice.result.now in
    let len : c.len-before.result ≡ length old = omega (arith, c.len-before.ensures, c.args.buffer.now.ok.0) in
    let is : all ≡ old ++ take c.at_most.result c.args.piece.now = c.as_slice.ensures.value ∙ (c.append.ensures.items ∙ ap (λ (x : List ℕ). old ++ x) c.split_at.ensures.front) in
    omega (arith, broken_later c.args.kind old all c.in-Broken.flaw c.in-Broken.size (kept old c.args.piece.now all c.at_most.result is) (omega (arith, ap length is, length-append old (take c.at_most.result c.args.piece.now))) c.requires.unbroken c.in-Broken.ensures)

pub overflow_sub-result-in-Whole : goal.overflow_sub-result-in-Whole
overflow_sub-result-in-Whole c =
    let old = c.args.buffer.now.items in
    let all = c.as_slice.result.now in
    let len : c.len-before.result ≡ length old = omega (arith, c.len-before.ensures, c.args.buffer.now.ok.0) in
    let is : all ≡ old ++ take c.at_most.result c.args.piece.now = c.as_slice.ensures.value ∙ (c.append.ensures.items ∙ ap (λ (x : List ℕ). old ++ x) c.split_at.ensures.front) in
    omega (arith, whole_later c.args.kind old all c.in-Whole.size (kept old c.args.piece.now all c.at_most.result is) c.requires.short c.in-Whole.ensures)

pub append-requires-in-Short : goal.append-requires-in-Short
append-requires-in-Short c =
    let all = c.as_slice-in-Short.result.now in
    let short = rw c.in-Short.is at c.look_at.ensures in
    let short2 = rw (c.as_slice.ensures.value ∙ sym c.as_slice-in-Short.ensures.value) at short in
    let n = length c.split_at-in-Short.result.0.now in
    let few : n ≤ c.missing-missing.result = omega (arith, c.split_at-in-Short.ensures.front_len) in
    let room = missing_room c.args.kind all c.missing-missing.result n short2.0 short2.1 c.missing-missing.ensures few in
    omega (arith, room, c.as_slice-in-Short.ensures.len, c.append.ensures.capacity, c.requires.room)

pub returns-in-Broken-clause-takes : goal.returns-in-Broken-clause-takes
returns-in-Broken-clause-takes c =
    let old = c.args.buffer.now.items in
    let len : c.len-before.result ≡ length old = omega (arith, c.len-before.ensures, c.args.buffer.now.ok.0) in
    let is : c.as_slice.result.now ≡ old ++ take c.at_most.result c.args.piece.now = c.as_slice.ensures.value ∙ (c.append.ensures.items ∙ ap (λ (x : List ℕ). old ++ x) c.split_at.ensures.front) in
    takes_broken c.args.kind old c.args.piece.now c.as_slice.result.now c.truncate.new.self.items c.at_most.result c.in-Broken.size (c.in-Broken.size - c.len-before.result) c.in-Broken.flaw is c.requires.unbroken c.in-Broken.ensures (c.truncate.ensures.items ∙ ap (λ (x : List ℕ). take c.in-Broken.size x) (sym c.as_slice.ensures.value)) (omega arith)

pub returns-in-Whole-clause-takes : goal.returns-in-Whole-clause-takes
returns-in-Whole-clause-takes c =
    let old = c.args.buffer.now.items in
    let len : c.len-before.result ≡ length old = omega (arith, c.len-before.ensures, c.args.buffer.now.ok.0) in
    let is : c.as_slice.result.now ≡ old ++ take c.at_most.result c.args.piece.now = c.as_slice.ensures.value ∙ (c.append.ensures.items ∙ ap (λ (x : List ℕ). old ++ x) c.split_at.ensures.front) in
    takes_whole c.args.kind old c.args.piece.now c.as_slice.result.now c.truncate-in-Whole.new.self.items c.at_most.result c.in-Whole.size (c.in-Whole.size - c.len-before.result) is c.requires.short c.in-Whole.ensures (c.truncate-in-Whole.ensures.items ∙ ap (λ (x : List ℕ). take c.in-Whole.size x) (sym c.as_slice.ensures.value)) (omega arith)

pub returns-in-Short-clause-takes : goal.returns-in-Short-clause-takes
returns-in-Short-clause-takes c =
    let old = c.args.buffer.now.items in
    let piece = c.args.piece.now in
    let h = c.at_most.result in
    let j = c.at_most-in-Short.result in
    let all = c.as_slice-in-Short.result.now in
    let len : c.len-before.result ≡ length old = omega (arith, c.len-before.ensures, c.args.buffer.now.ok.0) in
    let short = rw c.in-Short.is at c.look_at.ensures in
    let short2 = rw (c.as_slice.ensures.value ∙ sym c.as_slice-in-Short.ensures.value) at short in
    let is : all ≡ old ++ take h piece = c.as_slice-in-Short.ensures.value ∙ (c.append.ensures.items ∙ ap (λ (x : List ℕ). old ++ x) c.split_at.ensures.front) in
    let rest : c.split_at.result.1.now ≡ drop h piece = c.split_at.ensures.back in
    let new : c.append-in-Short.new.buffer.items ≡ all ++ take j (drop h piece) = c.append-in-Short.ensures.items ∙ (ap (λ (x : List ℕ). c.append.new.buffer.items ++ x) (c.split_at-in-Short.ensures.front ∙ ap (λ (x : List ℕ). take j x) rest) ∙ ap (λ (x : List ℕ). x ++ take j (drop h piece)) (sym c.as_slice-in-Short.ensures.value)) in
    let h-is : h ≡ min (length piece) (most_head c.args.kind - length old) = omega (arith, c.at_most.ensures, c.saturating_sub.ensures, c.most_head.ensures) in
    let j-is : j ≡ min (length (drop h piece)) c.missing-missing.result = c.at_most-in-Short.ensures ∙ ap (λ (x : List ℕ). min (length x) c.missing-missing.result) rest in
    takes_short c.args.kind old piece all c.append-in-Short.new.buffer.items h j c.missing-missing.result _ c.are_all.result is h-is short2.0 short2.1 c.missing-missing.ensures j-is new (omega (arith, c.split_at.ensures.front_len, c.split_at-in-Short.ensures.front_len, ap length rest))
    (λ on.
    let all = c.are_all.ensures.all on in
    (omega (arith, all.0), omega (arith, all.1, c.split_at-in-Short.ensures.front_len)))
    (λ off some same. c.are_all.ensures.fewer off some (omega (arith, c.split_at-in-Short.ensures.front_len)))
