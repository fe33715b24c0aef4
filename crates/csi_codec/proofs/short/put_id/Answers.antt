use Rattle.std.proofs.Common.{◌≤◌, ap, arith, length, length-append, List, ℕ}
use Rattle.std.specs.Fmt.{decimal}
use Rattle.std.proofs.lemmas.Fmt.{length-decimal-le, IsAscii-decimal}
use Rattle.std.proofs.lemmas.Str.{IsUtf8-append, IsUtf8-from_ascii}
use Rattle.csi_codec.proofs.short.put_id.Goals as goal

pub write_digits-digits-requires : goal.write_digits-digits-requires
write_digits-digits-requires c =
    let few : length (decimal c.args.number) ≤ 20 = length-decimal-le 20 c.args.number (omega arith) (omega arith) (omega arith) in
    (omega arith, omega arith)

pub put_before-id-requires : goal.put_before-id-requires
put_before-id-requires c =
    let few : length (decimal c.args.number) ≤ 20 = length-decimal-le 20 c.args.number (omega arith) (omega arith) (omega arith) in
    let same = ap (λ (bs : List ℕ). length bs) c.as_bytes.ensures.value in
    (omega arith, omega arith)

pub overflow_cast-end : goal.overflow_cast-end
overflow_cast-end c =
    let few : length (decimal c.args.number) ≤ 20 = length-decimal-le 20 c.args.number (omega arith) (omega arith) (omega arith) in
    let same = ap (λ (bs : List ℕ). length bs) c.as_bytes.ensures.value in
    omega arith

pub put_before-requires : goal.put_before-requires
put_before-requires c =
    let few : length (decimal c.args.number) ≤ 20 = length-decimal-le 20 c.args.number (omega arith) (omega arith) (omega arith) in
    let same = ap (λ (bs : List ℕ). length bs) c.as_bytes.ensures.value in
    (omega arith, omega arith)

pub returns-clause-short : goal.returns-clause-short
returns-clause-short c =
    let few : length (decimal c.args.number) ≤ 20 = length-decimal-le 20 c.args.number (omega arith) (omega arith) (omega arith) in
    omega (arith, length-append c.args.prefix.now (decimal c.args.number))

pub returns-clause-fitting : goal.returns-clause-fitting
returns-clause-fitting c =
    let few : length (decimal c.args.number) ≤ 20 = length-decimal-le 20 c.args.number (omega arith) (omega arith) (omega arith) in
    let digits = IsUtf8-from_ascii (decimal c.args.number) (IsAscii-decimal c.args.number (omega arith)) in
    (IsUtf8-append c.args.prefix.now (decimal c.args.number) c.utf8.prefix digits, omega (arith, length-append c.args.prefix.now (decimal c.args.number)))
