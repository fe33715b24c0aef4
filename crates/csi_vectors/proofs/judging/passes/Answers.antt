use Rattle.std.proofs.Common.{◌≡◌, rules, false, refl}
use Rattle.std.specs.Prelude.{bytes_eq}
use Rattle.csi_vectors.proofs.Refusals.{no_call_refused}
use Rattle.csi_vectors.proofs.judging.passes.Goals as goal

pub returns : goal.returns
returns c =
    let items = c.in_ok-bytes.bytes.items in
    let differs : false ≡ bytes_eq c.in_ok-bytes.bytes.items c.args.vector.now.output.items = search rules in (
      items,
      no_call_refused c.args.config.now c.deref.result.now c.args.vector.now.input.items c.as_slice-replies.result.now items c.deref.ensures.value c.as_slice-replies.ensures.value c.in_ok-bytes.ensures (c.if-has_refusal.ensures refl),
      differs,
    )
