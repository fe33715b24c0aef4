use Rattle.std.proofs.Common.{◌≡◌, ◌∙◌, ◌++◌, sym, ap, arith, ℕ, List, length, take}
use Rattle.std.proofs.Math.Seq.{take-length}
use Rattle.pbmessage.specs.Canon.{row_fields}
use Rattle.csi_keeper.specs.declared.capability.CapKey.{CapKey}
use Rattle.csi_columns.specs.facts.Writing.{caps_spelled, caps_fitting}
use Rattle.csi_columns.proofs.encoding.put_keys.Goals as goal

-- the loop ends after the last key
all : (ks : List CapKey) (i : ℕ) → i ≡ length ks → take i ks ≡ ks
all ks i is = ap (λ (n : ℕ). take n ks) is ∙ take-length ks

pub returns-clause-bytes : goal.returns-clause-bytes
unfolding row_fields
returns-clause-bytes c =
    let keys = c.args.keys.now in
    let written = rw (all keys c.loop-key.key-index (omega arith)) at c.loop-key.invariant.wrote in
    written ∙ ap (λ (bs : List ℕ). c.args.out.now.items ++ bs) (sym (caps_spelled keys))

pub returns-clause-fits : goal.returns-clause-fits
returns-clause-fits c =
    let keys = c.args.keys.now in
    caps_fitting keys (rw (all keys c.loop-key.key-index (omega arith)) at c.loop-key.invariant.fitting)
