use Rattle.std.proofs.Common.{◌≡◌, ℤ, ◌++◌, ap, ◌∙◌, rules}
use Rattle.pbwire.specs.Writing.{spellings}
use Rattle.pbmessage.specs.Canon.{row_fields, signed_row}
use Rattle.pbmessage.specs.facts.Writing.{keeps_on, wrote_next, wrote_signed}
use Rattle.csi_codec.proofs.messages.requests.ListVolumesWrittenCsi.write.Goals as goal

pub returns-in_err-put_text-clause-kept : goal.returns-in_err-put_text-clause-kept
returns-in_err-put_text-clause-kept c = keeps_on _ _ _ c.put_text.ensures.kept c.put_signed.ensures.kept

pub returns-clause-ok : goal.returns-clause-ok
returns-clause-ok c =
    let same : c.from.result ≡ c.args.self.now.max_entries = search rules in
    let wrote = wrote_signed _ _ 1 c.from.result (search rules) c.in_ok-put_signed.ensures.ok in
    wrote_next _ _ _ _ _ (wrote ∙ ap (λ (z : ℤ). c.args.out.now.items ++ spellings (row_fields (signed_row 1 z))) same) c.in_ok-put_text.ensures.ok

pub returns-clause-kept : goal.returns-clause-kept
returns-clause-kept c = keeps_on _ _ _ c.put_text.ensures.kept c.put_signed.ensures.kept
