use Rattle.std.proofs.Common.{inl, inr, [], Err, ap, not, sym, true≢false, refl}
use Rattle.std.proofs.KnownBytes.{Appends-nil}
use Rattle.csi_vectors.specs.Running.{reported}
use Rattle.csi_vectors.proofs.Faults.{bad_line}
use Rattle.csi_vectors.proofs.Kept.{appended_as, cut_as, no_line, was_run}
use Rattle.csi_vectors.proofs.running.run_text.Goals as goal

pub returns-then-is_skipped-clause-ok : goal.returns-then-is_skipped-clause-ok
returns-then-is_skipped-clause-ok g c = ([], inl (c.if-is_skipped.ensures.skipped refl, refl, refl), Appends-nil (g.W.Write.contents c.args.writer.now))

pub returns-in_err-vector-clause-bad : goal.returns-in_err-vector-clause-bad
returns-in_err-vector-clause-bad g c h = (
  λ s. true≢false (sym (c.if-is_skipped.ensures.run s)),
  inr (no_line c.in_ok-text_of.field-0.now c.args.text.now c.in_ok-text_of.ensures.ok.0
      (c.in_err-vector.ensures.refused (ap Err (bad_line c.from_residual-in_err-vector.result c.in_err-vector.field-0.0 c.from_residual-in_err-vector.ensures.1 h)))),
)

pub returns-in-Ok-clause-ok : goal.returns-in-Ok-clause-ok
returns-in-Ok-clause-ok g c =
    let w = g.W.Write.contents in
    let v = c.in_ok-vector.vector in
    let failed = not c.in_ok-failed.field-0 in (
      reported failed v.name.now,
      inr (was_run c.args.config.now c.args.text.now c.in_ok-text_of.field-0.now v.name.now v.input.items v.output.items c.in_ok-failed.ensures.0 c.in_ok-failed.field-0
          (λ s. true≢false (sym (c.if-is_skipped.ensures.run s))) c.in_ok-text_of.ensures.ok.0 c.in_ok-text_of.ensures.ok.1 c.in_ok-vector.ensures.ok c.in_ok-failed.ensures.1 c.in_ok-failed.ensures.2),
      appended_as (w c.args.writer.now) (w c.send.new.writer) c.as_slice.result.now c.in_ok-line.line.items (reported failed v.name.now) c.as_slice.ensures.value c.in_ok-line.ensures c.in-Ok.ensures.all,
    )

pub returns-clause-cut : goal.returns-clause-cut
returns-clause-cut g c h =
    let w = g.W.Write.contents in
    let v = c.in_ok-vector.vector in
    let failed = not c.in_ok-failed.field-0 in (
      reported failed v.name.now,
      failed,
      was_run c.args.config.now c.args.text.now c.in_ok-text_of.field-0.now v.name.now v.input.items v.output.items c.in_ok-failed.ensures.0 c.in_ok-failed.field-0
          (λ s. true≢false (sym (c.if-is_skipped.ensures.run s))) c.in_ok-text_of.ensures.ok.0 c.in_ok-text_of.ensures.ok.1 c.in_ok-vector.ensures.ok c.in_ok-failed.ensures.1 c.in_ok-failed.ensures.2,
      cut_as (w c.args.writer.now) (w c.send.new.writer) c.as_slice.result.now c.in_ok-line.line.items (reported failed v.name.now) c.as_slice.ensures.value c.in_ok-line.ensures c.send.ensures.part,
    )
