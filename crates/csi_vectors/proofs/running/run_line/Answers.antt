use Rattle.csi_vectors.proofs.running.run_line.Goals as goal

pub returns-clause-bad : goal.returns-clause-bad
returns-clause-bad g c h = (c.without_end.result.now, c.without_end.ensures, c.run_text.ensures.bad h)
