use Rattle.std.proofs.Common.{inl, inr, refl, Some, None, codes}
use Rattle.std.proofs.lemmas.Bool.Decides.{Decides-eqb}
use Rattle.std.proofs.lemmas.Slice.Eq.{strip_suffix_is}
use Rattle.csi_vectors.proofs.running.without_end.Goals as goal

pub returns-in-Some : goal.returns-in-Some
returns-in-Some c = inl (strip_suffix_is Decides-eqb c.args.line.now (codes "\n") (Some c.in-Some.text) c.in-Some.ensures.cases)

pub returns-in-None : goal.returns-in-None
returns-in-None c = inr (refl, strip_suffix_is Decides-eqb c.args.line.now (codes "\n") None c.in-None.ensures.cases)
