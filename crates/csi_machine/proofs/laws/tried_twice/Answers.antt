use Rattle.std.proofs.Common.{refl, inl, inr, [], ◌∷◌}
use Rattle.csi_machine.specs.Retry.{Marked, IsDue}
use Rattle.csi_machine.specs.Step.{step}
use Rattle.csi_machine.proofs.RetryLemmas.{lived, lived_with}
use Rattle.csi_machine.proofs.laws.tried_twice.Goals as goal

pub returns-clause-lost : goal.returns-clause-lost
returns-clause-lost c s r = lived c.args.config.now s r _ refl refl (inl refl)

pub returns-clause-refused : goal.returns-clause-refused
returns-clause-refused c s r =
    let due : IsDue c.args.config.now s (record { request = r; end = Marked } ∷ []) (step c.args.config.now s r).1 =
    record { before = []; refused = record { request = r; end = Marked }; after = []; whole = refl; is_marked = refl; still = tt; is = refl } in
    lived c.args.config.now s r _ refl refl (inr due)

pub returns-clause-others : goal.returns-clause-others
returns-clause-others c s r q reads = lived_with c.args.config.now s r q reads
