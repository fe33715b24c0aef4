use Rattle.std.proofs.Common.{inl, inr}
use Rattle.csi_server.specs.Machine.{Unmarked}
use Rattle.csi_server.proofs.LifeLemmas.{after, lived, lived_with, pending}
use Rattle.csi_server.proofs.laws.made_twice.Goals as goal

pub returns : goal.returns
returns c = record {
  lost = λ s call r asks. lived c.args.config.now s call r Unmarked asks (inl (after c.args.config.now s call r));
  refused = λ s call r mark asks marked. lived c.args.config.now s call r mark asks (inr (pending c.args.config.now s call r mark asks marked));
  others = λ s call other r q asks also reads. lived_with c.args.config.now s call r other q asks also reads;
}
