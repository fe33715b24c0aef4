use Rattle.csi_server.proofs.PendingLemmas.{either}
use Rattle.csi_server.proofs.TriesLemmas.{session_after, session_heard, session_leaves, tries_leave}
use Rattle.csi_server.specs.Tries.{events_of}
use Rattle.csi_server.proofs.laws.tries.Goals as goal

pub returns : goal.returns
returns g c = record {
  after = session_after c.args.config.now;
  heard = session_heard c.args.config.now;
  left = λ s t session. (session_leaves c.args.config.now s t session, tries_leave c.args.config.now s t session);
  stopped = λ old new s session run only t h. session_leaves c.args.config.now s t session (either c.args.config.now s (events_of session) run.allowed t (run.survive only t h));
}
