use Rattle.std.proofs.Common.{refl}
use Rattle.csi_server.proofs.identity.serve_identity.Goals as goal

pub returns-clause-serves : goal.returns-clause-serves
returns-clause-serves g c = let h = c.run_service.ensures.serves in (h.0, h.1, h.2 refl tt tt)
