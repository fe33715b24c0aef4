use Rattle.std.proofs.Common.{map}
use Rattle.csi_clients.specs.Clients.{start}
use Rattle.csi_clients.specs.Calls.{client_tries_of}
use Rattle.csi_clients.proofs.CallsLemmas.{OfCalls, lived}
use Rattle.csi_clients.proofs.laws.linearizable_calls.Goals as goal

pub returns : goal.returns
returns g c =
    let config = c.args.config.now in
    let laws : OfCalls config = record { after = c.tries.ensures.after; heard = c.tries.ensures.heard; left = λ s t session. (c.tries.ensures.left s t session).0 } in
    record {
      begun = λ s t todo sessions heard inv passed life.
          let a = lived config laws sessions s (start todo) heard t life in
          (a.answers, a.same, c.linearizable.ensures.begun s t todo (map client_tries_of sessions) a.answers inv passed a.history);
      finished = λ s t todo sessions heard inv passed life answered.
          let a = lived config laws sessions s (start todo) heard t life in
          (a.answers, a.same, c.linearizable.ensures.finished s t todo (map client_tries_of sessions) a.answers inv passed a.history answered);
    }
