use Rattle.std.proofs.Common.{ap, length}
use Rattle.std.proofs.lemmas.Result.{IfOk-weaker}
use Rattle.csid.proofs.ReadingLemmas.{read_from}
use Rattle.csid.proofs.change_store.read_over_memory.Goals as goal

pub returns-clause-read : goal.returns-clause-read
returns-clause-read g c =
    IfOk-weaker c.read_change_store.result _ _
    (λ through it. read_from c.args.config.now g.P.Peer.exchanged c.args.change_store c.in_ok-conn.conn through (c.in_ok-conn.ensures.blank (ap length c.in_ok-files_of.ensures.bytes.1)) it)
    c.read_change_store.ensures.copied
