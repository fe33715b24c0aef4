use Rattle.std.proofs.Common.{rules}
use Rattle.csi_tables.proofs.KeepLemmas.{is_quiet, fails_quiet, makes_nothing, on_err}
use Rattle.csi_tables.proofs.RefusalLemmas.{has_next, unread}
use Rattle.csi_tables.proofs.changes.make_nothing.Goals as goal

pub returns-in_err-next_number : goal.returns-in_err-next_number
returns-in_err-next_number g c =
    let h = unread {What = λ _ _. Unit {0}} c.from_residual.result c.in_err-next_number.field-0.0 (λ s shows. has_next s shows) c.in_err-next_number.ensures c.from_residual.ensures.1 in
    record {
      made = search rules;
      failed = on_err c.from_residual.result (λ change. fails_quiet g.S.Store change c.args.conn.now c.next_number.new.conn (is_quiet g.S.Store c.args.conn.now c.next_number.new.conn h.undone h.survives));
      refused = h.refused;
      limit = h.survives.limit;
    }

pub returns : goal.returns
returns g c =
    let h = c.in_ok-next_number.ensures in
    record {
      made = λ change same. makes_nothing g.S.Store change c.args.conn.now c.next_number.new.conn c.read_back.ensures g.met.S.Store.settled same
          (is_quiet g.S.Store c.args.conn.now c.next_number.new.conn h.undone h.survives) (λ clean. (h.ok clean).was_open);
      failed = tt;
      refused = search rules;
      limit = h.survives.limit;
    }
