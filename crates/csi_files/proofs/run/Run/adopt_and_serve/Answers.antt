use Rattle.std.proofs.Common.{◌≡◌, ◌∙◌, ◌↔◌, Bool, IsTrue, ap, refl, sym, subst}
use Rattle.csi_sql.specs.Tables.{no_schema}
use Rattle.std.proofs.lemmas.Result.{IfOk-weaker}
use Rattle.csi_files.specs.Streams.{streams}
use Rattle.csi_files.proofs.FilesLemmas.{all_served, asked, blank_asked, finished, finished_after, given_up, refused_over, serves_over, unfinished, unserved_refused}
use Rattle.csi_files.proofs.LeaveLemmas.{has_alone}
use Rattle.csi_files.proofs.CleanLemmas.{finished_clean, given_up_clean, unfinished_clean}
use Rattle.csi_files.proofs.ResultLemmas.{IfErr-weaker}
use Rattle.csi_files.proofs.run.Run.adopt_and_serve.Goals as goal

pub returns-in-Ok-serve_adopted-clause-served : goal.returns-in-Ok-serve_adopted-clause-served
returns-in-Ok-serve_adopted-clause-served g c =
    IfOk-weaker c.finish.result _ _
    (λ outcome it was open_. finished g.D.Disk g.met.D.Disk.seen_may_stay c.one_state.ensures c.args.self.now.config.now (record { left = c.pending.ensures; runs = c.kept.ensures.run; pending = c.kept.ensures.pending }) was c.args.conn (λ clean. (open_ clean).0) (λ clean. (open_ clean).1)
    c.in-Ok-serve_adopted.conn c.in-Ok-serve_adopted.report (streams (g.R.Read.remaining c.args.reader.now) (g.R.Read.remaining c.serve_adopted.new.reader) (g.W.Write.contents c.args.writer.now) (g.W.Write.contents c.serve_adopted.new.writer)) (serves_over g.D.Disk c.args.self.now.config.now c.args.conn c.in-Ok.adopted.0 c.in-Ok.ensures.adopted c.in-Ok-serve_adopted.conn c.in-Ok-serve_adopted.report (streams (g.R.Read.remaining c.args.reader.now) (g.R.Read.remaining c.serve_adopted.new.reader) (g.W.Write.contents c.args.writer.now) (g.W.Write.contents c.serve_adopted.new.writer)) c.in-Ok-serve_adopted.ensures.served) (subst (λ (b : Bool). IsTrue b ↔ (c.args.conn.schema ≡ no_schema)) (sym c.in-Ok-serve_adopted.ensures.new) c.in-Ok.ensures.new) outcome it)
    c.finish.ensures.finished

pub returns-in-Ok-serve_adopted-clause-after : goal.returns-in-Ok-serve_adopted-clause-after
returns-in-Ok-serve_adopted-clause-after g c =
    IfOk-weaker c.finish.result _ _
    (λ outcome it was open_. finished_after g.D.Disk g.met.D.Disk.seen_may_stay c.one_state.ensures c.args.self.now.config.now (record { left = c.pending.ensures; runs = c.kept.ensures.run; pending = c.kept.ensures.pending }) was c.args.conn (λ clean. (open_ clean).0) (λ clean. (open_ clean).1)
    c.in-Ok-serve_adopted.conn c.in-Ok-serve_adopted.report (streams (g.R.Read.remaining c.args.reader.now) (g.R.Read.remaining c.serve_adopted.new.reader) (g.W.Write.contents c.args.writer.now) (g.W.Write.contents c.serve_adopted.new.writer)) (serves_over g.D.Disk c.args.self.now.config.now c.args.conn c.in-Ok.adopted.0 c.in-Ok.ensures.adopted c.in-Ok-serve_adopted.conn c.in-Ok-serve_adopted.report (streams (g.R.Read.remaining c.args.reader.now) (g.R.Read.remaining c.serve_adopted.new.reader) (g.W.Write.contents c.args.writer.now) (g.W.Write.contents c.serve_adopted.new.writer)) c.in-Ok-serve_adopted.ensures.served) (subst (λ (b : Bool). IsTrue b ↔ (c.args.conn.schema ≡ no_schema)) (sym c.in-Ok-serve_adopted.ensures.new) c.in-Ok.ensures.new) outcome it)
    c.finish.ensures.finished

pub returns-in-Ok-serve_adopted-clause-usable : goal.returns-in-Ok-serve_adopted-clause-usable
returns-in-Ok-serve_adopted-clause-usable g c =
    IfOk-weaker c.finish.result _ _ (λ outcome it. it.usable) c.finish.ensures.finished

pub returns-in-Ok-serve_adopted-clause-alone : goal.returns-in-Ok-serve_adopted-clause-alone
returns-in-Ok-serve_adopted-clause-alone g c =
    IfOk-weaker c.finish.result _ _ (λ outcome it. has_alone g.D.Disk outcome.files (λ clean. (it.copied clean).ignored)) c.finish.ensures.finished

pub returns-in-Ok-serve_adopted-clause-writes : goal.returns-in-Ok-serve_adopted-clause-writes
returns-in-Ok-serve_adopted-clause-writes g c =
    all_served g.D.Disk _ c.in-Ok-serve_adopted.report c.in-Ok-serve_adopted.conn c.in-Ok-serve_adopted.ensures.served.run.writes c.finish.result c.finish.ensures.finished c.finish.ensures.unfinished

pub returns-in-Ok-serve_adopted-clause-uncopied : goal.returns-in-Ok-serve_adopted-clause-uncopied
returns-in-Ok-serve_adopted-clause-uncopied g c =
    all_served g.D.Disk _ c.in-Ok-serve_adopted.report c.in-Ok-serve_adopted.conn c.in-Ok-serve_adopted.ensures.uncopied c.finish.result c.finish.ensures.finished c.finish.ensures.unfinished

pub returns-in-Ok-serve_adopted-clause-blank : goal.returns-in-Ok-serve_adopted-clause-blank
returns-in-Ok-serve_adopted-clause-blank g c =
    all_served g.D.Disk _ c.in-Ok-serve_adopted.report c.in-Ok-serve_adopted.conn (subst (λ (b : Bool). IsTrue b ↔ (c.args.conn.schema ≡ no_schema)) (sym c.in-Ok-serve_adopted.ensures.new) c.in-Ok.ensures.new) c.finish.result c.finish.ensures.finished c.finish.ensures.unfinished

pub returns-in-Ok-serve_adopted-clause-not_served : goal.returns-in-Ok-serve_adopted-clause-not_served
returns-in-Ok-serve_adopted-clause-not_served g c =
    IfErr-weaker c.finish.result _ _
    (λ e it was open_. unfinished g.D.Disk g.met.D.Disk.seen_may_stay c.one_state.ensures c.args.self.now.config.now (record { left = c.pending.ensures; runs = c.kept.ensures.run; pending = c.kept.ensures.pending }) was c.args.conn (λ clean. (open_ clean).0) (λ clean. (open_ clean).1)
    c.in-Ok-serve_adopted.conn c.in-Ok-serve_adopted.report (streams (g.R.Read.remaining c.args.reader.now) (g.R.Read.remaining c.serve_adopted.new.reader) (g.W.Write.contents c.args.writer.now) (g.W.Write.contents c.serve_adopted.new.writer)) (serves_over g.D.Disk c.args.self.now.config.now c.args.conn c.in-Ok.adopted.0 c.in-Ok.ensures.adopted c.in-Ok-serve_adopted.conn c.in-Ok-serve_adopted.report (streams (g.R.Read.remaining c.args.reader.now) (g.R.Read.remaining c.serve_adopted.new.reader) (g.W.Write.contents c.args.writer.now) (g.W.Write.contents c.serve_adopted.new.writer)) c.in-Ok-serve_adopted.ensures.served) (subst (λ (b : Bool). IsTrue b ↔ (c.args.conn.schema ≡ no_schema)) (sym c.in-Ok-serve_adopted.ensures.new) c.in-Ok.ensures.new) e it)
    c.finish.ensures.unfinished

pub returns-in-Ok-serve_adopted-clause-existing : goal.returns-in-Ok-serve_adopted-clause-existing
returns-in-Ok-serve_adopted-clause-existing g c =
    asked g.D.Disk _ c.in-Ok-serve_adopted.report c.in-Ok-serve_adopted.conn (λ e. c.in-Ok-serve_adopted.ensures.new ∙ c.in-Ok.ensures.existing e) c.finish.result c.finish.ensures.finished c.finish.ensures.unfinished

pub returns-in-Ok-serve_adopted-clause-clean : goal.returns-in-Ok-serve_adopted-clause-clean
returns-in-Ok-serve_adopted-clause-clean g c =
    IfOk-weaker c.finish.result _ _
    (λ outcome it. finished_clean g.D.Disk c.args.self.now.config.now c.args.conn c.in-Ok-serve_adopted.conn c.in-Ok-serve_adopted.report (streams (g.R.Read.remaining c.args.reader.now) (g.R.Read.remaining c.serve_adopted.new.reader) (g.W.Write.contents c.args.writer.now) (g.W.Write.contents c.serve_adopted.new.writer)) (serves_over g.D.Disk c.args.self.now.config.now c.args.conn c.in-Ok.adopted.0 c.in-Ok.ensures.adopted c.in-Ok-serve_adopted.conn c.in-Ok-serve_adopted.report (streams (g.R.Read.remaining c.args.reader.now) (g.R.Read.remaining c.serve_adopted.new.reader) (g.W.Write.contents c.args.writer.now) (g.W.Write.contents c.serve_adopted.new.writer)) c.in-Ok-serve_adopted.ensures.served) outcome it)
    c.finish.ensures.finished

pub returns-in-Ok-serve_adopted-clause-not_served_clean : goal.returns-in-Ok-serve_adopted-clause-not_served_clean
returns-in-Ok-serve_adopted-clause-not_served_clean g c =
    IfErr-weaker c.finish.result _ _
    (λ e it. unfinished_clean g.D.Disk c.args.self.now.config.now c.args.conn c.in-Ok-serve_adopted.conn c.in-Ok-serve_adopted.report (streams (g.R.Read.remaining c.args.reader.now) (g.R.Read.remaining c.serve_adopted.new.reader) (g.W.Write.contents c.args.writer.now) (g.W.Write.contents c.serve_adopted.new.writer)) (serves_over g.D.Disk c.args.self.now.config.now c.args.conn c.in-Ok.adopted.0 c.in-Ok.ensures.adopted c.in-Ok-serve_adopted.conn c.in-Ok-serve_adopted.report (streams (g.R.Read.remaining c.args.reader.now) (g.R.Read.remaining c.serve_adopted.new.reader) (g.W.Write.contents c.args.writer.now) (g.W.Write.contents c.serve_adopted.new.writer)) c.in-Ok-serve_adopted.ensures.served) e it)
    c.finish.ensures.unfinished

pub returns-in-Err-clause-not_served : goal.returns-in-Err-clause-not_served
returns-in-Err-clause-not_served g c was open_ =
    given_up g.D.Disk g.met.D.Disk.seen_may_stay c.one_state.ensures c.args.self.now.config.now (record { left = c.pending.ensures; runs = c.kept.ensures.run; pending = c.kept.ensures.pending }) was c.args.conn (λ clean. (open_ clean).0) (λ clean. (open_ clean).1)
    c.args.self.now.options.is_existing (streams (g.R.Read.remaining c.args.reader.now) (g.R.Read.remaining c.args.reader.now) (g.W.Write.contents c.args.writer.now) (g.W.Write.contents c.args.writer.now)) c.in-Err.refusal c.in-Err.conn c.leave.result c.leave.ensures (unserved_refused g.D.Disk c.args.self.now.config.now c.args.conn c.args.self.now.options.is_existing c.in-Err.refusal c.in-Err.conn c.in-Err.ensures.unserved) (refl, refl)

pub returns-in-Err-serve_adopted-clause-existing : goal.returns-in-Err-serve_adopted-clause-existing
returns-in-Err-serve_adopted-clause-existing g c =
    blank_asked g.D.Disk c.args.self.now.config.now c.args.conn c.args.self.now.options.is_existing c.in-Err-serve_adopted.refusal c.in-Err-serve_adopted.conn (refused_over g.D.Disk c.args.self.now.config.now c.args.conn c.in-Ok.adopted.0 c.in-Ok.ensures.adopted c.args.self.now.options.is_existing c.in-Err-serve_adopted.refusal c.in-Err-serve_adopted.conn c.in-Err-serve_adopted.ensures.refused)

pub returns-in-Err-serve_adopted-clause-not_served_clean : goal.returns-in-Err-serve_adopted-clause-not_served_clean
returns-in-Err-serve_adopted-clause-not_served_clean g c =
    given_up_clean g.D.Disk c.args.self.now.config.now c.args.conn c.args.self.now.options.is_existing c.in-Err-serve_adopted.refusal c.in-Err-serve_adopted.conn c.leave-in-Err-serve_adopted.result c.leave-in-Err-serve_adopted.ensures (refused_over g.D.Disk c.args.self.now.config.now c.args.conn c.in-Ok.adopted.0 c.in-Ok.ensures.adopted c.args.self.now.options.is_existing c.in-Err-serve_adopted.refusal c.in-Err-serve_adopted.conn c.in-Err-serve_adopted.ensures.refused)

pub returns-in-Err-serve_adopted-clause-not_served : goal.returns-in-Err-serve_adopted-clause-not_served
returns-in-Err-serve_adopted-clause-not_served g c was open_ =
    given_up g.D.Disk g.met.D.Disk.seen_may_stay c.one_state.ensures c.args.self.now.config.now (record { left = c.pending.ensures; runs = c.kept.ensures.run; pending = c.kept.ensures.pending }) was c.args.conn (λ clean. (open_ clean).0) (λ clean. (open_ clean).1)
    c.args.self.now.options.is_existing (streams (g.R.Read.remaining c.args.reader.now) (g.R.Read.remaining c.serve_adopted.new.reader) (g.W.Write.contents c.args.writer.now) (g.W.Write.contents c.serve_adopted.new.writer)) c.in-Err-serve_adopted.refusal c.in-Err-serve_adopted.conn c.leave-in-Err-serve_adopted.result c.leave-in-Err-serve_adopted.ensures
    (refused_over g.D.Disk c.args.self.now.config.now c.args.conn c.in-Ok.adopted.0 c.in-Ok.ensures.adopted c.args.self.now.options.is_existing c.in-Err-serve_adopted.refusal c.in-Err-serve_adopted.conn c.in-Err-serve_adopted.ensures.refused) (ap g.R.Read.remaining c.in-Err-serve_adopted.ensures.unread, ap g.W.Write.contents c.in-Err-serve_adopted.ensures.unwritten)
