use Rattle.std.proofs.Common.{Err}
use Rattle.csi_sql.specs.Making.{RefusesTables}
use Rattle.csi_sql.specs.Tables.{volumes_text, attachments_text, first_text}
use Rattle.csi_sql.proofs.AfterLemmas.{runs_after, runs_handed, runs_weaker}
use Rattle.csi_sql.proofs.CreateLemmas.{has_no_row}
use Rattle.csi_sql.proofs.SureLemmas.{attachments_sure, meta_sure, never_refused, volumes_sure}
use Rattle.csi_sql.proofs.making.create_tables.Goals as goal

pub returns-in_err-make-clause-runs : goal.returns-in_err-make-clause-runs
returns-in_err-make-clause-runs g c =
    let one = runs_weaker {R = RefusesTables} (Err c.in_err-make.field-0.0) (λ s e has why. absurd (never_refused meta_sure s e has why)) c.in_err-make.ensures.runs in
    runs_handed c.from_residual.result one c.from_residual.ensures.1

pub returns-in_err-make-2-clause-runs : goal.returns-in_err-make-2-clause-runs
returns-in_err-make-2-clause-runs g c =
    let two = runs_after c.in_ok-make.ensures.runs (λ old new h. h.schema) volumes_text RefusesTables (Err c.in_err-make-2.field-0.0)
    (λ s db e is_open made why. absurd (never_refused volumes_sure (record s { now = db }) e made.schema why)) c.in_err-make-2.ensures.runs in
    runs_handed c.from_residual-in_err-make-2.result two c.from_residual-in_err-make-2.ensures.1

pub returns-in_err-make-3-clause-runs : goal.returns-in_err-make-3-clause-runs
returns-in_err-make-3-clause-runs g c =
    let two = runs_after c.in_ok-make.ensures.runs (λ old new h. h.schema) volumes_text RefusesTables _
    (λ s db e is_open made why. absurd (never_refused volumes_sure (record s { now = db }) e made.schema why)) c.in_ok-make-2.ensures.runs in
    let three = runs_after two (λ old new h. h.2.schema) attachments_text RefusesTables (Err c.in_err-make-3.field-0.0)
    (λ s db e is_open made why. absurd (never_refused attachments_sure (record s { now = db }) e made.2.schema why)) c.in_err-make-3.ensures.runs in
    runs_handed c.from_residual-in_err-make-3.result three c.from_residual-in_err-make-3.ensures.1

pub returns-in_err-make-4-clause-runs : goal.returns-in_err-make-4-clause-runs
returns-in_err-make-4-clause-runs g c =
    let two = runs_after c.in_ok-make.ensures.runs (λ old new h. h.schema) volumes_text RefusesTables _
    (λ s db e is_open made why. absurd (never_refused volumes_sure (record s { now = db }) e made.schema why)) c.in_ok-make-2.ensures.runs in
    let three = runs_after two (λ old new h. h.2.schema) attachments_text RefusesTables _
    (λ s db e is_open made why. absurd (never_refused attachments_sure (record s { now = db }) e made.2.schema why)) c.in_ok-make-3.ensures.runs in
    let four = runs_after three (λ old new h. h.2.schema) first_text RefusesTables (Err c.in_err-make-4.field-0.0)
    (λ s db e is_open made why. (is_open, db, has_no_row made.1.1 made.1.2 made.2, why)) c.in_err-make-4.ensures.runs in
    runs_handed c.from_residual-in_err-make-4.result four c.from_residual-in_err-make-4.ensures.1
