use Rattle.csi_sql.specs.Refusing.{RefusesNext}
use Rattle.csi_sql.specs.Effects.{SetsNext}
use Rattle.csi_change_store.specs.Pages.{Meta}
use Rattle.csi_change_store.proofs.PagesLemmas.{puts_err}
use Rattle.csi_change_store.proofs.pages.put_meta.Goals as goal

pub returns-in-Err-clause-puts : goal.returns-in-Err-clause-puts
returns-in-Err-clause-puts g c =
    puts_err (Meta (record { format = c.args.format; next = c.args.next })) (SetsNext c.args.next) (RefusesNext c.args.next) c.in-Err.error c.fault_of.result (λ s why h. h) c.in-Err.ensures.runs c.fault_of.ensures
