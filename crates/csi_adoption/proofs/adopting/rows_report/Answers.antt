use Rattle.std.proofs.Common.{arith}
use Rattle.csi_adoption.proofs.StateFoundLemmas.{found_state, is_small, no_fault, no_meta_fault}
use Rattle.csi_adoption.proofs.adopting.rows_report.Goals as goal

pub returns-clause-found : goal.returns-clause-found
returns-clause-found c = λ db seen sound.
    found_state c.args.config.now (is_small c.args.config.now c.pool_bytes_whole.ensures.each c.node_volumes_few.ensures.bounded) (λ p has. omega (arith, c.pool_bytes_whole.ensures.each p has))
    c.volumes_found.ensures c.attachments_found.ensures c.totals_found.ensures db sound seen

pub returns-clause-no_meta_fault : goal.returns-clause-no_meta_fault
returns-clause-no_meta_fault c = λ db s rows invariant.
    no_meta_fault c.args.config.now (is_small c.args.config.now c.pool_bytes_whole.ensures.each c.node_volumes_few.ensures.bounded)
    c.volumes_pass.ensures c.meta_pass.ensures c.attachments_pass.ensures c.owners_pass.ensures c.places_pass.ensures db s rows invariant

pub returns-clause-no_fault : goal.returns-clause-no_fault
returns-clause-no_fault c = λ db s rows invariant.
    no_fault c.args.config.now (is_small c.args.config.now c.pool_bytes_whole.ensures.each c.node_volumes_few.ensures.bounded)
    c.volumes_pass.ensures c.meta_pass.ensures c.attachments_pass.ensures c.owners_pass.ensures c.places_pass.ensures db s rows invariant

pub returns-clause-new : goal.returns-clause-new
returns-clause-new c = c.first.ensures 1 (omega arith) (omega arith)
