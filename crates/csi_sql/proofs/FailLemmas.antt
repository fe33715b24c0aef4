-- The facts about the texts that make the tables, found by computation.
use Rattle.std.proofs.Common.{refl, arith}
use Rattle.sqlite.specs.Listing.{understood}
use Rattle.sqlite_tied.specs.Compute.{everything}
use Rattle.csi_sql.specs.Making.{schema_before, step_text}
use Rattle.csi_sql.specs.declared.making.TableStatement.{TableStatement}
use Rattle.csi_sql.specs.declared.making.TableStatement.TheVariants as step
use Rattle.csi_sql.specs.facts.Failing.{IsAloneWrite}

-- the facts about each text that are computed under the tables before it
pub alone : (s : TableStatement) → IsAloneWrite (step_text s) 0 (understood (schema_before s) (step_text s))
unfolding understood everything
alone step.Meta = (omega arith, refl, refl, tt, refl)
alone step.Volumes = (omega arith, refl, refl, tt, refl)
alone step.Attachments = (omega arith, refl, refl, tt, refl)
alone step.First = (omega arith, refl, refl, tt, refl)
