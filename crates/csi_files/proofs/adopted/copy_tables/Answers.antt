use Rattle.std.proofs.Common.{sym, subst, subst₂}
use Rattle.csi_keeper.specs.Keeper.{IsQuiet}
use Rattle.csi_tables.specs.Keeping.{tables_model}
use Rattle.csi_through.specs.Copying.{IsWhy}
use Rattle.csi_files.specs.Adopted.{IsCopied}
use Rattle.csi_files.proofs.adopted.copy_tables.Goals as goal

pub returns-in-Ok-copied-clause-opens : goal.returns-in-Ok-copied-clause-opens
returns-in-Ok-copied-clause-opens g c =
    subst (λ t. IsCopied g.S.Store t c.in-Ok-copied.through) c.for_copy-reserved.ensures.tables c.in-Ok-copied.ensures.opens

pub returns-in-Err-clause-uncopied : goal.returns-in-Err-clause-uncopied
returns-in-Err-clause-uncopied g c = (
  subst₂ (λ first last. IsQuiet (tables_model g.S.Store first) (tables_model g.S.Store last)) c.for_copy-reserved.ensures.tables (sym c.into_tables.ensures) c.in-Err.ensures.stays,
  subst₂ (λ first last. IsWhy (tables_model g.S.Store first) (tables_model g.S.Store last) c.in-Err.field-0.fault) c.for_copy-reserved.ensures.tables (sym c.into_tables.ensures) c.in-Err.ensures.why,
)
