use Rattle.std.proofs.Common.{◌∙◌, inl, inr, sym, subst₂, true≢false}
use Rattle.csi_files.specs.Adopted.{IsUncopied}
use Rattle.csi_files.proofs.adopted.source_of.Goals as goal

pub returns-in-NoMemory-clause-source : goal.returns-in-NoMemory-clause-source
returns-in-NoMemory-clause-source g c =
    inr (c.if-run.false, subst₂ (λ mid fault. IsUncopied g.S.Store c.args.tables mid fault) (sym c.new-in-NoMemory.ensures.tables) c.in-NoMemory.is c.in-Err.ensures.uncopied)

pub returns-in-Refused : goal.returns-in-Refused
returns-in-Refused g c = record {
  source = tt;
  refused = (
    record { last = c.in-Err.error.keeper; quiet = c.in-Err.ensures.uncopied.0; back_is = c.give_back.ensures },
    elim c.in-Refused.is [
      | inl refused ↦ refused
      | inr down ↦ absurd (true≢false (sym (c.in-Err.ensures.uncopied.1.down.0 down) ∙ c.requires.fresh.1))
    ],
  );
}
