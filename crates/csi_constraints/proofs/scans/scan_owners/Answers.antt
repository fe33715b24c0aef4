use Rattle.std.proofs.Common.{sym, subst}
use Rattle.sqlite.specs.Given.{IsPlain}
use Rattle.sqlite.specs.Listing.{understood}
use Rattle.csi_constraints.specs.Texts.{Owners, text}
use Rattle.csi_constraints.proofs.JoinLemmas.{owner_rows}
use Rattle.csi_constraints.proofs.TableLemmas.{is_sure}
use Rattle.csi_constraints.proofs.ScanLemmas.{looks_as}
use Rattle.csi_constraints.proofs.scans.scan_owners.Goals as goal

pub each_row-requires : goal.each_row-requires
each_row-requires g c = record { plain = λ clean. subst (λ s. IsPlain (understood s (text Owners))) (sym (c.requires.has_schema clean)) (is_sure Owners).plain }

pub returns : goal.returns
returns g c = looks_as Owners (is_sure Owners) c.requires.has_schema (λ rows. owner_rows _ _ rows) c.each_row.ensures
