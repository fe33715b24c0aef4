use Rattle.std.proofs.Common.{sym, subst}
use Rattle.sqlite.specs.Given.{IsPlain}
use Rattle.sqlite.specs.Listing.{understood}
use Rattle.csi_constraints.specs.Texts.{Volumes, text}
use Rattle.csi_constraints.proofs.TableLemmas.{is_sure, volume_rows}
use Rattle.csi_constraints.proofs.ScanLemmas.{looks_as}
use Rattle.csi_constraints.proofs.scans.scan_volumes.Goals as goal

pub each_row-requires : goal.each_row-requires
each_row-requires g c = record { plain = λ clean. subst (λ s. IsPlain (understood s (text Volumes))) (sym (c.requires.has_schema clean)) (is_sure Volumes).plain }

pub returns : goal.returns
returns g c = looks_as Volumes (is_sure Volumes) c.requires.has_schema (λ rows. volume_rows _ _ rows) c.each_row.ensures
