use Rattle.std.proofs.Common.{sym, subst}
use Rattle.sqlite.specs.Given.{IsPlain}
use Rattle.sqlite.specs.Listing.{understood}
use Rattle.csi_constraints.specs.Texts.{Meta, text}
use Rattle.csi_constraints.proofs.TableLemmas.{is_sure, meta_rows}
use Rattle.csi_constraints.proofs.ScanLemmas.{looks_as}
use Rattle.csi_constraints.proofs.scans.scan_meta.Goals as goal

pub each_row-requires : goal.each_row-requires
each_row-requires g c = record { plain = λ clean. subst (λ s. IsPlain (understood s (text Meta))) (sym (c.requires.has_schema clean)) (is_sure Meta).plain }

pub returns : goal.returns
returns g c = looks_as Meta (is_sure Meta) c.requires.has_schema (λ rows. meta_rows _ _ rows) c.each_row.ensures
