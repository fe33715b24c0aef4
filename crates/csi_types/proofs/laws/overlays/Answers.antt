use Rattle.csi_types.proofs.OverlayLemmas.{get_laid, laid_again, laid_has, laid_kept}
use Rattle.csi_types.proofs.laws.overlays.Goals as goal

pub returns : goal.returns
returns c = record { values = get_laid; given = laid_has; kept = laid_kept; again = laid_again }
