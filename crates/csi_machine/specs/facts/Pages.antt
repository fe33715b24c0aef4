-- Pages without volumes.
use Rattle.std.proofs.Common.{◌∙◌, ap, refl, sym, ℕ, List, [], ◌++◌, append-nil}
use Rattle.pbmessage.specs.Kept.{Keeps}
use Rattle.csi_codec.specs.facts.Listing.{listing_none}
use Rattle.csi_machine.specs.Pages.{HasWritten}
use Rattle.csi_machine.specs.Places.{ArePlaced}
use Rattle.csi_machine.specs.declared.page.Page.{Page}

pub written_none : (page : Page) → ArePlaced page.config.now page.places.items → HasWritten page [] page
written_none page placed = record {
  config = refl;
  placed = placed;
  last = refl;
  body = sym (ap (λ (bs : List ℕ). page.body.items ++ bs) listing_none ∙ append-nil page.body.items);
}

pub body_stays : (page : Page) → Keeps page.body.items page.body.items
body_stays page = record { tail = []; is = sym (append-nil page.body.items) }
