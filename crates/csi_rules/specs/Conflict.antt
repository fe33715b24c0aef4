-- Attachments of one volume that cannot exist together.
use Rattle.std.specs.Prelude.{not, Bool, List}
use Rattle.std.specs.List.{list_any}
use Rattle.csi_keeper.specs.Coexistence.{coexist}
use Rattle.csi_keeper.specs.declared.volume.Attachment.{Attachment}

-- some attachment can't coexist with mine
abbrev pub has_conflict : Attachment → List Attachment → Bool
has_conflict mine attachments = list_any (λ a. not (coexist a mine)) attachments
