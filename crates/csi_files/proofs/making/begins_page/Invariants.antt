use Rattle.std.proofs.Common.{◌≡◌, ◌<◌, ℕ}
use Rattle.std.specs.List.{slice_index}
use Rattle.csi_files.specs.Making.{page_byte}
use Rattle.csi_files.proofs.making.begins_page.Given as goal

-- the bytes that were looked at are the bytes of the page
abbrev pub invariant-loop-at : goal.invariant-loop-at
invariant-loop-at l = (i : ℕ) → i < l.at → slice_index l.bytes i ≡ page_byte i
