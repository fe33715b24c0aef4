-- A database of its first page alone holds no table.
use Rattle.std.proofs.Common.{◌≡◌, ◌<◌, ◌≤◌, List, refl, sym, subst, arith, ℕ, inl, inr, ◌∙◌, ◌-◌, ◌*◌, ◌==◌, Some, length, slice_index, ap, le-ltb, [], true}
use Rattle.std.proofs.lemmas.Bool.{eqb-true}
use Rattle.std.proofs.lemmas.List.Sums.{AllPass-from_list_all}
use Rattle.sqlite_wal.specs.Format.{part}
use Rattle.sqlite_wal.specs.PageSize.{size_in_file}
use Rattle.sqlite_wal.specs.Recovery.{AreWhole, Image, IsIgnored, pages_after}
use Rattle.sqlite_wal.proofs.AppendLemmas.{page_from_pages, some_value}
use Rattle.sqlite_wal.proofs.PartLemmas.{part_within}
use Rattle.sqlite_wal.proofs.RecoveryLemmas.{replays_once}
use Rattle.sqlite_pages.specs.PageMap.{PageMap}
use Rattle.sqlite_pool.specs.File.{in_use}
use Rattle.sqlite_pool.specs.Stored.{Adopts, reserved, stored_size}
use Rattle.sqlite_pool.specs.StoredLaws.{trimmed_whole}
use Rattle.sqlite_pool.proofs.ProbeLemmas.{not_blank, size_by_file}
use Rattle.sqlite_store.specs.Listed.{catalog_rows}
use Rattle.sqlite_store.specs.Listing.{IsOurs, file_trees}
use Rattle.sqlite_store.specs.Opening.{IsEmptyFile}
use Rattle.sqlite_store.proofs.BuildLemmas.{new_is_empty}
use Rattle.sqlite_trees.specs.Tree.{Trees}
use Rattle.sqlite_trees.specs.Sound.{is_sound_list}
use Rattle.sqlite_value.specs.Order.{Row}
use Rattle.sqlite_catalog.specs.Listing.{IsSound, Lists}
use Rattle.sqlite.specs.Files.{HoldsDatabase}
use Rattle.csi_sql.specs.Tables.{no_schema}
use Rattle.csi_files.specs.Files.{HoldsSealed}
use Rattle.csi_files.specs.Making.{IsMade, IsTorn, IsUnmade}

-- no rows list no table
none_listed : Lists [] no_schema
unfolding is_sound_list
none_listed = record { listed = record { tables = tt; indexes = tt; views = tt; owned = tt; named = tt; loads = refl }; guarded = tt }

-- the trees of a file without objects
abbrev trees_of : PageMap → Trees
trees_of = file_trees 1024 []

none_sound : (pages : PageMap) → IsSound no_schema (trees_of pages)
none_sound pages = record {
  lists = subst (λ (rows : List Row). Lists rows no_schema) (sym (catalog_rows 1024 [] (in_use 1024 pages))) none_listed;
  obeys = record { rules = λ rule. tt; indexed = tt };
}

-- files of one page hold an empty database
pub made_holds : (image : Image) → IsMade image → (db : Trees) × HoldsSealed image db × IsSound no_schema db
made_holds image (pages, found, new) =
    let file : IsEmptyFile 1024 pages = new_is_empty 1024 pages (subst (AreWhole 1024) found.shows (trimmed_whole 1024 found.stored found.whole)) new in
    let ours : IsOurs 1024 true [] pages = record { file = file.0; numbered = λ _. record { listed = file.1; spaced = refl; ordered = refl } } in (
      trees_of pages,
      (1024, (omega arith, omega arith, refl, refl), record { pages = pages; wanted = []; schema = no_schema; found = found; ours = ours; reads = refl; sound = none_sound pages }),
      none_sound pages,
    )

-- files that have no database yet hold none
pub unmade_holds_none : (image : Image) (db : Trees) → IsUnmade image → HoldsDatabase image db → ⊥
unmade_holds_none image db unmade (size, allowed, held) =
    let few : reserved size ≤ 8 = grind arith in
    not_blank size image held.pages held.found (omega (arith, allowed.0)) held.ours.file.sound 1024 (omega arith) unmade

-- without a log, the database file has at least one page
one_page_long : (size : ℕ) (image : Image) (pages : PageMap) (found : Adopts size image pages) → 504 ≤ size → IsIgnored image.log → stored_size size ≤ length image.db
one_page_long size image pages found large ignored =
    let whole = stored_size size in
    let raw = found.found in
    let none : raw.frames ≡ 0 = replays_once whole image.log raw.frames 0 raw.replays (inl (ignored, refl)) in
    let (page, is) = some_value (found.stored 1) found.whole.first in
    let alone : pages_after whole image.log image.db 0 1 ≡ Some page = ap (λ (p : PageMap). p 1) (ap (pages_after whole image.log image.db) (sym none) ∙ raw.gives) ∙ is in
    let start : (1 - 1) * whole ≡ 0 = omega arith in
    let front : part image.db 0 whole ≡ page = ap (λ (at : ℕ). part image.db at whole) (sym start) ∙ (page_from_pages whole image.log image.db 0 1 page alone).0 in
    let inside = part_within image.db 0 whole (omega arith) (ap length front ∙ found.whole.sized 1 page is) in
    omega (arith, inside)

-- a torn first page holds no database: zero bytes name no page size, and its own bytes name a size that is
-- longer than they are
pub torn_holds_none : (image : Image) (db : Trees) → IsTorn image → HoldsDatabase image db → ⊥
torn_holds_none image db (none, bytes) (size, allowed, held) =
    let few : reserved size ≤ 8 = grind arith in
    let large : 504 ≤ size = omega (arith, allowed.0) in
    let ignored : IsIgnored image.log = inl (omega (arith, none)) in
    let named : size_in_file image.db ≡ stored_size size = size_by_file size image held.pages held.found large held.ours.file.sound ignored in
    let long : stored_size size ≤ length image.db = one_page_long size image held.pages held.found large ignored in
    elim bytes.part [
      | inl zero' ↦
          let at : (i : ℕ) → i < length image.db → slice_index image.db i ≡ 0 = λ i below. eqb-true (slice_index image.db i) 0 (AllPass-from_list_all (λ b. b == 0) image.db zero' i 0 below) in
          let is : size_in_file image.db ≡ 0 = rw (le-ltb (length image.db) 18 (omega (arith, long, large)), at 16 (omega (arith, long, large)), at 17 (omega (arith, long, large))) refl in
          omega (arith, is, named, large)
      | inr (short, begins) ↦
          let first : slice_index image.db 16 ≡ 4 = begins 16 (omega (arith, long, large)) in
          let second : slice_index image.db 17 ≡ 0 = begins 17 (omega (arith, long, large)) in
          let is : size_in_file image.db ≡ 1024 = rw (le-ltb (length image.db) 18 (omega (arith, long, large)), first, second) refl in
          omega (arith, is, named, long, short)
    ]
