-- From the pages of a log to the contents of the files after the log was copied.
use Rattle.std.proofs.Common.{◌≡◌, ◌∙◌, ℕ, List, Option, Some, length, [], IsTrue, inl, inr, refl, sym, ap, ap₂, subst, arith}
use Rattle.std.proofs.lemmas.Bool.{cases_eq}
use Rattle.sqlite_disk.specs.declared.Disk.{Ghosts}
use Rattle.sqlite_disk.specs.declared.Files.{Files}
use Rattle.sqlite_wal.specs.Files.{outcomes}
use Rattle.sqlite_wal.specs.Format.{be32}
use Rattle.sqlite_wal.specs.Log.{files, state}
use Rattle.sqlite_wal.specs.PageSize.{Names, bytes_of, size_in_file}
use Rattle.sqlite_wal.specs.Reads.{AreClean, OnlyReads}
use Rattle.sqlite_wal.specs.Recovery as raw
use Rattle.sqlite_wal.specs.Recovery.{Image, IsIgnored, pages_after}
use Rattle.sqlite_wal.specs.State.{Keeps}
use Rattle.sqlite_wal.specs.declared.log.Log.{Log}
use Rattle.sqlite_wal.specs.declared.page_size.PageSize.{PageSize}
use Rattle.sqlite_wal.proofs.CleanLemmas.{both_clean}
use Rattle.sqlite_wal.proofs.FileLemmas.{pages_without_frames}
use Rattle.sqlite_wal.proofs.RecoveryLemmas.{replays_once}
use Rattle.sqlite_wal.proofs.StateLemmas.{AddsNothing-trans}
use Rattle.sqlite_pool.specs.Stored.{Recovers, stored_size}
use Rattle.sqlite.specs.Files.{NamesSize, image_of}
use Rattle.csi_files.specs.Copying.{CopiesLog, IsMoved, KeepsPages, LeavesLog}

-- ---- the log

module _ {D : Type 0} {g : Ghosts D} where
  -- the log was recovered, and then copied
  pub copied_log : (old mid new : Log D g) → (state mid).page_size ≡ (state old).page_size → (IsTrue (state mid).is_clean → IsTrue (state old).is_clean)
      → raw.AddsNothing (state old).page_size (state old).may_leave (state mid).may_leave → Keeps (state mid) (state new) → CopiesLog old new
  copied_log old mid new size honest crash keeps = record {
    clean = λ clean. honest (keeps.stays.clean clean);
    crash = AddsNothing-trans _ _ _ _ crash (subst (λ (n : ℕ). raw.AddsNothing n (state mid).may_leave (state new).may_leave) size keeps.crash);
  }

  pub leaves_log : (log last : Log D g) (after : Files D) → CopiesLog log last → (after.log, after.db) ≡ files last → LeavesLog log after
  leaves_log log last after it same = record {
    clean = λ clean. it.clean (subst (λ (p : D × D). AreClean g p.0 p.1) same clean);
    crash = λ clean image may. it.crash image (subst (λ (p : D × D). AreClean g p.0 p.1) same clean, subst (λ (p : D × D). outcomes g p.0 p.1 image) same may);
  }

  pub ready_usable : (last : Log D g) (after : Files D) → (after.log, after.db) ≡ files last → IsTrue (state last).is_ready → IsTrue (g.is_usable after.log) × IsTrue (g.is_usable after.db)
  ready_usable last after same ready = subst (λ (p : D × D). IsTrue (g.is_usable p.0) × IsTrue (g.is_usable p.1)) (sym same) (last.log_usable ready, last.db_usable ready)

  pub short_ignored : (last : Log D g) (after : Files D) → (after.log, after.db) ≡ files last → length (g.seen last.log) ≡ 41 → IsIgnored (g.seen after.log)
  short_ignored last after same short =
      let is : length (g.seen after.log) ≡ 41 = ap (λ (p : D × D). length (g.seen p.0)) same ∙ short in
      inl (omega (arith, is))

-- ---- the files

-- files name only one size
pub same_named : (image : Image) (m n : ℕ) → NamesSize image m → NamesSize image n → m ≡ n
same_named image m n a b =
    elim (cases_eq m n) [
      | inl same ↦ same
      | inr other ↦
          let read = λ (seen : ¬ IsIgnored image.log). other (a.0 seen ∙ sym (b.0 seen)) in
          absurd (read (λ ignored. other (a.1 ignored ∙ sym (b.1 ignored))))
    ]

-- the size that was found is the size that the files name
pub same_size : (image : Image) (found : Option PageSize) → (¬ IsIgnored image.log → Names found (be32 image.log 8)) → (IsIgnored image.log → Names found (size_in_file image.db))
    → (chosen : PageSize) → found ≡ Some chosen → (n : ℕ) → NamesSize image n → bytes_of chosen ≡ n
same_size image found by_log by_file chosen is n names =
    let named : NamesSize image (bytes_of chosen) = (λ seen. (rw is at (by_log seen)).1, λ ignored. (rw is at (by_file ignored)).1) in
    same_named image (bytes_of chosen) n named names

module _ {D : Type 0} (g : Ghosts D) (before mid : Files D) (log : OnlyReads g before.log mid.log) (db : OnlyReads g before.db mid.db) where
  -- the files were only looked at
  pub looked_keeps : KeepsPages g before mid
  looked_keeps = record {
    clean = λ clean. both_clean _ _ _ _ log.clean db.clean clean;
    crash = λ clean size names image may. (image, (log.crash image.log may.0, db.crash image.db may.1), λ pages was. was);
  }

  same_seen : image_of g mid ≡ image_of g before
  same_seen = ap₂ (λ (a b : List ℕ). let i : Image = record { log = a; db = b } in i) log.seen db.seen

  -- the files were looked at, and then copied
  pub looked_first : (after : Files D) → KeepsPages g mid after → KeepsPages g before after
  looked_first after it = record {
    clean = λ clean. looked_keeps.clean (it.clean clean);
    crash = λ clean size names image may.
        let (old, was, same) = it.crash clean size (subst (λ (i : Image). NamesSize i (stored_size size)) (sym same_seen) names) image may in
        (old, (log.crash old.log was.0, db.crash old.db was.1), same);
  }

  pub looked_moved : (after : Files D) → IsMoved g mid after → IsMoved g before after
  looked_moved after it = record { keeps = looked_first after it.keeps; ignored = it.ignored; usable = it.usable }

  -- the files were copied by a log with the size that was found in them
  pub log_keeps : (found : Option PageSize) → (AreClean g mid.log mid.db → ¬ IsIgnored (g.seen before.log) → Names found (be32 (g.seen before.log) 8))
      → (AreClean g mid.log mid.db → IsIgnored (g.seen before.log) → Names found (size_in_file (g.seen before.db)))
      → (chosen : PageSize) → found ≡ Some chosen → (it : Log D g) → files it ≡ (mid.log, mid.db) → (state it).page_size ≡ bytes_of chosen
      → (after : Files D) → LeavesLog it after → KeepsPages g before after
  log_keeps found by_log by_file chosen is it same sized after leaves = record {
    clean = λ clean. looked_keeps.clean (honest clean);
    crash = λ clean size names image may.
        let (old, was, alike) = leaves.crash clean image may in
        let then = subst (λ (p : D × D). outcomes g p.0 p.1 old) same was.1 in
        let pages : (state it).page_size ≡ stored_size size = sized ∙ same_size (image_of g before) found (by_log (honest clean)) (by_file (honest clean)) chosen is (stored_size size) names in
        (old, (log.crash old.log then.0, db.crash old.db then.1), subst (λ (n : ℕ). raw.RecoversAs n old image) pages alike);
  }
    where
      honest : AreClean g after.log after.db → AreClean g mid.log mid.db
      honest clean = subst (λ (p : D × D). AreClean g p.0 p.1) same (leaves.clean clean)

-- if the WAL is ignored, the database file alone has the contents of both
pub stands_alone : (size : ℕ) (image : Image) (pages : _) → IsIgnored image.log → Recovers size image pages → Recovers size (record image { log = [] }) pages
stands_alone size image pages ignored was =
    let found = was.found in
    let none : found.frames ≡ 0 = replays_once (stored_size size) image.log found.frames 0 found.replays (inl (ignored, refl)) in
    record {
      stored = was.stored;
      found = record {
        frames = 0;
        replays = inl (inl (omega arith), refl);
        present = found.present;
        gives = pages_without_frames (stored_size size) [] image.log image.db ∙ ap (pages_after (stored_size size) image.log image.db) (sym none) ∙ found.gives;
      };
      whole = was.whole;
      sealed = was.sealed;
      shows = was.shows;
      present = was.present;
    }
