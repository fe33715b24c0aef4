-- From the pages of files to the files.
use Rattle.std.proofs.Common.{◌≡◌, ◌∙◌, ℕ, List, IsTrue, length, inl, inr, refl, sym, ap, ap₂, subst, subst₂, arith, ◌+◌, slice_index, ext_get_or, drop, length-drop}
use Rattle.sqlite_disk.specs.Disk.{Holds}
use Rattle.sqlite_disk.specs.declared.Disk.{Ghosts}
use Rattle.sqlite_disk.specs.declared.Files.{Files}
use Rattle.sqlite_wal.specs.Files.{outcomes, seen_image}
use Rattle.sqlite_wal.specs.Reads.{AreClean, OnlyReads}
use Rattle.sqlite_wal.specs.Recovery.{Image}
use Rattle.sqlite_wal.proofs.CleanLemmas.{both_clean}
use Rattle.sqlite_wal.proofs.LogLemmas.{SeenMayStay}
use Rattle.sqlite_pages.specs.Outcome.{End, IsExcused}
use Rattle.sqlite_pages.specs.declared.error.Error.{Error}
use Rattle.sqlite_pages.specs.declared.error.Error.TheVariants.{Corrupt}
use Rattle.sqlite_pool.specs.Backing.{FailsUnless}
use Rattle.sqlite_pool.specs.Opening.{CreatesAtMostNew, IsBlankFile, IsNew, image}
use Rattle.sqlite_pool.specs.Header.{first_page}
use Rattle.sqlite_pool.specs.Pool.{IsClean, files, state}
use Rattle.sqlite_pool.specs.Stored.{Recovers, sealed}
use Rattle.sqlite_pool.specs.declared.pool.Pool.{Pool}
use Rattle.sqlite_pool.proofs.StateLemmas.{clean_is, may_leave_is, seen_may_be_left, settled}
use Rattle.sqlite.specs.Files.{image_of}
use Rattle.csi_files.specs.Making.{AreAsBefore, IsCreated, IsLaidOut, IsLarger, IsMade, IsNotCreated, IsNotLaidOut, IsToMake, IsTorn, IsUnmade}

module _ {D : Type 0} (g : Ghosts D) (it : Pool D g) (pair : Files D) (same : files it ≡ (pair.log, pair.db)) where
  pub clean_in : AreClean g pair.log pair.db → IsTrue (state it).is_clean
  clean_in clean = subst IsTrue (sym (clean_is it)) (subst (λ (p : D × D). AreClean g p.0 p.1) (sym same) clean)

  pub clean_out : IsTrue (state it).is_clean → AreClean g pair.log pair.db
  clean_out clean = subst (λ (p : D × D). AreClean g p.0 p.1) same (subst IsTrue (clean_is it) clean)

  pub left_in : (left : Image) → AreClean g pair.log pair.db → outcomes g pair.log pair.db left → (state it).may_leave left
  left_in left clean may =
      let back = sym same in
      may_leave_is it left (subst (λ (p : D × D). AreClean g p.0 p.1) back clean) (subst (λ (p : D × D). outcomes g p.0 p.1 left) back may)

  pub left_out : (left : Image) → (state it).may_leave left → outcomes g pair.log pair.db left
  unfolding state files
  left_out left may = subst (λ (p : D × D). outcomes g p.0 p.1 left) same may.1

  pub image_is : image it ≡ image_of g pair
  image_is = ap (λ (p : D × D). seen_image g p.0 p.1) same

module _ {D : Type 0} (g : Ghosts D) (old new : Pool D g) (before after : Files D) (from : files old ≡ (before.log, before.db)) (to : (after.log, after.db) ≡ files new)
    (size : (state old).page_size ≡ 1024) (honest : IsTrue (state new).is_clean → IsTrue (state old).is_clean) where
  clean_kept : AreClean g after.log after.db → AreClean g before.log before.db
  clean_kept clean = clean_out g old before from (honest (clean_in g new after (sym to) clean))

  was_unmade : IsBlankFile (state old).page_size (image old) → IsUnmade (image_of g before)
  was_unmade blank = subst₂ (λ (n : ℕ) (i : Image). IsBlankFile n i) size (image_is g old before from) blank

  unmade_was : IsUnmade (image_of g before) → IsBlankFile (state old).page_size (image old)
  unmade_was unmade = subst₂ (λ (n : ℕ) (i : Image). IsBlankFile n i) (sym size) (sym (image_is g old before from)) unmade

  module _ (there : IsTrue (state new).is_clean → ¬ IsBlankFile (state old).page_size (image old) → image new ≡ image old)
      (untouched : ¬ IsBlankFile (state old).page_size (image old) → (left : Image) → (state new).may_leave left → (state old).may_leave left) where
    kept : AreClean g after.log after.db → ¬ IsUnmade (image_of g before) → AreAsBefore g before after
    kept clean something =
        let none : ¬ IsBlankFile (state old).page_size (image old) = λ blank. something (was_unmade blank) in
        record {
          seen = sym (image_is g new after (sym to)) ∙ there (clean_in g new after (sym to) clean) none ∙ image_is g old before from;
          crash = λ left may. left_out g old before from left (untouched none left (left_in g new after (sym to) left clean may));
        }

    -- whatever the outcome, the database was not made, or was made in part or in full
    pub not_created : CreatesAtMostNew old new → IsNotCreated g before after
    not_created crash = record {
      clean = clean_kept;
      kept = kept;
      crash = λ clean left may. elim (crash left (left_in g new after (sym to) left clean may)) [
        | inl was ↦ inl (left_out g old before from left was)
        | inr other ↦ inr (elim other [
          | inl blank ↦ inl (subst (λ (n : ℕ). IsBlankFile n left) size blank)
          | inr made ↦ inr (made.0, subst (λ (n : ℕ). Recovers n left made.0) size made.1, subst (λ (n : ℕ). IsNew n made.0) size made.2)
        ])
      ];
    }

    -- the making was refused, because the files hold something
    pub left_alone : IsTrue (g.is_usable after.log) × IsTrue (g.is_usable after.db) → (IsTrue (state new).is_clean → ¬ IsBlankFile (state old).page_size (image old)) → IsCreated g before after
    left_alone usable something = record {
      clean = clean_kept;
      usable = usable;
      made = λ clean unmade left may. absurd (something (clean_in g new after (sym to) clean) (unmade_was unmade));
      shown = λ clean unmade. absurd (something (clean_in g new after (sym to) clean) (unmade_was unmade));
      kept = kept;
    }

    -- the database was made
    pub created : SeenMayStay g → IsTrue (g.is_usable after.log) × IsTrue (g.is_usable after.db) → (state new).page_size ≡ (state old).page_size
        → (IsTrue (state new).is_clean → IsClean new) → (IsTrue (state new).is_clean → IsNew (state old).page_size (state new).committed) → IsCreated g before after
    created stays usable same is_open made = record {
      clean = clean_kept;
      usable = usable;
      made = λ clean _ left may. is_made clean left (left_in g new after (sym to) left clean may);
      shown = λ clean _. subst IsMade (image_is g new after (sym to)) (is_made clean (image new) (seen_may_be_left new stays (clean_in g new after (sym to) clean)));
      kept = kept;
    }
      where
        is_made : AreClean g after.log after.db → (left : Image) → (state new).may_leave left → IsMade left
        is_made clean left may =
            let sure : IsTrue (state new).is_clean = clean_in g new after (sym to) clean in
            let found = (settled new stays (is_open sure).is_open).durable left may in (
              (state new).committed,
              subst (λ (n : ℕ). Recovers n left (state new).committed) (same ∙ size) found,
              subst (λ (n : ℕ). IsNew n (state new).committed) size (made sure),
            )

-- nothing was done to the files
pub as_it_was : {D : Type 0} (g : Ghosts D) (pair : Files D) → IsNotCreated g pair pair
as_it_was g pair = record { clean = λ clean. clean; kept = λ clean some. record { seen = refl; crash = λ left may. may }; crash = λ clean left may. inl may }

-- the making was refused because the files hold something
pub refused : (a : ℕ) (end : End) (Wanted : Type 0) (e : Error) → e ≡ Corrupt → FailsUnless a end Wanted e → ¬ Wanted
refused a end Wanted e is (inl excused) = let never = subst (IsExcused a end) is excused in absurd never
refused a end Wanted e is (inr why) = why.1

-- files that were only looked at are as before
module _ {D : Type 0} (g : Ghosts D) (before mid : Files D) (log : OnlyReads g before.log mid.log) (db : OnlyReads g before.db mid.db) where
  pub looked_clean : AreClean g mid.log mid.db → AreClean g before.log before.db
  looked_clean clean = both_clean _ _ _ _ log.clean db.clean clean

  pub same_image : image_of g mid ≡ image_of g before
  same_image = ap₂ (λ (a b : List ℕ). let i : Image = record { log = a; db = b } in i) log.seen db.seen

  pub looked_at : AreAsBefore g before mid
  looked_at = record { seen = same_image; crash = λ left may. (log.crash left.log may.0, db.crash left.db may.1) }

  as_before : (after : Files D) → AreAsBefore g mid after → AreAsBefore g before after
  as_before after it = record { seen = it.seen ∙ same_image; crash = λ left may. looked_at.crash left (it.crash left may) }

  pub looked_first : (after : Files D) → IsLaidOut g mid after → IsLaidOut g before after
  looked_first after it = record {
    clean = λ clean. looked_clean (it.clean clean);
    usable = it.usable;
    made = λ clean wanted. it.made clean (subst IsToMake (sym same_image) wanted);
    shown = λ clean wanted. it.shown clean (subst IsToMake (sym same_image) wanted);
    kept = λ clean none. as_before after (it.kept clean (λ wanted. none (subst IsToMake same_image wanted)));
  }

  pub looked_then : (after : Files D) → IsNotLaidOut g mid after → IsNotLaidOut g before after
  looked_then after it = record {
    clean = λ clean. looked_clean (it.clean clean);
    kept = λ clean none. as_before after (it.kept clean (λ wanted. none (subst IsToMake same_image wanted)));
    crash = λ clean whole left may. elim (it.crash clean (λ torn. whole (subst IsTorn same_image torn)) left may) [ inl was ↦ inl (looked_at.crash left was) | inr other ↦ inr other ];
  }

-- the log distinguishes a page that is being made from a page that a stop of an earlier release left
pub not_torn : (image : Image) → IsUnmade image → ¬ IsTorn image
not_torn image (inl empty) torn = omega (arith, empty, torn.1.some)
not_torn image (inr blank) torn = elim blank.1.1 [ inl short ↦ omega (arith, short, torn.1.some) | inr begun ↦ omega (arith, begun.0, torn.0) ]

-- from the files before, cleared if they were torn, to the files that the database was made in
module _ {D : Type 0} (g : Ghosts D) (before mid : Files D) (clean : AreClean g mid.log mid.db → AreClean g before.log before.db)
    (whole : AreClean g mid.log mid.db → ¬ IsTorn (image_of g before) → AreAsBefore g before mid) where
  kept_both : (after : Files D) → (AreClean g after.log after.db → AreClean g mid.log mid.db) → (AreClean g after.log after.db → ¬ IsUnmade (image_of g mid) → AreAsBefore g mid after)
      → AreClean g after.log after.db → ¬ IsToMake (image_of g before) → AreAsBefore g before after
  kept_both after sure kept now none =
      let first = whole (sure now) (λ torn. none (inr torn)) in
      let then = kept now (λ unmade. none (inl (subst IsUnmade first.seen unmade))) in
      record { seen = then.seen ∙ first.seen; crash = λ left may. first.crash left (then.crash left may) }

  module _ (cleared : AreClean g mid.log mid.db → IsTorn (image_of g before) → IsUnmade (image_of g mid)) where
    unmade_then : AreClean g mid.log mid.db → IsToMake (image_of g before) → IsUnmade (image_of g mid)
    unmade_then sure (inl unmade) = subst IsUnmade (sym (whole sure (not_torn _ unmade)).seen) unmade
    unmade_then sure (inr torn) = cleared sure torn

    pub cleared_first : (after : Files D) → IsCreated g mid after → IsLaidOut g before after
    cleared_first after it = record {
      clean = λ now. clean (it.clean now);
      usable = it.usable;
      made = λ now wanted. it.made now (unmade_then (it.clean now) wanted);
      shown = λ now wanted. it.shown now (unmade_then (it.clean now) wanted);
      kept = kept_both after it.clean it.kept;
    }

  pub cleared_then : (after : Files D) → IsNotCreated g mid after → IsNotLaidOut g before after
  cleared_then after it = record {
    clean = λ now. clean (it.clean now);
    kept = kept_both after it.clean it.kept;
    crash = λ now none left may. elim (it.crash now left may) [ inl was ↦ inl ((whole (it.clean now) none).crash left was) | inr other ↦ inr other ];
  }

  -- the files were not cleared to the end
  pub not_cleared : IsNotLaidOut g before mid
  not_cleared = record { clean = clean; kept = λ now none. whole now (λ torn. none (inr torn)); crash = λ now none left may. inl ((whole now none).crash left may) }

-- bytes read from the start are the whole file, if the lengths are equal
pub whole_file : (file bytes : List ℕ) → Holds file 0 bytes → length bytes ≡ length file → bytes ≡ file
whole_file file bytes held same = ext_get_or 0 bytes file same (λ i below. let at : 0 + i ≡ i = omega arith in sym (held.each i below) ∙ ap (slice_index file) at)

sealed_page : length (sealed (first_page 1024)) ≡ 1024
unfolding sealed first_page
sealed_page = refl

-- files longer than a page have a database, or no database may be made in them
pub larger_kept : (image : Image) → IsLarger image → ¬ IsToMake image
larger_kept image larger (inr torn) = omega (arith, larger, torn.1.fits)
larger_kept image larger (inl (inl empty)) = omega (arith, larger, empty)
larger_kept image larger (inl (inr blank)) = elim blank.1.0 [
  | inl short ↦ omega (arith, larger, short)
  | inr other ↦ elim other [
    | inl gate ↦ omega (arith, larger, gate.0, sealed_page)
    | inr rest ↦
        let same : length (drop 1 image.db) ≡ length (drop 1 (sealed (first_page 1024))) = ap length rest.0 in
        omega (arith, larger, same, sealed_page, length-drop 1 image.db, length-drop 1 (sealed (first_page 1024)))
  ]
]

-- the files were only looked at
pub larger_left : {D : Type 0} (g : Ghosts D) (before after : Files D) → OnlyReads g before.log after.log → OnlyReads g before.db after.db → (AreClean g after.log after.db → IsLarger (image_of g before)) → IsLaidOut g before after
larger_left g before after log db larger = record {
  clean = looked_clean g before after log db;
  usable = (log.usable, db.usable);
  made = λ clean wanted left may. absurd (larger_kept _ (larger clean) wanted);
  shown = λ clean wanted. absurd (larger_kept _ (larger clean) wanted);
  kept = λ clean none. looked_at g before after log db;
}
