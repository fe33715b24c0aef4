-- Files that were not opened, before a store was made of them, keep the State that they had.
use Rattle.std.proofs.Common.{◌≡◌, ◌≢◌, ◌≤◌, ◌⊎◌, ◌∙◌, ◌%◌, ℕ, List, Option, None, Some, option_map, take, IsTrue, inl, inr, refl, sym, ap, subst, arith, eq-eqb, take_all}
use Rattle.std.proofs.lemmas.Bool.{cases_Bool, cases_eq, ne_eqb}
use Rattle.std.proofs.Math.Logic.{∥∥₁_elim, ∥∥₁_map}
use Rattle.std.proofs.Math.Path.{fun_ext}
use Rattle.sqlite_disk.specs.declared.Disk.{Ghosts}
use Rattle.sqlite_disk.specs.declared.Files.{Files}
use Rattle.sqlite_wal.specs.Files.{outcomes}
use Rattle.sqlite_wal.specs.PageSize.{IsPageSize}
use Rattle.sqlite_wal.specs.Recovery as raw
use Rattle.sqlite_wal.specs.Recovery.{AreWhole, Image, Pages}
use Rattle.sqlite_wal.proofs.LogLemmas.{SeenMayStay}
use Rattle.sqlite_pages.specs.PageMap.{PageMap}
use Rattle.sqlite_pool.specs.Stored.{AreSealed, Recovers, StandsAs, is_among, is_summed, reserved, resealed, sealed, stored_size}
use Rattle.sqlite_pool.specs.StoredLaws.{carried}
use Rattle.sqlite_pool.proofs.ProbeLemmas.{reserved_word}
use Rattle.sqlite_pool.proofs.ResealLemmas.{adopts_of}
use Rattle.sqlite_pool.proofs.StateLemmas.{clean_is, may_leave_is}
use Rattle.sqlite_store.specs.declared.store.open.Unopened.{Unopened}
use Rattle.sqlite_store.specs.Unopened.{files_of, state_of}
use Rattle.sqlite_trees.specs.Tree.{Trees}
use Rattle.sqlite.specs.Closing.{files_left}
use Rattle.sqlite.specs.Files.{IsCleanLeft, IsKept, LeavesFiles, NamesSize, SaysSums, image_of}
use Rattle.sqlite.specs.Opening.{HoldsAt}
use Rattle.sqlite.specs.declared.file.Leftover.{Leftover}
use Rattle.sqlite.specs.declared.file.Leftover.TheVariants as leftover
use Rattle.sqlite.proofs.FileLemmas.{is_something}
use Rattle.csi_keeper.specs.State.{State}
use Rattle.csi_files.specs.Files.{HasState, HoldsSealed}
use Rattle.csi_files.specs.Starting.{IsStoreless}
use Rattle.csi_files.proofs.CopyLemmas.{same_named}
use Rattle.csi_files.proofs.LeaveLemmas.{database_of, names_size}

-- ---- existing checksums are not changed

again_sealed : (other size : ℕ) (stored : Pages) → AreWhole (stored_size size) stored → stored_size other ≡ stored_size size → AreSealed size stored → (other ≡ size) ⊎ (other % 16 ≢ 8)
    → (n : ℕ) (bytes : List ℕ) → stored n ≡ Some bytes → bytes ≡ sealed (take other bytes)
unfolding sealed
again_sealed other size stored whole same all (inl is) n bytes at = subst (λ (m : ℕ). bytes ≡ sealed (take m bytes)) (sym is) (all n bytes at)
again_sealed other size stored whole same all (inr plain) n bytes at =
    let own : stored_size other ≡ other = rw (ne_eqb _ 8 plain) (omega arith) in
    let len = whole.sized n bytes at ∙ sym same ∙ own in
    rw (take_all other bytes (omega arith), len, ne_eqb _ 8 plain)

still : (other : ℕ) (page : Option (List ℕ)) → ((bytes : List ℕ) → page ≡ Some bytes → bytes ≡ sealed (take other bytes)) → option_map (λ bytes. sealed (take other bytes)) page ≡ page
still other None is = refl
still other (Some bytes) is = ap Some (sym (is bytes refl))

none_resealed : (other : ℕ) (numbers : List ℕ) (stored : Pages) → ((n : ℕ) (bytes : List ℕ) → stored n ≡ Some bytes → bytes ≡ sealed (take other bytes)) → resealed other numbers stored ≡ stored
unfolding resealed
none_resealed other numbers stored is = fun_ext λ n. elim (cases_Bool (is_among numbers n)) [ inl among ↦ rw among (still other (stored n) (is n)) | inr apart ↦ rw apart refl ]

-- ---- a database as an opening describes it: pages of the size that the files name

-- the checksum over pages of the opening's size exists only if the database's does
same_sums : (other size : ℕ) (image : Image) (db : Trees) → IsPageSize (stored_size size) → stored_size other ≡ stored_size size → (IsTrue (is_summed other) → SaysSums (stored_size other) image)
    → HoldsAt size image db → (other ≡ size) ⊎ (other % 16 ≢ 8)
same_sums other size image db allowed same says held =
    let few : reserved size ≤ 8 = grind arith in
    elim (cases_eq (other % 16) 8) [
      | inr plain ↦ inr plain
      | inl summed ↦
          let eight : reserved other ≡ 8 = rw (eq-eqb _ _ summed) refl in
          let sums : IsTrue (is_summed other) = rw (eq-eqb _ _ summed) refl in
          let a = adopts_of size image held.pages held.found in
          let (first, is, len, word, magic) = reserved_word size image held.pages a (omega (arith, allowed.0)) held.ours.file.sound in
          let said = says sums a.stored first (subst (λ (n : ℕ). raw.Recovers n image a.stored) (sym same) a.found) is (len ∙ sym same) in
          inl (omega (arith, eight, said, word, same))
    ]

pages_stand : (other size : ℕ) (image next : Image) (pages : PageMap) → stored_size other ≡ stored_size size → (other ≡ size) ⊎ (other % 16 ≢ 8) → StandsAs other image next
    → Recovers size image pages → Recovers size next pages
pages_stand other size image next pages same sums stands found = elim stands.0 [
  | inl alike ↦ carried size image next (subst (λ (n : ℕ). raw.RecoversAs n image next) same alike) pages found
  | inr (numbers, frames, may) ↦
      elim (may found.stored (subst (λ (n : ℕ). raw.Recovers n image found.stored) (sym same) found.found)) [
        | inl now ↦ again (subst (λ (n : ℕ). raw.Recovers n next found.stored) same now)
        | inr now ↦
            let one = none_resealed other numbers found.stored (again_sealed other size found.stored found.whole same found.sealed sums) in
            again (subst (λ (n : ℕ). raw.Recovers n next found.stored) same (subst (raw.Recovers (stored_size other) next) one now))
      ]
]
  where
    again : raw.Recovers (stored_size size) next found.stored → Recovers size next pages
    again now = record { stored = found.stored; found = now; whole = found.whole; sealed = found.sealed; shows = found.shows; present = now.present }

stands_for : (other : ℕ) (image next : Image) (db : Trees) → NamesSize image (stored_size other) → (IsTrue (is_summed other) → SaysSums (stored_size other) image) → StandsAs other image next
    → HoldsSealed image db → HoldsSealed next db
stands_for other image next db names says stands (size, allowed, held) =
    let same = same_named image (stored_size other) (stored_size size) names (names_size size image db allowed held) in (
      size,
      allowed,
      record {
        pages = held.pages;
        wanted = held.wanted;
        schema = held.schema;
        found = pages_stand other size image next held.pages same (same_sums other size image db allowed same says held) stands held.found;
        ours = held.ours;
        reads = held.reads;
        sound = held.sound;
      },
    )

-- ---- the files

module _ {D : Type 0} (g : Ghosts D) (stays : SeenMayStay g) (files : Files D) (s : State) (all : (image : Image) → outcomes g files.log files.db image → ∥ HasState image s ∥₁) where
  seen : ∥ HasState (image_of g files) s ∥₁
  seen = all (image_of g files) (stays files.log, stays files.db)

  unopened : (now : Unopened D g) → IsTrue (state_of now).is_clean → LeavesFiles files (leftover.Unopened now) → (image : Image) → outcomes g (files_of now).0 (files_of now).1 image → ∥ HasState image s ∥₁
  unopened now clean leaves image may = elim leaves [
    | inl nothing ↦ ∥∥₁_elim seen squash₁ (λ has. ∥∥₁_elim has.holds squash₁ (λ held. absurd (is_something (image_of g files) has.db (database_of (image_of g files) has.db held) nothing.0)))
    | inr (some, names, begins, says, each) ↦
        let kept : IsKept g files (state_of now).page_size image = each image (may_leave_is now.pool image (subst IsTrue (clean_is now.pool) clean) may) in
        elim kept.same [
          | inl was ↦ all image was
          | inr stands ↦ ∥∥₁_map seen (λ has. record {
            db = has.db;
            holds = ∥∥₁_map has.holds (λ held. stands_for (state_of now).page_size (image_of g files) image has.db names says stands held);
            state = has.state;
          })
        ]
  ]

  -- each outcome of a crash still has the State
  pub kept_unopened : (rest : Leftover D g) → IsCleanLeft rest → IsStoreless rest → LeavesFiles files rest → (image : Image) → outcomes g (files_left rest).0 (files_left rest).1 image → ∥ HasState image s ∥₁
  kept_unopened (leftover.Files now) clean none leaves image may = all image (leaves image may)
  kept_unopened (leftover.Unopened now) clean none leaves image may = unopened now clean leaves image may
  kept_unopened (leftover.Store now) clean none leaves image may = absurd none
