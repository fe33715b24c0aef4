-- Reading page after page.
use Rattle.std.proofs.Common.{◌≡◌, ◌≢◌, ℕ, ◌==◌, true, false, List, [], ◌∷◌, ◌++◌, length, Result, Ok, Err, IsTrue, IfOk, IfErr, IsErrAnd, refl, sym, ap, subst, ◌∙◌, arith, append-nil, append_assoc}
use Rattle.std.proofs.lemmas.Bool.{eqb-true, eqb-false}
use Rattle.std.proofs.lemmas.List.{nil_from_length}
use Rattle.sqlite.specs.Held.{Held, state}
use Rattle.sqlite.specs.State.{HasCleanDisk}
use Rattle.sqlite.specs.Store as store
use Rattle.csi_client.specs.declared.receiving.Received.{Received}
use Rattle.csi_change_store.specs.Pages.{PageItem, AreTyped, IsPage, PagesRead}
use Rattle.csi_change_store.specs.Taking.{CommitsNothing, ExtendsFrom, PutsAll, TakesPage}
use Rattle.csi_change_store.specs.Walking.{GivesPage, HasNextPage, IsFaultAfter, IsPageless, IsReadFault, ReadsAll, ReadsPage, Walks, all_items, no_notes, noted_page}
use Rattle.csi_change_store.specs.declared.fault.RowsFault.{RowsFault}
use Rattle.csi_change_store.specs.declared.pages.PagesRead as noted
use Rattle.csi_change_store.specs.declared.reading.ReadFault.{ReadFault}
use Rattle.csi_change_store.specs.declared.reading.ReadFault.TheVariants.{Unasked, Unanswered, Rows, Endless, Database}
use Rattle.csi_change_store.proofs.PagesLemmas.{all_schema, extends_then, nothing_done, nothing_then, puts_append, typed_append}

-- ---- one page

module _ {P : Type 0} (exchanged : P → P → List ℕ → Received → Type 0) (old new : P) where
  pub page_taken : {S : Type 0} {g : store.Ghosts S} {a b : Held S} (body : List ℕ) (before after : PagesRead) → GivesPage exchanged old new before.token body → TakesPage g a b body (record before { token = [] }) after (Ok tt) → ReadsPage g a b exchanged old new before after
  page_taken body before after given takes = record { body = body; items = takes.ok.0; given = given; page = takes.ok.1; typed = takes.ok.2; noted_is = takes.ok.3; puts = takes.ok.4 }

-- ---- all pages

all_push : (pages : List (List PageItem)) (items : List PageItem) → all_items (pages ++ items ∷ []) ≡ all_items pages ++ items
all_push [] items = append-nil items
all_push (page ∷ pages) items = ap (λ more. page ++ more) (all_push pages items) ∙ sym (append_assoc page (all_items pages) items)

pub no_items : (xs : List ℕ) → (length xs == 0) ≡ true → xs ≡ []
no_items xs is = nil_from_length xs (eqb-true _ _ is)

pub some_items : (xs : List ℕ) → (length xs == 0) ≡ false → xs ≢ []
some_items xs is none = eqb-false _ _ is (ap length none)

no_nil : {X : Type 0} (x : X) (xs : List X) → x ∷ xs ≢ []
no_nil x xs h = cc

not_nil : {X : Type 0} (xs : List X) (x : X) → xs ++ x ∷ [] ≢ []
not_nil [] x h = cc
not_nil (y ∷ xs) x h = cc

module _ {P : Type 0} (exchanged : P → P → List ℕ → Received → Type 0) where
  goes_push : (pages : List (List PageItem)) (items : List PageItem) (first notes : PagesRead) (old new : P) → Walks exchanged pages first old new notes → HasNextPage pages first → notes.token ≢ [] → HasNextPage (pages ++ items ∷ []) first
  goes_push [] items first notes old new walks goes some = λ none. some (ap (λ (n : PagesRead). n.token) walks.1 ∙ none)
  goes_push (page ∷ pages) items first notes old new walks goes some = goes

  walks_push : (pages : List (List PageItem)) (items : List PageItem) (body : List ℕ) (first notes : PagesRead) (old mid new : P) → Walks exchanged pages first old mid notes → (pages ≢ [] → notes.token ≢ []) → GivesPage exchanged mid new notes.token body → IsPage body items
      → Walks exchanged (pages ++ items ∷ []) first old new (noted_page items notes)
  walks_push [] items body first notes old mid new walks some given page =
      (body, new, subst (λ (n : PagesRead). GivesPage exchanged old new n.token body) walks.1 (subst (λ (p : P). GivesPage exchanged p new notes.token body) walks.0 given), page, tt, (refl, ap (noted_page items) walks.1))
  walks_push (p ∷ pages) items body first notes old mid new walks some given page =
      let more = some (no_nil p pages) in
      (walks.0, walks.1, walks.2, walks.3, goes_push pages items (noted_page p first) notes walks.1 mid walks.5 walks.4 more, walks_push pages items body (noted_page p first) notes walks.1 mid new walks.5 (λ _. more) given page)

  module _ {S : Type 0} (g : store.Ghosts S) where
    pub record Reading (old mid : P) (notes : PagesRead) (a b : Held S) : Type 0 where
      pub pages : List (List PageItem)
      pub walks : Walks exchanged pages no_notes old mid notes
      pub going : pages ≢ [] → notes.token ≢ []
      pub typed : AreTyped (all_items pages)
      pub puts : ExtendsFrom g a b (PutsAll (all_items pages))
      pub nothing : CommitsNothing g a b

    module _ (old mid new : P) (notes : PagesRead) (a b c : Held S) (r : Reading old mid notes a b) where
      -- the next call commits nothing either
      pub still_nothing : CommitsNothing g b c → CommitsNothing g a c
      still_nothing two = nothing_then g a b c r.nothing two (λ clean inside. (r.puts clean inside).inside)

      module _ (after : PagesRead) (page : ReadsPage g b c exchanged mid new notes after) (two : CommitsNothing g b c) where
        abbrev all : List PageItem
        all = all_items r.pages ++ page.items

        abbrev now : List (List PageItem)
        now = r.pages ++ page.items ∷ []

        walked : Walks exchanged now no_notes old new after
        walked = subst (Walks exchanged now no_notes old new) (sym page.noted_is) (walks_push r.pages page.items page.body no_notes notes old mid new r.walks r.going page.given page.page)

        are_typed : AreTyped (all_items now)
        are_typed = subst AreTyped (sym (all_push r.pages page.items)) (typed_append (all_items r.pages) page.items r.typed page.typed)

        are_put : ExtendsFrom g a c (PutsAll (all_items now))
        are_put = subst (λ items. ExtendsFrom g a c (PutsAll items)) (sym (all_push r.pages page.items)) (extends_then g a b c (PutsAll (all_items r.pages)) (PutsAll page.items) (PutsAll all)
            (λ x y z h k. puts_append (all_items r.pages) page.items x y z h k) (all_schema (all_items r.pages)) r.puts page.puts two.survives)

        pub reading_goes_on : after.token ≢ [] → Reading old new after a c
        reading_goes_on more = record { pages = now; walks = walked; going = λ _. more; typed = are_typed; puts = are_put; nothing = still_nothing two }

        pub reading_ends : after.token ≡ [] → ReadsAll g a c exchanged old new after
        reading_ends none = record { pages = now; some = not_nil r.pages page.items; walks = walked; last = none; typed = are_typed; puts = are_put }

      -- the next page is not read
      pub reading_fails : (fault : ReadFault) (end : Result noted.PagesRead ReadFault) → IsErrAnd end (λ x. x ≡ fault) → IsFaultAfter exchanged mid new notes fault → IfErr end (IsReadFault exchanged old new)
      reading_fails fault (Ok x) at is = tt
      reading_fails fault (Err x) at is = subst (IsReadFault exchanged old new) (sym at) (record { pages = r.pages; notes = notes; mid = mid; walks = r.walks; after = is })
