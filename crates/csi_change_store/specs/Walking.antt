-- Reading all pages of a change store: each page is asked for with the token of the page before it, and the
-- first page with an empty token.
use Rattle.std.specs.Prelude.{◌≡◌, ◌≢◌, ◌⊎◌, ◌<◌, ℕ, false, List, [], ◌∷◌, ◌++◌, None, length}
use Rattle.sqlite.specs.Held.{Held}
use Rattle.sqlite.specs.Store.{Ghosts}
use Rattle.envelope.specs.declared.limits.TheConstants.{MAX_MESSAGE_BYTES}
use Rattle.csi_client.specs.declared.receiving.Received.{Received}
use Rattle.csi_client.specs.declared.receiving.Received.TheVariants.{Reply}
use Rattle.csi_client.specs.declared.receiving.ReceivedReply.{ReceivedReply}
use Rattle.csi_keeper.specs.declared.change.StoreFault.{StoreFault}
use Rattle.csi_keeper.specs.declared.change.StoreFault.TheVariants.{NoMemory, Refused}
use Rattle.csi_change_store.specs.Asking.{read_frame, token_bytes}
use Rattle.csi_change_store.specs.Pages.{PageItem, AreTyped, IsPage, PagesRead, noted}
use Rattle.csi_change_store.specs.Taking.{ExtendsFrom, IsPageFault, PutsAll}
use Rattle.csi_change_store.specs.declared.reading.ReadFault.{ReadFault}
use Rattle.csi_change_store.specs.declared.reading.ReadFault.TheVariants.{Unasked, Unanswered, Rows, Endless, Database as Unkept}

-- ---- one page

-- the body of a reply with status 0
abbrev pub IsBodyOf : Received → List ℕ → Type 0
IsBodyOf received body = (reply : ReceivedReply) × (received ≡ Reply reply) × (reply.status ≡ 0) × (reply.body.items ≡ body)

-- no reply with status 0
abbrev pub IsRefused : Received → Type 0
IsRefused received = (reply : ReceivedReply) → received ≡ Reply reply → reply.status ≢ 0

-- the fault if there is no frame for a token: there is no memory for it, or its message is too long
abbrev pub IsUnframed : List ℕ → StoreFault → Type 0
IsUnframed token fault = (fault ≡ NoMemory) ⊎ ((fault ≡ Refused) × (MAX_MESSAGE_BYTES < length (token_bytes token)))

-- the notes before any page
abbrev pub no_notes : PagesRead
no_notes = record { token = []; format = None; has_rows = false }

-- the notes after the items of one more page
abbrev pub noted_page : List PageItem → PagesRead → PagesRead
noted_page items notes = noted items (record notes { token = [] })

module _ {P : Type 0} (exchanged : P → P → List ℕ → Received → Type 0) (old new : P) where
  -- one exchange gives the page that the token asks for
  abbrev pub GivesPage : List ℕ → List ℕ → Type 0
  GivesPage token body = (received : Received) × exchanged old new (read_frame token) received × IsBodyOf received body

  -- the fault if the exchange gives no page
  abbrev pub IsPageless : List ℕ → ReadFault → Type 0
  IsPageless token (Unasked fault) = (new ≡ old) × IsUnframed token fault
  IsPageless token (Unanswered received) = exchanged old new (read_frame token) received × IsRefused received
  IsPageless token (Rows fault) = ⊥
  IsPageless token Endless = ⊥
  IsPageless token (Unkept e) = ⊥

  -- the fault if no page is read after these notes
  abbrev pub IsFaultAfter : PagesRead → ReadFault → Type 0
  IsFaultAfter notes (Unasked fault) = IsPageless notes.token (Unasked fault)
  IsFaultAfter notes (Unanswered received) = IsPageless notes.token (Unanswered received)
  IsFaultAfter notes (Rows fault) = (body : List ℕ) × GivesPage notes.token body × IsPageFault body fault
  IsFaultAfter notes Endless = new ≡ old
  IsFaultAfter notes (Unkept e) = ⊥

-- ---- all pages

-- if another page follows, there is a token
abbrev pub HasNextPage : List (List PageItem) → PagesRead → Type 0
HasNextPage [] notes = Unit {0}
HasNextPage (items ∷ pages) notes = notes.token ≢ []

-- the exchanges that give these pages, in order
abbrev pub Walks : {P : Type 0} → (P → P → List ℕ → Received → Type 0) → List (List PageItem) → PagesRead → P → P → PagesRead → Type 0
Walks {P = P} exchanged [] notes old new after = (new ≡ old) × (after ≡ notes)
Walks {P = P} exchanged (items ∷ pages) notes old new after =
    (body : List ℕ) × (mid : P) × GivesPage exchanged old mid notes.token body × IsPage body items
    × HasNextPage pages (noted_page items notes) × Walks exchanged pages (noted_page items notes) mid new after

abbrev pub all_items : List (List PageItem) → List PageItem
all_items [] = []
all_items (items ∷ pages) = items ++ all_items pages

module _ {S : Type 0} (g : Ghosts S) (a b : Held S) {P : Type 0} (exchanged : P → P → List ℕ → Received → Type 0) (old new : P) where
  -- the rows of a page are put
  pub record ReadsPage (before after : PagesRead) : Type 0 where
    pub body : List ℕ
    pub items : List PageItem
    pub given : GivesPage exchanged old new before.token body
    pub page : IsPage body items
    pub typed : AreTyped items
    pub noted_is : after ≡ noted_page items before
    pub puts : ExtendsFrom g a b (PutsAll items)

  -- The rows of all pages are put. The last page has an empty token.
  pub record ReadsAll (notes : PagesRead) : Type 0 where
    pub pages : List (List PageItem)
    pub some : pages ≢ []
    pub walks : Walks exchanged pages no_notes old new notes
    pub last : notes.token ≡ []
    pub typed : AreTyped (all_items pages)
    pub puts : ExtendsFrom g a b (PutsAll (all_items pages))

-- the fault if not all pages are read: some pages were read, and then came the fault
pub record IsReadFault {P : Type 0} (exchanged : P → P → List ℕ → Received → Type 0) (old new : P) (fault : ReadFault) : Type 0 where
  pub pages : List (List PageItem)
  pub notes : PagesRead
  pub mid : P
  pub walks : Walks exchanged pages no_notes old mid notes
  pub after : IsFaultAfter exchanged mid new notes fault
