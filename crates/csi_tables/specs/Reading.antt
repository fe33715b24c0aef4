-- Reading rows, also rows that were not written for a State.
use Rattle.std.specs.Prelude.{◌≡◌, ℕ, ◌<◌, ◌≤◌, ◌^◌, ◌==◌, Bool, false, List, [], ◌∷◌, Option, None, Some, Ok, is_some, drop, length, map, filter, take, ⊤}
use Rattle.std.specs.Option.{option_map}
use Rattle.sqlite.specs.Effect.{Database}
use Rattle.sqlite.specs.Held.{Held, state}
use Rattle.sqlite.specs.Order.{Row, column}
use Rattle.sqlite.specs.State.{HasCleanDisk}
use Rattle.sqlite.specs.Store.{Ghosts}
use Rattle.sqlite.specs.declared.types.Value.{Value}
use Rattle.sqlite.specs.declared.types.Value.TheVariants.{Text, Blob}
use Rattle.csi_types.specs.Maps.{TextMap}
use Rattle.csi_types.specs.declared.method.Method.TheVariants.{CreateVolume as Creating}
use Rattle.csi_types.specs.declared.requests.CreateVolume.{CreateVolume}
use Rattle.csi_types.specs.declared.requests.Request.TheVariants.{Create}
use Rattle.csi_codec.specs.Reading.{read_request}
use Rattle.csi_keeper.specs.Capability.{key_of}
use Rattle.csi_keeper.specs.Texts as texts
use Rattle.csi_keeper.specs.declared.capability.CapKey.{CapKey}
use Rattle.csi_keeper.specs.declared.listed.PageWithNodes.{PageWithNodes}
use Rattle.csi_keeper.specs.declared.volume.Attachment.{Attachment}
use Rattle.csi_keeper.specs.declared.volume.Volume.{Volume}
use Rattle.csi_sql.specs.Tables.{schema}
use Rattle.csi_sql.specs.Cells.{as_flag, as_number}
use Rattle.csi_sql.specs.Rows.{number_value}
use Rattle.csi_sql.specs.Shown.{IsFoundBy, IsNext, IsPage, IsPageWithNodes as ArePageWithNodes, IsShownOf}
use Rattle.csi_sql.specs.Statements.{attached_query, named_query, nodes_query, sizes_query, volume_query}

-- ---- bytes

-- the bytes are read as a CreateVolumeRequest, and these are the keys of its capabilities
abbrev pub AreKeysOf : List ℕ → List CapKey → Type 0
AreKeysOf bytes keys = (message : CreateVolume) × (read_request Creating bytes ≡ Ok (Create message)) × (map Some keys ≡ map key_of message.capabilities)

-- the two kinds of parameters of such a request
abbrev pub AreParamsOf : List ℕ → TextMap × TextMap → Type 0
AreParamsOf bytes params = (message : CreateVolume) × (read_request Creating bytes ≡ Ok (Create message)) × (params ≡ (message.parameters, message.mutable))

-- ---- cells

-- the value is a blob with such bytes
abbrev pub HasKeys : Value → List CapKey → Type 0
HasKeys cell keys = (bytes : List ℕ) × (cell ≡ Blob bytes) × AreKeysOf bytes keys

abbrev pub HasParams : Value → TextMap × TextMap → Type 0
HasParams cell params = (bytes : List ℕ) × (cell ≡ Blob bytes) × AreParamsOf bytes params

-- ---- rows

-- number, name, bytes, pool, caps, and both kinds of parameters
pub record ShowsVolume (row : Row) (v : Volume) : Type 0 where
  pub number : column row 0 ≡ number_value v.number
  pub name : column row 1 ≡ Text v.name
  pub bytes : column row 2 ≡ number_value v.bytes
  pub pool : column row 3 ≡ Text v.pool
  pub caps : HasKeys (column row 4) v.caps
  pub params : HasParams (column row 5) (v.params, v.mutable)

-- node, cap, readonly
pub record ShowsAttachment (row : Row) (a : Attachment) : Type 0 where
  pub node : column row 0 ≡ Text a.node
  pub cap : HasKeys (column row 1) (a.cap ∷ [])
  pub readonly : as_flag (column row 2) ≡ Some a.readonly

abbrev pub ShowsNumber : Row → ℕ → Type 0
ShowsNumber row n = column row 0 ≡ number_value n

-- the value is read from the row, if there is one
abbrev pub IsReadOf : {X : Type 0} → (Row → X → Type 0) → Option Row → Option X → Type 0
IsReadOf Of None None = ⊤
IsReadOf Of (Some row) (Some x) = Of row x
IsReadOf Of _ _ = ⊥

-- each value is read from its row
abbrev pub AreReadOf : {X : Type 0} → (Row → X → Type 0) → List Row → List X → Type 0
AreReadOf Of [] [] = ⊤
AreReadOf Of (row ∷ rows) (x ∷ xs) = Of row x × AreReadOf Of rows xs
AreReadOf Of _ _ = ⊥

-- a row has this number
abbrev pub is_number : ℕ → Option ℕ → Bool
is_number n None = false
is_number n (Some m) = m == n

-- The nodes of a number, from rows with a number and a node: every row has a number, and the rows of this
-- number have these texts.
pub record ShowNodes (number : ℕ) (rows : List Row) (nodes : List texts.Text) : Type 0 where
  pub numbers : List ℕ
  pub numbered : AreReadOf ShowsNumber rows numbers
  pub nodes_are : map Text nodes ≡ map (λ row. column row 1) (filter (λ row. is_number number (as_number (column row 0))) rows)

-- a volume's share of a pool's total: its pool, and its bytes
abbrev pub share : Volume → texts.Text × ℕ
share v = (v.pool, v.bytes)

-- the nodes of each number, in order: their rows come after the previous number's rows
abbrev pub AreNodesOf : List ℕ → List Row → List (List texts.Text) → Type 0
AreNodesOf [] rows [] = ⊤
AreNodesOf (n ∷ ns) rows (nodes ∷ others) = (passed : ℕ) × ShowNodes n (take passed rows) nodes × AreNodesOf ns (drop passed rows) others
AreNodesOf _ _ _ = ⊥

-- the rows of a page and of its places are read as its volumes, and the nodes of each
pub record IsPageOf (rows : List Row × List Row) (p : PageWithNodes) : Type 0 where
  pub volumes : AreReadOf ShowsVolume rows.0 p.volumes
  pub nodes : AreNodesOf (map (λ v. v.number) p.volumes) rows.1 p.nodes

-- ---- the answers of reads

-- The answer is read from rows: the rows that the database shows if the store has returned the bytes written
-- to it, and otherwise any rows.
pub record IsReadOfRows {S R X : Type 0} (g : Ghosts S) (old new : Held S) (Shown : Database → R → Type 0) (Of : R → X → Type 0) (x : X) : Type 0 where
  pub rows : R
  pub shown : HasCleanDisk (state g new) → (state g old).now.schema ≡ schema → Shown (state g old).now rows
  pub read : Of rows x

-- the answer for a number that rows can have, and the answer for a number that no row can have
pub record ReportsBelow {X : Type 0} (number : ℕ) (none : X) (Reports : X → Type 0) (x : X) : Type 0 where
  pub small : number < 2 ^ 63 → Reports x
  pub large : 2 ^ 63 ≤ number → x ≡ none

-- the row of the volume with this number, if there is one
abbrev pub IsRowOf : ℕ → Database → Option Row → Type 0
IsRowOf number db found = IsFoundBy volume_query (db.trees 1) (number_value number ∷ []) found

-- true if there is a row
abbrev pub HasRow : Option Row → Bool → Type 0
HasRow found has = has ≡ is_some found

module _ {S : Type 0} (g : Ghosts S) (old new : Held S) where
  -- the next number
  abbrev pub ReportsNext : ℕ → Type 0
  ReportsNext n = IsReadOfRows g old new IsNext ShowsNumber n

  -- the volume with a number, and whether there is one
  abbrev pub ReportsNumbered : ℕ → Option Volume → Type 0
  ReportsNumbered number found = IsReadOfRows g old new (IsRowOf number) (IsReadOf ShowsVolume) found

  abbrev pub ReportsExistence : ℕ → Bool → Type 0
  ReportsExistence number has = IsReadOfRows g old new (IsRowOf number) HasRow has

  -- the volume with a name
  abbrev pub ReportsNamed : texts.Text → Option Volume → Type 0
  ReportsNamed name found = IsReadOfRows g old new (λ db row. IsFoundBy named_query (db.trees 1) (Text name ∷ []) row) (IsReadOf ShowsVolume) found

  -- the attachments of a volume
  abbrev pub ReportsAttachments : ℕ → List Attachment → Type 0
  ReportsAttachments number xs =
      IsReadOfRows g old new (λ db rows. IsShownOf nodes_query (db.trees 3) (number_value number ∷ []) rows) (AreReadOf ShowsAttachment) xs

  -- the numbers of the volumes at a node
  abbrev pub ReportsAttached : texts.Text → List ℕ → Type 0
  ReportsAttached node xs = IsReadOfRows g old new (λ db rows. IsShownOf attached_query (db.trees 3) (Text node ∷ []) rows) (AreReadOf ShowsNumber) xs

  -- the bytes of a pool's volumes
  abbrev pub ReportsSizes : texts.Text → List ℕ → Type 0
  ReportsSizes pool xs = IsReadOfRows g old new (λ db rows. IsShownOf sizes_query (db.trees 1) (Text pool ∷ []) rows) (AreReadOf ShowsNumber) xs

  -- a page of volumes
  abbrev pub ReportsPage : ℕ → ℕ → List Volume → Type 0
  ReportsPage after count xs = IsReadOfRows g old new (λ db rows. IsPage after count db rows) (AreReadOf ShowsVolume) xs

  -- the capability keys of the volume with a number; none if there is no such volume
  abbrev pub ReportsCaps : ℕ → Option (List CapKey) → Type 0
  ReportsCaps number keys = (found : Option Volume) × ReportsBelow number None (ReportsNumbered number) found × (keys ≡ option_map (λ v. v.caps) found)

  -- the number of volumes that are attached at a node
  abbrev pub ReportsCount : texts.Text → ℕ → Type 0
  ReportsCount node n = (xs : List ℕ) × ReportsAttached node xs × (n ≡ length xs)

  -- a page of volumes with the nodes of each
  abbrev pub ReportsPageWithNodes : ℕ → ℕ → PageWithNodes → Type 0
  ReportsPageWithNodes after count p = IsReadOfRows g old new (λ db rows. ArePageWithNodes after count db rows.0 rows.1) IsPageOf p

  abbrev pub ReportsPageBelow : ℕ → ℕ → PageWithNodes → Type 0
  ReportsPageBelow after count p = ReportsBelow after (record { volumes = []; nodes = [] }) (ReportsPageWithNodes after count) p
