-- The fault of each constraint, the order of the constraints, and the answers.
use Rattle.std.specs.Prelude.{◌≡◌, ℕ, nat_lt, ℤ, pos, Bool, true, false, if◌then◌else◌, List, [], ◌∷◌, Option, Some, None, Result, Ok, Err, unwrap_or}
use Rattle.std.specs.Option.{option_map}
use Rattle.sqlite.specs.declared.error.Error.{Error}
use Rattle.sqlite.specs.declared.error.Error.TheVariants.{SqliteFailure}
use Rattle.sqlite.specs.declared.error.ErrorCode.TheVariants.{OutOfMemory}
use Rattle.csi_types.specs.declared.limits.TheConstants.{MAX_VOLUMES}
use Rattle.csi_config.specs.declared.config.Config.{Config}
use Rattle.csi_config.specs.declared.nodes.Node.{Node}
use Rattle.csi_config.specs.declared.pools.Pool.{Pool}
use Rattle.csi_constraints.specs.declared.broken.AttachmentConstraint.{AttachmentConstraint}
use Rattle.csi_constraints.specs.declared.broken.AttachmentConstraint.TheVariants as attachment_constraint
use Rattle.csi_constraints.specs.declared.broken.BrokenConstraint.TheVariants as broken
use Rattle.csi_constraints.specs.declared.broken.VolumeConstraint.{VolumeConstraint}
use Rattle.csi_constraints.specs.declared.broken.VolumeConstraint.TheVariants as volume_constraint
use Rattle.csi_constraints.specs.declared.named.RowName.{RowName}
use Rattle.csi_adoption.specs.Seen.{AttachmentsFound, VolumesFound}
use Rattle.csi_adoption.specs.declared.fault.AdoptFault.{AdoptFault}
use Rattle.csi_adoption.specs.declared.fault.AdoptFault.TheVariants.{Foreign, Newer, Broken, Store, NoMemory}
use Rattle.csi_adoption.specs.declared.fault.Foreign.TheVariants as foreign

-- ---- the fault of a constraint

abbrev pub number_of : RowName → ℤ
number_of name = unwrap_or name.number (pos 0)

abbrev pub next_fault : ℕ → Option AdoptFault
next_fault next = if nat_lt 0 next then None else Some (Broken broken.Next)

abbrev pub volume_fault : VolumeConstraint → Option RowName → Option AdoptFault
volume_fault rule found = option_map (λ name. Broken (broken.Volume (number_of name) rule)) found

abbrev pub attachment_fault : AttachmentConstraint → Option RowName → Option AdoptFault
attachment_fault rule found = option_map (λ name. Broken (broken.Attachment (number_of name) (unwrap_or name.text []) rule)) found

abbrev pub volume_kinds_fault : Option RowName → Option AdoptFault
volume_kinds_fault found = option_map (λ name. Foreign (foreign.Volume (number_of name))) found

abbrev pub attachment_kinds_fault : Option RowName → Option AdoptFault
attachment_kinds_fault found = option_map (λ name. Foreign (foreign.Attachment (number_of name))) found

-- the first item whose room is less than the sum at its place
abbrev pub first_full : {X : Type 0} → (X → ℕ) → List X → List ℕ → Option X
first_full room [] sums = None
first_full room (x ∷ xs) [] = None
first_full room (x ∷ xs) (sum ∷ sums) = if nat_lt (room x) sum then Some x else first_full room xs sums

-- the first pool that has fewer bytes than its volumes
abbrev pub full_pool : List Pool → List ℕ → Option Pool
full_pool = first_full (λ p. p.bytes)

abbrev pub pool_fault : List Pool → List ℕ → Option AdoptFault
pool_fault pools sums = option_map (λ p. Broken (broken.Pool p.name)) (full_pool pools sums)

-- the first node that has more attachments than it may have
abbrev pub full_node : List Node → List ℕ → Option Node
full_node = first_full (λ m. m.max_volumes)

abbrev pub node_fault : List Node → List ℕ → Option AdoptFault
node_fault nodes sums = option_map (λ m. Broken (broken.Node m.id)) (full_node nodes sums)

abbrev pub count_fault : ℕ → Option AdoptFault
count_fault rows = if nat_lt MAX_VOLUMES rows then Some (Broken broken.TooManyVolumes) else None

-- ---- the constraints in their order

abbrev pub first_fault : List (Option AdoptFault) → Option AdoptFault
first_fault [] = None
first_fault (None ∷ faults) = first_fault faults
first_fault (Some fault ∷ faults) = Some fault

abbrev pub kinds_faults : VolumesFound → AttachmentsFound → Option AdoptFault
kinds_faults volumes attachments = first_fault (volume_kinds_fault volumes.kinds ∷ attachment_kinds_fault attachments.kinds ∷ [])

abbrev pub number_faults : ℕ → VolumesFound → Option AdoptFault
number_faults next volumes = first_fault (next_fault next ∷ volume_fault volume_constraint.Number volumes.number
    ∷ volume_fault volume_constraint.Name volumes.name ∷ [])

abbrev pub size_faults : Config → VolumesFound → Option AdoptFault
size_faults config volumes = first_fault (volume_fault volume_constraint.Pool volumes.pool ∷ volume_fault volume_constraint.Bytes volumes.bytes
    ∷ pool_fault config.pools volumes.pool_bytes ∷ [])

abbrev pub code_faults : VolumesFound → AttachmentsFound → Option AdoptFault
code_faults volumes attachments =
    first_fault (volume_fault volume_constraint.Caps volumes.caps ∷ volume_fault volume_constraint.Params volumes.params
    ∷ attachment_fault attachment_constraint.Cap attachments.cap ∷ attachment_fault attachment_constraint.Readonly attachments.readonly
    ∷ attachment_fault attachment_constraint.Node attachments.node ∷ [])

-- the fault if an attachment has no volume, or its volume does not have the capability
abbrev pub owner_fault : Option RowName → Option AdoptFault
owner_fault unowned = attachment_fault attachment_constraint.Owner unowned

abbrev pub count_faults : Config → Option RowName → AttachmentsFound → VolumesFound → Option AdoptFault
count_faults config apart attachments volumes =
    first_fault (attachment_fault attachment_constraint.Coexist apart ∷ node_fault config.nodes attachments.node_volumes ∷ count_fault volumes.rows ∷ [])

-- the first fault of the rows of volumes and of attachments, of each row alone
abbrev pub table_faults : Config → ℕ → VolumesFound → AttachmentsFound → Option AdoptFault
table_faults config next volumes attachments = first_fault
    (kinds_faults volumes attachments ∷ number_faults next volumes ∷ size_faults config volumes ∷ code_faults volumes attachments ∷ [])

abbrev pub all_faults : Config → ℕ → VolumesFound → AttachmentsFound → Option RowName → Option RowName → Option AdoptFault
all_faults config next volumes attachments unowned apart = first_fault
    (table_faults config next volumes attachments ∷ owner_fault unowned ∷ count_faults config apart attachments volumes ∷ [])

-- ---- answers

-- the database or memory failed, so the fault says nothing about the rows
abbrev pub is_failure : AdoptFault → Bool
is_failure (Foreign what) = false
is_failure (Newer format) = false
is_failure (Broken rule) = false
is_failure (Store error) = true
is_failure NoMemory = true

-- the database failed
abbrev pub is_store : AdoptFault → Bool
is_store (Store error) = true
is_store _ = false

-- an error of the database that is lack of memory
abbrev pub wants_memory : Error → Bool
wants_memory (SqliteFailure OutOfMemory) = true
wants_memory _ = false

-- the fault for an error of the database
abbrev pub failure_of : Error → AdoptFault
failure_of error = if wants_memory error then NoMemory else Store error

-- the result is the fault, if there is one
abbrev pub Reports : {X : Type 0} → Option AdoptFault → Result X AdoptFault → Type 0
Reports fault (Ok x) = fault ≡ None
Reports fault (Err e) = fault ≡ Some e

abbrev pub is_no_memory : AdoptFault → Bool
is_no_memory NoMemory = true
is_no_memory _ = false

-- a fault that has the name of a pool or of a node, which is copied
abbrev pub has_name : AdoptFault → Bool
has_name (Broken (broken.Attachment number node rule)) = true
has_name (Broken (broken.Pool name)) = true
has_name (Broken (broken.Node id)) = true
has_name _ = false

-- there is a fault, and memory may be refused for its name
abbrev pub takes_memory : Option AdoptFault → Bool
takes_memory None = false
takes_memory (Some fault) = has_name fault

-- as `Reports`, unless memory was refused for the name of the fault; the result is no failure of the database
abbrev pub Says : {X : Type 0} → Option AdoptFault → Result X AdoptFault → Type 0
Says fault (Ok x) = fault ≡ None
Says fault (Err e) = (is_no_memory e ≡ false → fault ≡ Some e) × (is_no_memory e ≡ true → takes_memory fault ≡ true) × (is_store e ≡ false)
