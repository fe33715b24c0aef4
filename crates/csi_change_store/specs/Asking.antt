-- The frames that are sent to a change store, and the meaning of its replies: docs/PROTOCOL.md, "The change
-- store" (own).
use Rattle.std.specs.Prelude.{ℕ, ◌==◌, Bool, true, false, List, [], ◌∷◌, codes, Result, Ok, Err, if◌then◌else◌}
use Rattle.std.specs.FinMap.{empty}
use Rattle.pbwire.specs.Wire.{WireField, Number, Payload}
use Rattle.pbwire.specs.Writing.{spelling, spellings}
use Rattle.envelope.specs.Envelope.{frame}
use Rattle.csi_client.specs.declared.receiving.Received.{Received}
use Rattle.csi_client.specs.declared.receiving.Received.TheVariants.{Reply, Nothing, Malformed, Failed, NoMemory as NoRoom}
use Rattle.csi_keeper.specs.declared.change.Change.{Change}
use Rattle.csi_keeper.specs.declared.change.Change.TheVariants.{AddVolume, RemoveVolume, Attach, Detach, DetachAll, SetMutable}
use Rattle.csi_keeper.specs.declared.change.StoreFault.{StoreFault}
use Rattle.csi_keeper.specs.declared.change.StoreFault.TheVariants.{NoMemory, Refused}
use Rattle.csi_keeper.specs.declared.volume.Attachment.{Attachment}
use Rattle.csi_keeper.specs.declared.volume.Volume.{Volume}
use Rattle.csi_columns.specs.Encoding.{caps_bytes, params_bytes}
use Rattle.csi_change_store.specs.declared.asking.ChangeStoreCall.{ChangeStoreCall}
use Rattle.csi_change_store.specs.declared.asking.ChangeStoreCall.TheVariants.{Read, Make, Commit, Lead}

-- a field that is a number, and a field that is bytes
abbrev pub number_field : ℕ → ℕ → WireField
number_field number value = record { number = number; part = Number value }

abbrev pub bytes_field : ℕ → List ℕ → WireField
bytes_field number bytes = record { number = number; part = Payload bytes }

-- ---- rows, by their columns

abbrev pub volume_fields : Volume → List WireField
volume_fields v =
    number_field 1 v.number
    ∷ bytes_field 2 v.name
    ∷ number_field 3 v.bytes
    ∷ bytes_field 4 v.pool
    ∷ bytes_field 5 (caps_bytes v.caps)
    ∷ bytes_field 6 (params_bytes v.params v.mutable)
    ∷ []

abbrev pub flag_number : Bool → ℕ
flag_number false = 0
flag_number true = 1

abbrev pub attachment_fields : ℕ → Attachment → List WireField
attachment_fields n a = number_field 1 n ∷ bytes_field 2 a.node ∷ bytes_field 3 (caps_bytes (a.cap ∷ [])) ∷ number_field 4 (flag_number a.readonly) ∷ []

-- ---- a change

-- the fields of a change
abbrev pub asked_fields : Change → List WireField
asked_fields (AddVolume v) = volume_fields v
asked_fields (RemoveVolume n) = number_field 1 n ∷ []
asked_fields (Attach n a) = attachment_fields n a
asked_fields (Detach n node) = number_field 1 n ∷ bytes_field 2 node ∷ []
asked_fields (DetachAll n) = number_field 1 n ∷ []
asked_fields (SetMutable n m) = number_field 1 n ∷ bytes_field 2 (params_bytes empty m) ∷ []

-- the number of the field that a change is in
abbrev pub change_number : Change → ℕ
change_number (AddVolume v) = 1
change_number (RemoveVolume n) = 2
change_number (Attach n a) = 3
change_number (Detach n node) = 4
change_number (DetachAll n) = 5
change_number (SetMutable n m) = 6

abbrev pub change_bytes : Change → List ℕ
change_bytes change = spelling (bytes_field (change_number change) (spellings (asked_fields change)))

-- ---- frames

abbrev pub path_of : ChangeStoreCall → List ℕ
path_of Read = codes "/fomaheti.log.v1.Log/Read"
path_of Make = codes "/fomaheti.log.v1.Log/Make"
path_of Commit = codes "/fomaheti.log.v1.Log/Commit"
path_of Lead = codes "/fomaheti.log.v1.Log/Lead"

-- the frame that asks for a change
abbrev pub commit_frame : Change → List ℕ
commit_frame change = frame (record { path = path_of Commit; message = change_bytes change })

-- the frame that asks for a page of the rows: the first page, or the page of a token
abbrev pub token_bytes : List ℕ → List ℕ
token_bytes token = spelling (bytes_field 1 token)

abbrev pub read_frame : List ℕ → List ℕ
read_frame token = frame (record { path = path_of Read; message = token_bytes token })

-- the frame that asks for the row of meta
abbrev pub make_frame : List ℕ
make_frame = frame (record { path = path_of Make; message = [] })

-- the frame that asks whether the change store still leads
abbrev pub lead_frame : List ℕ
lead_frame = frame (record { path = path_of Lead; message = [] })

-- ---- a reply

-- Only status 0 says that the change was made. Without memory for the reply the answer is `NoMemory`. Any
-- other outcome is a refusal, also if it is not known whether the change was made.
abbrev pub answer_of : Received → Result (Unit {0}) StoreFault
answer_of (Reply r) = if r.status == 0 then Ok tt else Err Refused
answer_of Nothing = Err Refused
answer_of (Malformed fault) = Err Refused
answer_of Failed = Err Refused
answer_of NoRoom = Err NoMemory
