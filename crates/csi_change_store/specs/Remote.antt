-- The model of a change store at the other end of a connection.
use Rattle.std.specs.Prelude.{◌≡◌, ◌⊎◌, ◌<◌, ℕ, Option, List, Result, Err, length, ⊤, false}
use Rattle.std.specs.Io.KnownBytes.{Appends}
use Rattle.envelope.specs.declared.limits.TheConstants.{MAX_MESSAGE_BYTES}
use Rattle.frames_core.specs.Writing.{WrotePrefix}
use Rattle.csi_client.specs.Receiving.{Receives}
use Rattle.csi_client.specs.declared.receiving.Received.{Received}
use Rattle.csi_client.specs.declared.receiving.Received.TheVariants.{Failed}
use Rattle.csi_keeper.specs.Keeper.{Changes}
use Rattle.csi_keeper.specs.Model.{Model}
use Rattle.csi_keeper.specs.State.{State, IsBounded}
use Rattle.csi_keeper.specs.declared.change.Change.{Change}
use Rattle.csi_keeper.specs.declared.change.StoreFault.{StoreFault}
use Rattle.csi_keeper.specs.declared.change.StoreFault.TheVariants.{NoMemory, Refused}
use Rattle.csi_change_store.specs.Asking.{answer_of, change_bytes, commit_frame}
use Rattle.csi_change_store.specs.declared.peer.Channel.{Channel}
use Rattle.csi_change_store.specs.declared.remote.RemoteChangeStore.{RemoteChangeStore}

-- if a frame asks for a change, the change is made or is not made, as the reply says
abbrev pub Answers : Model State → Model State → List ℕ → Received → Type 0
Answers old new asked received = (change : Change) → IsBounded change → asked ≡ commit_frame change → Changes old new change (answer_of received)

-- the change store has the States of its peer
abbrev pub remote_model : {P : Type 0} → (P → Model State) → RemoteChangeStore P → Model State
remote_model peer change_store = record (peer change_store.peer) { is_down = change_store.is_down }

-- A connection does not say which State the other end has, or what a stop leaves there: nothing is promised
-- from the first exchange on.
abbrev pub channel_model : {R W : Type 0} → Channel R W → Model State
channel_model channel = record { holds = λ s. ⊤; doubt = channel.exchanges; refusals = 0; survivors = λ s. ⊤; tied = ⊥; is_down = false }

-- An exchange: the frame is written whole, and what comes is read. Or writing it fails, and nothing is read:
-- a prefix of it was written.
abbrev pub Exchanges : Option (List ℕ) → Option (List ℕ) → Option (List ℕ) → Option (List ℕ) → List ℕ → Received → Type 0
Exchanges written now unread left asked received =
    (Appends written now asked × Receives unread left received)
    ⊎ ((received ≡ Failed) × (left ≡ unread) × WrotePrefix written now asked)

-- one exchange of a channel, by the bytes at its two ends
abbrev pub channel_exchanges : {R W : Type 0} → (R → Option (List ℕ)) → (W → Option (List ℕ)) → Channel R W → Channel R W → List ℕ → Received → Type 0
channel_exchanges remaining contents old new asked received = Exchanges (contents old.writer) (contents new.writer) (remaining old.reader)
    (remaining new.reader) asked received

-- the fault if a change is not asked for: there is no memory for its frame, or its message is too long
abbrev pub IsUnasked : Change → StoreFault → Type 0
IsUnasked change fault = (fault ≡ NoMemory) ⊎ ((fault ≡ Refused) × (MAX_MESSAGE_BYTES < length (change_bytes change)))

-- A change is asked for by one exchange with its frame, and the answer is the answer of the reply. Or the
-- peer is unchanged, because the change was not asked for.
abbrev pub Asks : {P : Type 0} → (P → P → List ℕ → Received → Type 0) → P → P → Change → Result (Unit {0}) StoreFault → Type 0
Asks exchanged old new change result =
    ((received : Received) × exchanged old new (commit_frame change) received × (result ≡ answer_of received))
    ⊎ ((fault : StoreFault) × (new ≡ old) × (result ≡ Err fault) × IsUnasked change fault)
