-- The conditions under which a change store leads, and calls may be answered from memory.
use Rattle.std.specs.Prelude.{◌≡◌, ℕ, List, false, true}
use Rattle.csi_client.specs.declared.receiving.Received.{Received}
use Rattle.csi_change_store.specs.Asking.{lead_frame}
use Rattle.csid.specs.Reading.{IsAgreed}
use Rattle.csid.specs.declared.change_store.OpenChangeStore.{OpenChangeStore}

-- a change store was asked, in one exchange, and answers that it leads
abbrev pub Leads : {P : Type 0} → (P → P → List ℕ → Received → Type 0) → P → P → Type 0
Leads exchanged old new = (received : Received) × exchanged old new lead_frame received × IsAgreed received

-- the copy in memory has each change that was made, no change was refused, and no reply was held back
pub record IsUsable (store : OpenChangeStore) : Type 0 where
  pub current : store.keeper.is_current ≡ true
  pub up : store.keeper.health.is_down ≡ false
  pub uncut : store.is_cut ≡ false
