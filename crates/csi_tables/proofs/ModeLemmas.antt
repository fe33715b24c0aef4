-- A State that meets the invariant has only known modes.
use Rattle.std.proofs.Common.{◌≡◌, pos, true, ◌&&◌, Bool, false, refl, List, [], ◌∷◌, Some}
use Rattle.std.specs.FinMap as fin
use Rattle.std.specs.List.{list_all}
use Rattle.std.specs.Cmp.{nat_cmp_total}
use Rattle.csi_types.specs.Checks.{is_known_mode}
use Rattle.csi_config.specs.declared.config.Config.{Config}
use Rattle.csi_keeper.specs.Capability.{access_of, is_supported_key}
use Rattle.csi_keeper.specs.Invariant.{IsAttached, IsInvariant}
use Rattle.csi_keeper.specs.State.{AttachmentKey, State}
use Rattle.csi_keeper.specs.declared.capability.CapKey.{CapKey}
use Rattle.csi_keeper.specs.declared.volume.Attachment.{Attachment}
use Rattle.csi_keeper.specs.declared.volume.Volume.{Volume}
use Rattle.csi_keeper.specs.facts.Capability.{had_supported, supported_known}
use Rattle.csi_keeper.specs.facts.Finite.{all_entries}
use Rattle.csi_keeper.specs.facts.Orders.{place_exact, place_total}
use Rattle.csi_columns.specs.Encoding.{AreKnown}
use Rattle.csi_tables.specs.Refusing.{HasKnownModes}

key_known : (k : CapKey) → is_supported_key k ≡ true → is_known_mode (Some (pos k.mode)) ≡ true
key_known k e = supported_known (access_of k.kind) (Some (pos k.mode)) e

both : (a b : Bool) → (a && b) ≡ true → (a ≡ true) × (b ≡ true)
both true b e = (refl, e)
both false b e = absurd (cc)

keys_known : (ks : List CapKey) → list_all is_supported_key ks ≡ true → AreKnown ks
keys_known [] e = tt
keys_known (k ∷ ks) e = let two = both (is_supported_key k) (list_all is_supported_key ks) e in (key_known k two.0, keys_known ks two.1)

pub all_known : (config : Config) (s : State) → IsInvariant config s → HasKnownModes s
all_known config s inv = record {
  volumes = all_entries nat_cmp_total fin.nat_cmp-IsAntisymmetric (λ n (v : Volume). AreKnown v.caps) s.volumes (λ n v e. keys_known v.caps (inv.volumes n v e).caps.supported);
  attachments = all_entries place_total place_exact (λ q (a : Attachment). AreKnown (a.cap ∷ [])) s.attachments (λ q a e. attached q a (inv.attachments q.0 q.1 a e));
}
  where
    attached : (q : AttachmentKey) (a : Attachment) → IsAttached config s q.0 q.1 a → AreKnown (a.cap ∷ [])
    attached q a at = (key_known a.cap (had_supported at.volume.caps a.cap at.cap (inv.volumes q.0 at.volume at.stands).caps.supported), tt)
