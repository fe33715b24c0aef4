-- An id that no volume was given yet.
use Rattle.std.proofs.Common.{◌≡◌, ◌∙◌, ap, sym, subst, ℕ, [], Option, Some}
use Rattle.std.specs.Cmp.{nat_cmp_total}
use Rattle.std.specs.FinMap as fin
use Rattle.csi_types.specs.declared.requests.CreateVolume.{CreateVolume}
use Rattle.csi_types.specs.declared.requests.DeleteVolume.{DeleteVolume}
use Rattle.csi_types.specs.declared.requests.Request.TheVariants as request
use Rattle.csi_types.specs.declared.responses.Response.TheVariants as response
use Rattle.csi_config.specs.declared.config.Config.{Config}
use Rattle.csi_keeper.specs.Invariant.{IsInvariant}
use Rattle.csi_keeper.specs.State.{State, attached, changed}
use Rattle.csi_keeper.specs.declared.change.Change.{Change}
use Rattle.csi_keeper.specs.declared.change.Change.TheVariants.{AddVolume, RemoveVolume}
use Rattle.csi_keeper.specs.declared.volume.Volume.{Volume}
use Rattle.csi_keeper.specs.facts.Finite.{none_some, put_there}
use Rattle.csi_machine.specs.calls.Create.{create}
use Rattle.csi_machine.specs.calls.Delete.{delete, delete_found, delete_volume}
use Rattle.csi_machine.specs.Plan.{make, respond}
use Rattle.csi_rules.specs.Finding.{numbered, volume_at}
use Rattle.csi_rules.specs.Ids.{number_of_id}
use Rattle.csi_clients.proofs.ChangeLemmas.{Does, Adds, Removes, Attaches, Detaches, DetachesAll, Sets, does}
use Rattle.csi_clients.proofs.RowLemmas.{none_rows}
use Rattle.csi_clients.proofs.StaysLemmas.{next_free}

module _ (config : Config) (s : State) (d : DeleteVolume) (r : CreateVolume) (inv : IsInvariant config s) (number : number_of_id d.volume_id ≡ Some s.next) where
  nothing_there : delete s d ≡ respond response.Delete
  nothing_there =
      ap (λ (o : Option ℕ). delete_found s (volume_at s o)) number
      ∙ ap (λ (o : Option Volume). delete_found s (numbered s.next o)) (next_free config s inv)

  unattached : attached s s.next ≡ []
  unattached = none_rows s s.next (λ q a e is.
      let old = inv.attachments q.0 q.1 a e in
      none_some old.volume (sym (next_free config s inv) ∙ ap (fin.get s.volumes) (sym is) ∙ old.stands))

  added : (v : Volume) → v.number ≡ s.next → delete (changed s (AddVolume v)) d ≡ make response.Delete (RemoveVolume s.next)
  added v is =
      let t = changed s (AddVolume v) in
      let there : fin.get t.volumes s.next ≡ Some v = subst (λ (n : ℕ). fin.get t.volumes n ≡ Some v) is (put_there nat_cmp_total fin.nat_cmp-IsAntisymmetric s.volumes v.number v) in
      ap (λ (o : Option ℕ). delete_found t (volume_at t o)) number
      ∙ ap (λ (o : Option Volume). delete_found t (numbered s.next o)) there
      ∙ ap (delete_volume s.next) unattached

  pub guessed_id : (c : Change) → (create config s r).change ≡ Some c → (delete s d ≡ respond response.Delete) × (delete (changed s c) d ≡ make response.Delete (RemoveVolume s.next))
  guessed_id c e = (nothing_there, of_does (does config s (request.Create r) c inv e))
    where
      of_does : Does s (request.Create r) c → delete (changed s c) d ≡ make response.Delete (RemoveVolume s.next)
      of_does (Adds k v is change next name) = ap (λ (x : Change). delete (changed s x) d) change ∙ added v next
      of_does (Removes k n v is change numbered_so there none) = absurd (cc (is))
      of_does (Attaches k n a is change numbered_so node vacant) = absurd (cc (is))
      of_does (Detaches k n a is change numbered_so there) = absurd (cc (is))
      of_does (DetachesAll k n is change numbered_so none some) = absurd (cc (is))
      of_does (Sets k n v is change numbered_so there has) = absurd (cc (is))
