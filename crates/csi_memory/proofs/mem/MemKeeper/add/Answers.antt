use Rattle.std.proofs.Common.{ap, subst, ◌∙◌, ◌≡◌, ℕ}
use Rattle.std.specs.FinMap.{insert}
use Rattle.csi_keeper.specs.declared.volume.Volume.{Volume}
use Rattle.csi_keeper.specs.Texts.{Text}
use Rattle.csi_maps.specs.Rows.{volumes_of}
use Rattle.csi_maps.specs.Naming.{IsNamed, IsUnnamed}
use Rattle.csi_maps.specs.Stored.{as_volume, as_volumes}
use Rattle.csi_maps.specs.declared.stored.StoredVolume.{StoredVolume}
use Rattle.csi_keeper.specs.facts.Finite.{none_some, same_some}
use Rattle.csi_memory.proofs.ChangeLemmas.{added, kept_names, on_err, refused_rows, refused_total, stands_now}
use Rattle.csi_memory.proofs.mem.MemKeeper.add.Goals as goal

pub returns-in_err-set_name-clause-unchanged : goal.returns-in_err-set_name-clause-unchanged
returns-in_err-set_name-clause-unchanged c = on_err c.from_residual-in_err-set_name.result (λ s k a. kept_names _ _ _ _ _ _ s _ k c.in_err-set_name.ensures.err)

pub returns-in-Err-clause-unchanged : goal.returns-in-Err-clause-unchanged
returns-in-Err-clause-unchanged c s k a =
    let own = ap (λ (v : Volume). v.name) c.in_ok-stored.ensures in
    let name = ap (λ (p : ℕ × StoredVolume). p.1.name) c.in-Err.ensures.back ∙ own in
    refused_rows _ _ _ _ _ _ s _ _ _ c.args.volume k a
    (subst (λ (t : Text). IsNamed t c.args.volume.number c.args.self.now.names c.set_name.new.names) own c.in_ok-set_name.ensures.ok)
    (subst (λ (t : Text). IsUnnamed t c.args.volume.number c.set_name.new.names c.drop_name.new.names) name c.drop_name.ensures)
    (ap (λ es. volumes_of (as_volumes es)) c.in-Err.ensures.err)

pub returns-in-Some-clause-unchanged : goal.returns-in-Some-clause-unchanged
returns-in-Some-clause-unchanged c s k a =
    let own = ap (λ (v : Volume). v.name) c.in_ok-stored.ensures in
    let put = c.in_default.ensures.ok ∙ ap (insert (volumes_of (as_volumes c.args.self.now.volumes.entries)) c.args.volume.number) c.in_ok-stored.ensures in
    let there = stands_now _ _ c.args.volume put in
    let same : as_volume c.args.volume.number c.in-Some.stored ≡ c.args.volume = same_some _ _ (c.in-Some.ensures.value ∙ there) in
    refused_total _ _ _ _ _ _ s _ _ _ _ _ c.args.volume k a
    (subst (λ (t : Text). IsNamed t c.args.volume.number c.args.self.now.names c.set_name.new.names) own c.in_ok-set_name.ensures.ok)
    (subst (λ (t : Text). IsUnnamed t c.args.volume.number c.set_name.new.names c.drop_name-in-Some.new.names) (ap (λ (v : Volume). v.name) same) c.drop_name-in-Some.ensures)
    put c.remove_volume.ensures.rest c.in-Err-add.ensures.unchanged

pub returns-in_default-remove_volume-clause-unchanged : goal.returns-in_default-remove_volume-clause-unchanged
returns-in_default-remove_volume-clause-unchanged c s k a =
    let put = c.in_default.ensures.ok ∙ ap (insert (volumes_of (as_volumes c.args.self.now.volumes.entries)) c.args.volume.number) c.in_ok-stored.ensures in
    absurd (none_some c.args.volume (c.in_default-remove_volume.ensures.value ∙ stands_now _ _ c.args.volume put))

pub returns-clause-made : goal.returns-clause-made
returns-clause-made c s k a =
    let own = ap (λ (v : Volume). v.name) c.in_ok-stored.ensures in
    added _ _ _ _ _ _ s _ _ _ c.args.volume _ c.in_ok-pool.ensures k a c.requires.number c.requires.bytes
    (subst (λ (t : Text). IsNamed t c.args.volume.number c.args.self.now.names c.set_name.new.names) own c.in_ok-set_name.ensures.ok)
    (c.in_default.ensures.ok ∙ ap (insert (volumes_of (as_volumes c.args.self.now.volumes.entries)) c.args.volume.number) c.in_ok-stored.ensures)
    c.in_default-add.ensures.counted
