use Rattle.std.proofs.Common.{List, [], subst, sym}
use Rattle.std.specs.List.{AllByRecursion}
use Rattle.csi_config.specs.Values.{Has}
use Rattle.csi_machine.specs.Walk.{AreApart, AreOfVolumes, End, GoOn, Page, Stood, listed_ids}
use Rattle.csi_rules.specs.Ids.{id}
use Rattle.csi_server.proofs.WalksLemmas.{walked}
use Rattle.csi_server.proofs.laws.walk.Goals as goal

pub returns-clause-read : goal.returns-clause-read
returns-clause-read c s turns inv asks =
    let w = walked c.args.config.now turns s [] asks in
    w.read (c.walk.ensures.read s w.calls inv w.checked)

pub returns-clause-stood : goal.returns-clause-stood
returns-clause-stood c s turns asks =
    let w = walked c.args.config.now turns s [] asks in
    subst (λ (ps : List Page). AllByRecursion (AreOfVolumes c.args.config.now) ps) (sym w.same) (c.walk.ensures.stood s w.calls)

pub returns-clause-once : goal.returns-clause-once
returns-clause-once c s turns inv asks on =
    let w = walked c.args.config.now turns s [] asks in
    subst (λ (ps : List Page). AreApart (listed_ids ps)) (sym w.same) (c.walk.ensures.once s w.calls inv w.checked (subst GoOn w.same on))

pub returns-clause-each : goal.returns-clause-each
returns-clause-each c s turns n inv asks on over stood =
    let w = walked c.args.config.now turns s [] asks in
    subst (λ (ps : List Page). Has (listed_ids ps) (id n)) (sym w.same) (c.walk.ensures.each s w.calls n inv w.checked (subst GoOn w.same on) (subst End w.same over) (subst (Stood n) w.same stood))
