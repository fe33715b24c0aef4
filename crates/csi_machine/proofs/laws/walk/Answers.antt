use Rattle.std.proofs.Common.{refl, inl, []}
use Rattle.csi_machine.proofs.AnsweringLemmas.{keeps, settled_sound}
use Rattle.csi_machine.proofs.WalkLemmas.{Keep, walk_read, walk_stood, walk_once, walk_each}
use Rattle.csi_machine.proofs.laws.walk.Goals as goal

kept : (c : goal.After-configured) → Keep c.args.config.now
kept c s r inv passed = keeps c.args.config.now r (settled_sound c.args.config.now c.configured.ensures r passed) s inv

pub returns-clause-read : goal.returns-clause-read
returns-clause-read c s calls inv checked = walk_read c.args.config.now (kept c) calls s [] 0 inv (inl (refl, refl)) checked

pub returns-clause-stood : goal.returns-clause-stood
returns-clause-stood c s calls = walk_stood c.args.config.now calls s []

pub returns-clause-once : goal.returns-clause-once
returns-clause-once c s calls inv checked on = walk_once c.args.config.now (kept c) calls s inv checked on

pub returns-clause-each : goal.returns-clause-each
returns-clause-each c s calls n inv checked on over stood = walk_each c.args.config.now (kept c) calls s n inv checked on over stood
