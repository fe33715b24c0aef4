use Rattle.csi_files.proofs.CopyLemmas.{copied_log}
use Rattle.csi_files.proofs.copying.copy_frames.Goals as goal

pub returns-clause-keeps : goal.returns-clause-keeps
returns-clause-keeps g c = copied_log c.args.log.now c.recover.new.self c.finish.new.self c.recover.ensures.size c.recover.ensures.honest c.recover.ensures.crash c.finish.ensures.keeps
