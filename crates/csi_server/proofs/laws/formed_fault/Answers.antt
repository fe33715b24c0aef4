use Rattle.csi_server.proofs.Forms.{formed_fault_frame}
use Rattle.csi_server.proofs.laws.formed_fault.Goals as goal

pub returns : goal.returns
returns c fault small = formed_fault_frame c.decimal_is_text.ensures fault small
