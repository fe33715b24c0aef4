use Rattle.std.proofs.Common.{sym, ◌∙◌}
use Rattle.csi_client.proofs.Printing.{end_done, end_cut}
use Rattle.csi_client.proofs.showing.Printer.finish.Goals as goal

pub returns-in-None : goal.returns-in-None
returns-in-None c read held holds live =
    end_done c.args.self.now.method read c.args.framer.now c.end.new.self held holds c.args.self.now.refused live c.end.ensures.ends c.end.ensures.kept (sym c.fault.ensures.value ∙ c.in-None.is)

pub returns-in-Some : goal.returns-in-Some
returns-in-Some c read held holds live =
    end_cut c.args.self.now.method read c.args.framer.now c.end.new.self held holds c.args.self.now.refused c.in-Some.fault live c.end.ensures.ends c.end.ensures.kept (sym c.fault.ensures.value ∙ c.in-Some.is)
