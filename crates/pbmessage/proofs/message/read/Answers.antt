use Rattle.std.proofs.Common.{ap, ◌∙◌, sym, []}
use Rattle.pbmessage.specs.facts.Views.{no_entries}
use Rattle.pbmessage.proofs.message.read.Goals as goal

pub returns : goal.returns
returns g c = c.in_ok-merge.ensures [] (c.empty-message.ensures ∙ ap g.M.Message.of (sym no_entries))
