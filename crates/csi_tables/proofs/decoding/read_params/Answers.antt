use Rattle.std.proofs.Common.{◌≡◌, ◌∙◌, sym, ap₂, []}
use Rattle.csi_tables.specs.declared.fault.TablesFault.TheVariants.{Refused}
use Rattle.csi_tables.proofs.CellLemmas.{handed_on}
use Rattle.csi_tables.proofs.DecodingLemmas.{params_read, params_not_read}
use Rattle.csi_tables.proofs.ReadingLemmas.{empty_items}
use Rattle.csi_columns.specs.facts.Writing.{none_read}
use Rattle.csi_tables.proofs.decoding.read_params.Goals as goal

pub returns-in_err-message-clause-refused : goal.returns-in_err-message-clause-refused
returns-in_err-message-clause-refused c is p m fit = params_not_read c.read_back.ensures c.args.bytes.now
    (c.read.ensures.refused (handed_on c.from_residual.result c.read.result c.in_err-message.field-0.0 Refused c.from_residual.ensures.1 is c.in_err-message.was)) p m fit

pub returns-clause-ok : goal.returns-clause-ok
returns-clause-ok c = params_read c.read_back.ensures c.args.bytes.now c.in_ok-message.message c.in_ok-message.ensures.ok

pub returns-then-is_empty-clause-ok : goal.returns-then-is_empty-clause-ok
returns-then-is_empty-clause-ok c p m fit is =
    let none : c.args.bytes.now ≡ [] = empty_items c.args.bytes.now (sym c.is_empty.ensures ∙ c.if-is_empty.true) in
    ap₂ (λ a b. (a, b)) c.new.ensures c.new-then-is_empty.ensures ∙ params_read c.read_back.ensures c.args.bytes.now _ (none_read c.read_back.ensures c.args.bytes.now none) p m fit is

pub returns-then-is_empty-clause-exact : goal.returns-then-is_empty-clause-exact
returns-then-is_empty-clause-exact c =
    let none : c.args.bytes.now ≡ [] = empty_items c.args.bytes.now (sym c.is_empty.ensures ∙ c.if-is_empty.true) in
    (_, none_read c.read_back.ensures c.args.bytes.now none, ap₂ (λ a b. (a, b)) c.new.ensures c.new-then-is_empty.ensures)
