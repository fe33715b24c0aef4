use Rattle.std.proofs.Common.{◌∙◌, inl, inr}
use Rattle.pbwire.specs.declared.field.Value.TheVariants.{Varint, Fixed64, Bytes, Fixed32}
use Rattle.pbmessage.specs.Views.{views}
use Rattle.pbmessage.specs.facts.Views.{after_field}
use Rattle.pbmessage.proofs.message.merge_field.Goals as goal

pub returns-in-Varint : goal.returns-in-Varint
returns-in-Varint g c = λ seen h. c.merge_number.ensures (views seen) h ∙ after_field g.M.Message.of seen c.args.field.now (Varint c.in-Varint.number) c.in-Varint.is

pub returns-in_ok-merge_payload-in-Bytes : goal.returns-in_ok-merge_payload-in-Bytes
returns-in_ok-merge_payload-in-Bytes g c = λ seen h. c.in_ok-merge_payload-in-Bytes.ensures (views seen) h ∙ after_field g.M.Message.of seen c.args.field.now (Bytes c.in-Bytes.payload) c.in-Bytes.is

pub returns-in-Fixed64 : goal.returns-in-Fixed64
returns-in-Fixed64 g c = λ seen h. elim c.in-Fixed64.is [
  | inl w ↦ h ∙ after_field g.M.Message.of seen c.args.field.now (Fixed64 w.0) w.1
  | inr w ↦ h ∙ after_field g.M.Message.of seen c.args.field.now (Fixed32 w.0) w.1
]
