use Rattle.std.proofs.Common.{arith, ap, ◌∙◌}
use Rattle.pbwire.specs.Reading.{wire_field_of, next_of}
use Rattle.pbwire.proofs.PrefixLemmas.{no_longer, moves}
use Rattle.pbwire.proofs.reading.Fields.next_field.Goals as goal

pub invariant_of-self : goal.invariant_of-self
invariant_of-self c = omega (arith, no_longer c.self.inside.rest.now c.in-Ok.rest.now (wire_field_of c.in-Ok.field) c.in-Ok.ensures, c.self.invariant)

pub returns-in-Ok-clause-moved : goal.returns-in-Ok-clause-moved
returns-in-Ok-clause-moved c =
    moves c.self.inside.len c.self.inside.rest.now c.in-Ok.rest.now c.self.inside.failed (wire_field_of c.in-Ok.field) c.if-self.false c.if-is_empty.ensures c.in-Ok.ensures c.self.invariant
    ∙ ap (λ s. (next_of s).1) c.self.view_is
