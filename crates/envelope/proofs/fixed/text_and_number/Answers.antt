use Rattle.std.proofs.Common.{◌≡◌, List, ℕ, ◌++◌, All, rules, subst, sym}
use Rattle.std.specs.Prelude.{decimal}
use Rattle.std.proofs.lemmas.List.Elements.{All-append}
use Rattle.envelope.specs.Envelope.{IsTextByte}
use Rattle.envelope.proofs.Printable.{decimal_printable}
use Rattle.envelope.proofs.fixed.text_and_number.Goals as goal

pub returns-clause-printable : goal.returns-clause-printable
returns-clause-printable c =
    let whole : c.extend-2.new.self ≡ c.args.text.now ++ decimal c.args.n = search rules in
    subst (λ (bytes : List ℕ). All IsTextByte bytes) (sym whole) (All-append IsTextByte c.args.text.now (decimal c.args.n) c.requires.printable (decimal_printable c.args.n c.ranges.n.fits))
