use Rattle.std.proofs.Common.{sym, ap, ◌∙◌}
use Rattle.vcd_reader.specs.declared.past.Past.{Past}
use Rattle.vcd_reader.proofs.ElementLemmas.{dollar_first, scalar_first, some_byte}
use Rattle.vcd_reader.proofs.element.read_first.Goals as goal

pub returns-then-is_digit : goal.returns-then-is_digit
returns-then-is_digit c = λ past other rest.
    rw (scalar_first c.args.codes.now c.args.bytes.now c.args.at past (some_byte c.args.bytes.now other) (sym c.is_digit.ensures ∙ c.if-is_digit.true))
    (c.saying.ensures c.args.filter _ past _ c.read_scalar-is_heard.ensures (record { past = rest.past; begun = rest.begun }) (ap (λ (past : Past). past.is_on) rest.past))

pub returns-else-is_passed_letter : goal.returns-else-is_passed_letter
returns-else-is_passed_letter c = λ past other rest.
    rw (dollar_first c.args.codes.now c.args.bytes.now c.args.at past other (sym c.is_digit.ensures ∙ c.if-is_digit.false) (sym c.is_passed_letter.ensures ∙ c.if-is_passed_letter.false)) (c.read_dollar.ensures c.args.filter past rest)
