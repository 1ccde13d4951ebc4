use Rattle.std.proofs.Common.{ℕ, ap, subst}
use Rattle.vcd_reader.specs.Body.{behind_letter, change}
use Rattle.vcd_reader.specs.Holding.{GivesChange, IsBegun}
use Rattle.vcd_reader.specs.declared.past.Past.{Past}
use Rattle.vcd_reader.proofs.ElementLemmas.{has_digits}
use Rattle.vcd_reader.proofs.element.read_bytes.Goals as goal

pub returns-in-Digits : goal.returns-in-Digits
returns-in-Digits c = λ spec r other.
    let d = has_digits c.in-Digits.start spec.begun (subst (λ b. IsBegun b spec.begun) c.in-Digits.is r.begun) in
    let heard = c.read_change-is_heard.ensures (behind_letter d.first.bytes) d.kept.word in
    rw d.is (c.saying.ensures c.args.filter _ spec.past _
    (subst (λ (first : ℕ). GivesChange c.args.filter c.read_change-is_heard.result c.read_change-is_heard.new.kept (change c.args.codes.now (behind_letter d.first.bytes) first c.args.bytes.now c.args.at)) d.kept.at heard)
    (record { past = r.past; begun = tt })
    (ap (λ (past : Past). past.is_on) r.past))
