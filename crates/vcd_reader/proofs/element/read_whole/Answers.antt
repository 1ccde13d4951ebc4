use Rattle.std.proofs.Common.{◌≡◌, false, sym, ap, ◌∙◌, arith}
use Rattle.vcd_reader.specs.declared.past.Past.{Past}
use Rattle.vcd_reader.proofs.ElementLemmas.{at_rest, rests, scalar_first, word_at_rest}
use Rattle.vcd_reader.proofs.element.read_whole.Goals as goal

pub returns-in-len1-up : goal.returns-in-len1-up
returns-in-len1-up c = λ spec r.
    let some = c.in-len1-up.len_at_least in
    let no : c.has_begun.result ≡ false = cc in
    let e = at_rest spec.begun (sym (c.has_begun.ensures spec r) ∙ no) in
    let rest = rests c.args.reading.now spec r e in
    rw (word_at_rest c.args.codes.now spec c.args.at c.args.word.now e (omega (arith, some)) ∙ scalar_first c.args.codes.now c.args.word.now c.args.at spec.past some (sym c.is_digit.ensures ∙ c.if-is_digit.true))
    (c.saying.ensures c.args.filter _ spec.past _ c.read_scalar-is_heard.ensures (record { past = rest.past; begun = rest.begun }) (ap (λ (past : Past). past.is_on) rest.past))
