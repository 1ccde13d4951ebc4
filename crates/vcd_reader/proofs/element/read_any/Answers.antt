use Rattle.std.proofs.Common.{◌≡◌, ◌<◌, false, eqb, length, sym, ◌∙◌, arith}
use Rattle.std.proofs.lemmas.Bool.Decides.{nat_tests}
use Rattle.vcd_reader.proofs.ElementLemmas.{at_rest, rests, word_at_rest}
use Rattle.vcd_reader.proofs.element.read_any.Goals as goal

pub returns-else-has_begun : goal.returns-else-has_begun
returns-else-has_begun c = λ spec r.
    let e = at_rest spec.begun (sym (c.has_begun.ensures spec r) ∙ c.if-has_begun.false) in
    let full : eqb (length c.args.word.now) 0 ≡ false = sym c.is_empty.ensures ∙ c.if-is_empty.false in
    let some : 0 < length c.args.word.now = grind (arith, nat_tests, full) in
    rw (word_at_rest c.args.codes.now spec c.args.at c.args.word.now e some) (c.read_beginning.ensures spec.past some (rests c.args.reading.now spec r e))
