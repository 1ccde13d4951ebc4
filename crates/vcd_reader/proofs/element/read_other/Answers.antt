use Rattle.std.proofs.Common.{◌≡◌, ℕ, true, List, ◌∷◌, length, sym, ap, subst, arith}
use Rattle.vcd_reader.specs.Body.{next_word, has_begun}
use Rattle.vcd_reader.specs.Holding.{IsSpelling, is_other, Gives}
use Rattle.vcd_reader.proofs.WordTests.{with_first}
use Rattle.vcd_reader.proofs.element.read_other.Goals as goal

pub returns-in-None : goal.returns-in-None
returns-in-None c = λ spec bytes reading other spelling.
    let long = c.in-None.ensures bytes spelling in
    with_first (λ bs. Gives c.args.filter c.read_long.result c.read_long.new.reading (next_word c.args.codes.now spec (record { at = c.args.at; bytes = bs }))) bytes long (λ byte rest e.
    let first = c.first.ensures byte rest (subst (λ bs. IsSpelling c.args.word.now bs) e spelling) in
    let same = subst (λ (bs : List ℕ). is_other (has_begun spec.begun) bs ≡ true) e other in
    subst (λ (b : ℕ). Gives c.args.filter c.read_long.result c.read_long.new.reading (next_word c.args.codes.now spec (record { at = c.args.at; bytes = b ∷ rest }))) first
    (c.read_long.ensures c.args.filter c.args.codes.now spec rest reading (subst (λ (b : ℕ). is_other (has_begun spec.begun) (b ∷ rest) ≡ true) (sym first) same) (omega (arith, ap length e, long))))
