use Rattle.std.proofs.Common.{◌≡◌, ℕ, true, List, take, sym, subst, arith}
use Rattle.std.specs.List.{list_all}
use Rattle.std.proofs.lemmas.List.{length-drop}
use Rattle.vcd_reader.specs.Values.{is_digit}
use Rattle.vcd_reader.specs.Vectors.{IsCodeAfter}
use Rattle.vcd_reader.proofs.VectorFronts.{run_passes}
use Rattle.vcd_reader.proofs.vector.vector_words.Goals as goal

pub returns : goal.returns
returns c =
    let bytes = c.args.bytes.now in
    let count = c.digit_run-digits.result in
    let code = subst (λ (rest : List ℕ). IsCodeAfter rest c.in_ok-code.code) c.split_at.ensures.back c.in_ok-code.ensures in
    record {
      some = omega arith;
      digits = subst (λ (n : ℕ). list_all is_digit (take n bytes) ≡ true) (sym c.digit_run-digits.ensures.count) (run_passes is_digit bytes);
      code_some = omega arith;
      code = code;
      within = omega (arith, code.within, length-drop count bytes);
    }
