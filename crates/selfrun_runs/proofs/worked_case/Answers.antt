use Rattle.std.proofs.Common.{refl}
use Rattle.selfrun_runs.proofs.worked_case.Goals as goal

pub returns : goal.returns
returns c = record {
  first_p = refl;
  second_p = refl;
  first_word = refl;
  second_word = refl;
  q = refl;
  read = refl;
  read_word = refl;
  read_q = refl;
  unknown = λ we a d q p h. let e = h.is_clk in cc;
}
