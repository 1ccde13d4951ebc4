-- The parts of the code as the first Assign or Comb runs.
use Rattle.std.proofs.Common.{ℕ, Bool, sym, ap, ◌∙◌}
use Rattle.clocked_laws.proofs.Kept.{start_still}
use Rattle.mark_laws.proofs.replay_model.Acted.{clocked_acted}
use Rattle.step_parts.specs.Laws.{StartLaw}

pub starts : StartLaw
starts st ps x v sets flags m runs clocked moving dump moves acted points marks values = record {
  values = values;
  still = start_still st runs clocked moving dump;
  moves = moves;
  acted = λ p comb. acted p comb ∙ sym (ap (λ (f : ℕ → Bool). f p) (clocked_acted st));
  points = points;
  marks = marks;
}
