use Rattle.std.proofs.Common.{◌-◌, ◌≤◌, ◌++◌, ℕ, List, length, take}
use Rattle.cover_points.specs.declared.listing.Points.{Points}
use Rattle.design_model.specs.declared.design.Design.{Design}
use Rattle.event_machine.specs.Habit.{Habit}
use Rattle.vcd_reader.specs.declared.vars.Var.{Var}
use Rattle.dump_score.specs.Scoring.{IsScoring, IsScoringSome}
use Rattle.dump_score.proofs.items.score_piece.Given as goal

abbrev pub invariant-loop-used : goal.invariant-loop-used
invariant-loop-used l = record {
  within : l.used ≤ length l.piece;
  reads : IsScoringSome l.body l.replay;
  scores : (habit : Habit) (design : Design) (points : Points) (vars : List Var) (instance text : List ℕ) → IsScoring l.fn.body l.fn.replay habit design points vars instance text → IsScoring l.body l.replay habit design points vars instance (text ++ take l.used l.piece);
}

abbrev pub decreases-loop-used : goal.decreases-loop-used
decreases-loop-used l = length l.piece - l.used
