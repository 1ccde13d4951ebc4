use Rattle.std.specs.List.{All}
use Rattle.cover_marks.specs.Marks.{AreMarksOf}
use Rattle.design_model.specs.View.{design_view}
use Rattle.point_table.specs.Verdicts.{IsOfDesign}
use Rattle.point_tests.proofs.tables.add_marks.Given as goal

-- marks of these points, whose doubts are of things of the design
abbrev pub invariant-loop-mark : goal.invariant-loop-mark
invariant-loop-mark l = record { points : AreMarksOf l.points l.marks; things : All (IsOfDesign (design_view l.design)) l.marks.verdicts }
