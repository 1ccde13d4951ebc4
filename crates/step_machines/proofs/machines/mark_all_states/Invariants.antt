use Rattle.body_replay.specs.Store.{Kept}
use Rattle.cover_marks.specs.Marks.{AreMarksOf}
use Rattle.design_model.specs.View.{design_view}
use Rattle.step_parts.specs.store_knowledge.Knows.{Knows}
use Rattle.step_machines.proofs.Marked.{MarksBelow}
use Rattle.step_machines.proofs.machines.mark_all_states.Given as goal

-- the states of the machines so far are marked
abbrev pub invariant-loop-number : goal.invariant-loop-number
invariant-loop-number l =
    AreMarksOf l.points l.marks × ((k : Kept) → Knows (design_view l.design) k l.store → MarksBelow (design_view l.design) l.points k l.time l.number l.fn.marks.verdicts l.marks.verdicts)
