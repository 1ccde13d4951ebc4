use Rattle.std.proofs.Common.{◌≡◌, length, take}
use Rattle.cover_marks.specs.Marks.{AreMarksOf}
use Rattle.cover_marks.specs.cover_points.declared.listing.Points.{Points}
use Rattle.step_parts.specs.replay_model.Step.{Closing}
use Rattle.toggle_laws.specs.Turns.{MarksInTurn}
use Rattle.step_marks.specs.Marked.{IsOver, IsSeenAfter}
use Rattle.step_marks.proofs.marks.mark_moved.Given as goal

-- the toggles of the things so far are marked
abbrev pub invariant-loop-thing : goal.invariant-loop-thing
invariant-loop-thing l =
    (length l.seen ≡ length l.fn.seen)
    × ((ps : Points) → AreMarksOf ps l.fn.marks → AreMarksOf ps l.marks)
    × ((st : Closing) (ps : Points) → IsOver st ps l.moves l.time l.on_list l.store l.values l.fn.seen l.fn.marks → MarksInTurn st ps (take l.thing-index l.moves) l.fn.marks.verdicts l.marks.verdicts × IsSeenAfter st ps l.seen l.marks)
