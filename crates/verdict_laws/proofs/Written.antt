-- The verdicts of a replay can be written in a table.
use Rattle.std.proofs.Common.{◌<◌, ◌^◌, ℕ, List, length, subst, arith, lt-ltb}
use Rattle.std.specs.List.{All}
use Rattle.std.proofs.lemmas.List.{get_or_default}
use Rattle.mark_laws.specs.cover_points.Listed.{IsPointList, points_of}
use Rattle.mark_laws.specs.cover_points.Visits.{no_point, point_at}
use Rattle.mark_laws.specs.cover_points.declared.listing.Points.{Points}
use Rattle.mark_laws.proofs.cover_points.Members.{in_at}
use Rattle.design_model.specs.Design.{Design}
use Rattle.design_model.specs.Lawful.{IsLawfulDesign}
use Rattle.mark_laws.specs.cover_points.design_machines.state_machines.Drawn.{IsPointWith}
use Rattle.mark_laws.specs.cover_points.design_machines.state_machines.Machines.{StateMachines}
use Rattle.design_model.specs.Shows.{BoundDump, IsListed}
use Rattle.design_model.specs.declared.point.Point.{Point}
use Rattle.event_machine.specs.Habit.{Habit}
use Rattle.mark_laws.specs.Marked.{AreVerdicts, verdict_at}
use Rattle.mark_laws.specs.Numbered.{verdict_view}
use Rattle.point_marks.specs.declared.verdict.Verdict.{Verdict}
use Rattle.point_marks.specs.declared.verdict.Verdict.TheVariants.{Hit, Missed, Undetermined}
use Rattle.mark_laws.specs.replay_model.Laws.{AreReasonedVerdicts}
use Rattle.mark_laws.specs.replay_model.Marks.{IsVerdict}
use Rattle.mark_laws.specs.replay_model.Step.{Replay}
use Rattle.table_laws.specs.Written.{IsWrittenVerdict}
use Rattle.verdict_laws.proofs.Numbers.{doubt_number, window_before}

module _ (d : Design) (h : Habit) (dump : BoundDump) (ms : StateMachines) (ps : Points) (verdicts : List Verdict) (a : Replay) (lawful : IsLawfulDesign d) (listed : IsPointList d ms ps) (times : (t : ℕ) → IsListed dump t → t < 2 ^ 63) (verdicts_are : AreVerdicts d ps a.notes verdicts) (are : AreReasonedVerdicts d h dump (points_of ps) a) where
  one : (x : Point) (v : Verdict) → IsPointWith d ms x → IsVerdict d x a.notes (verdict_view v) → IsWrittenVerdict d v
  one x Hit is_point is = tt
  one x Missed is_point is = tt
  one x (Undetermined y) is_point is =
      let doubt = are.doubted x (record { time = y.time; thing = y.thing }) is in
      (lt-ltb y.thing _ (doubt_number d lawful h dump ms x y.time y.thing is_point doubt.1), window_before dump (2 ^ 63) y.time times doubt.0)

  pub written : All (IsWrittenVerdict d) verdicts
  written k e l =
      let less : k < length (points_of ps) = omega (arith, l, verdicts_are.count) in
      let is_point = (listed.members (point_at ps k)).0 (in_at (points_of ps) k no_point less) in
      subst (IsWrittenVerdict d) (get_or_default verdicts k Missed e l) (one (point_at ps k) (verdict_at verdicts k) is_point (verdicts_are.each k less))
