use Rattle.std.proofs.Common.{List, ◌≡◌}
use Rattle.assignments.specs.body_calls.Rooms.{Leaves}
use Rattle.assignments.specs.body_calls.Ways.{Around}
use Rattle.open_tests.specs.Open.{AreSecond}
use Rattle.open_tests.proofs.Closing.{ClosesOn}
use Rattle.open_tests.proofs.ways.end_tests.Given as goal

-- the tests that are open, and what the state is once they are ended
abbrev pub invariant-loop-left : goal.invariant-loop-left
invariant-loop-left g l =
    record {
      open_tests : (outer : List Around) × AreSecond (g.B.Reads.scene l.fn.store).design l.left outer (g.B.Bodies.around l.store);
      second : (outer : List Around) → AreSecond (g.B.Reads.scene l.fn.store).design l.count outer (g.B.Bodies.around l.fn.store) → AreSecond (g.B.Reads.scene l.fn.store).design l.left outer (g.B.Bodies.around l.store);
      design : (g.B.Reads.scene l.store).design ≡ (g.B.Reads.scene l.fn.store).design;
      under : g.B.Bodies.under l.store ≡ g.B.Bodies.under l.fn.store;
      rooms : Leaves 0 0 (g.B.Bodies.rooms l.fn.store) (g.B.Bodies.rooms l.store);
      state : ClosesOn l.count (g.B.Reads.scene l.fn.store) (g.B.Bodies.queued l.fn.store) (g.B.Bodies.around l.fn.store) l.left (g.B.Reads.scene l.store) (g.B.Bodies.queued l.store) (g.B.Bodies.around l.store);
    }

abbrev pub decreases-loop-left : goal.decreases-loop-left
decreases-loop-left g l = l.left
