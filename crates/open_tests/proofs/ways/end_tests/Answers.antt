use Rattle.std.proofs.Common.{List, arith, subst, sym, ◌-◌, ◌∙◌}
use Rattle.assignments.specs.body_calls.Ways.{Around}
use Rattle.open_tests.specs.Open.{AreSecond}
use Rattle.open_tests.proofs.Closing.{closes_end, closes_further, innermost}
use Rattle.open_tests.proofs.Weighing.{leaves_then}
use Rattle.open_tests.proofs.ways.end_tests.Goals as goal

pub loop-left-preserved : goal.loop-left-preserved
loop-left-preserved g c =
    let h = c.loop-left.invariant in
    let inner = g.B.Bodies.around c.loop-left.store in
    let some = c.loop-left-test.true in
    let d = (g.B.Reads.scene c.args.store.now).design in
    let one : (outer : List Around) → AreSecond d c.loop-left.left outer inner → AreSecond d (c.loop-left.left - 1) outer (g.B.Bodies.around c.end_test.new.self) =
    λ outer k. let i = innermost d c.loop-left.left outer inner some k in subst (AreSecond d (c.loop-left.left - 1) outer) (sym (c.end_test.ensures.around i.test i.left i.rest i.is)) i.others in
    let i = innermost d c.loop-left.left h.open_tests.0 inner some h.open_tests.1 in
    record {
      open_tests = (h.open_tests.0, one h.open_tests.0 h.open_tests.1);
      second = λ outer k. one outer (h.second outer k);
      design = (c.end_test.ensures.scene i.test i.left i.rest i.is).design ∙ i.design;
      under = c.end_test.ensures.under ∙ h.under;
      rooms = leaves_then 0 0 0 0 _ _ _ h.rooms c.end_test.ensures.rooms;
      state =
          closes_further c.args.count (g.B.Reads.scene c.args.store.now) (g.B.Bodies.queued c.args.store.now) (g.B.Bodies.around c.args.store.now) c.loop-left.left (g.B.Reads.scene c.loop-left.store) (g.B.Reads.scene c.end_test.new.self) (g.B.Bodies.queued c.loop-left.store) (g.B.Bodies.queued c.end_test.new.self) inner i.test i.left i.rest (g.B.Bodies.around c.end_test.new.self) some i.is c.end_test.ensures.queued c.end_test.ensures.scene c.end_test.ensures.around h.state;
    }

pub returns-clause-state : goal.returns-clause-state
returns-clause-state g c = closes_end c.args.count (g.B.Reads.scene c.args.store.now) (g.B.Bodies.queued c.args.store.now) (g.B.Bodies.around c.args.store.now) (g.B.Reads.scene c.loop-left.store) (g.B.Bodies.queued c.loop-left.store) (g.B.Bodies.around c.loop-left.store) c.loop-left.left (omega (arith, c.loop-left-test.false)) c.loop-left.invariant.state
