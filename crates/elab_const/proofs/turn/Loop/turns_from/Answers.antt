use Rattle.std.proofs.Common.{◌∙◌, ◌<◌, ◌≤◌, ◌+◌, ◌-◌, sym, ap, arith, Ok}
use Rattle.verilog_tree.specs.View.{expr_view}
use Rattle.elab_const.specs.Scope.{look_up}
use Rattle.elab_const.specs.Loops as loops
use Rattle.elab_const.proofs.LoopLemmas.{turns_before, turn_follows, turns_end, turn_fails, all_turns, end_fails}
use Rattle.elab_const.proofs.turn.Loop.turns_from.Goals as goal

pub returns-in-Ok-None : goal.returns-in-Ok-None
returns-in-Ok-None c =
    let s = c.args.self.now in
    let below : c.loop.counter < 1024 = omega arith in
    let is = sym c.next.ensures ∙ c.in-Ok-None.is ∙ ap Ok c.in-Ok-None.field-0-is in
    c.loop.invariant ∙ turns_end (look_up s.scope.now) s.place s.variable.now (expr_view s.test.now) (expr_view s.step.now) c.loop.turns c.loop.counter c.loop.value below is

pub returns-in-Err : goal.returns-in-Err
returns-in-Err c =
    let s = c.args.self.now in
    let below : c.loop.counter < 1024 = omega arith in
    let is = sym c.next.ensures ∙ c.in-Err.is in
    let fails = c.loop.invariant ∙ turn_fails (look_up s.scope.now) s.place s.variable.now (expr_view s.test.now) (expr_view s.step.now) c.loop.turns c.loop.counter c.loop.value c.in-Err.fault below is in
    rw c.of.ensures fails

pub loop-preserved : goal.loop-preserved
loop-preserved c =
    let s = c.args.self.now in
    let n = c.in-Ok-Some.next in
    let below : c.loop.counter < 1024 = omega arith in
    let is = sym c.next.ensures ∙ c.in-Ok-Some.is ∙ ap Ok c.in-Ok-Some.field-0-is in
    let rest = loops.turns_from (look_up s.scope.now) s.place s.variable.now (expr_view s.test.now) (expr_view s.step.now) (1024 - (c.loop.counter + 1)) n in
    c.loop.invariant ∙ turn_follows (look_up s.scope.now) s.place s.variable.now (expr_view s.test.now) (expr_view s.step.now) c.loop.turns c.loop.counter c.loop.value n below is ∙ ap (λ ts. turns_before ts rest) (sym c.in_ok-push-in-Ok-Some.ensures.ok)

pub returns-in-Ok : goal.returns-in-Ok
returns-in-Ok c =
    let s = c.args.self.now in
    let above : 1024 ≤ c.loop.counter = omega arith in
    let is = sym c.ends.ensures ∙ c.in-Ok.is in
    c.loop.invariant ∙ all_turns (look_up s.scope.now) s.place s.variable.now (expr_view s.test.now) (expr_view s.step.now) c.loop.turns c.loop.counter c.loop.value above is

pub returns-in-Err-ends : goal.returns-in-Err-ends
returns-in-Err-ends c =
    let s = c.args.self.now in
    let above : 1024 ≤ c.loop.counter = omega arith in
    let is = sym c.ends.ensures ∙ c.in-Err-ends.is in
    let fails = c.loop.invariant ∙ end_fails (look_up s.scope.now) s.place s.variable.now (expr_view s.test.now) (expr_view s.step.now) c.loop.turns c.loop.counter c.loop.value c.in-Err-ends.fault above is in
    rw c.of-in-Err-ends.ensures fails
