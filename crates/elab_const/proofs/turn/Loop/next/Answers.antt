use Rattle.std.proofs.Common.{◌∙◌, sym, ap, Ok}
use Rattle.std.proofs.lemmas.Result.{err_from_is_err_and}
use Rattle.verilog_tree.specs.View.{expr_view}
use Rattle.elab_const.specs.Scope.{look_up, with_turn}
use Rattle.elab_const.specs.Loops.{begins, integer_answer}
use Rattle.elab_const.proofs.LoopLemmas.{test_fails, no_next, step_fails, next_is}
use Rattle.elab_const.proofs.turn.Loop.next.Goals as goal

pub returns-in_err-begins : goal.returns-in_err-begins
returns-in_err-begins c =
    let g = with_turn c.args.self.now.variable.now c.args.value (look_up c.args.self.now.scope.now) in
    let fault = err_from_is_err_and c.from_residual.result c.from_residual.ensures.1 in
    let fails = sym (rw c.with-names.ensures at c.begins.ensures) ∙ c.in_err-begins.was in
    rw (fault.1, fault.2) (test_fails (begins g c.args.self.now.place (expr_view c.args.self.now.test.now)) (integer_answer g (expr_view c.args.self.now.step.now)) _ fails)

pub returns-then-not-branch : goal.returns-then-not-branch
returns-then-not-branch c =
    let g = with_turn c.args.self.now.variable.now c.args.value (look_up c.args.self.now.scope.now) in
    let ends = sym (rw c.with-names.ensures at c.begins.ensures) ∙ c.in_ok-begins.was ∙ ap Ok c.if-not-branch.true in
    no_next (begins g c.args.self.now.place (expr_view c.args.self.now.test.now)) (integer_answer g (expr_view c.args.self.now.step.now)) ends

pub returns-in_err-next : goal.returns-in_err-next
returns-in_err-next c =
    let g = with_turn c.args.self.now.variable.now c.args.value (look_up c.args.self.now.scope.now) in
    let fault = err_from_is_err_and c.from_residual-in_err-next.result c.from_residual-in_err-next.ensures.1 in
    let begun = sym (rw c.with-names.ensures at c.begins.ensures) ∙ c.in_ok-begins.was ∙ ap Ok c.if-not-branch.false in
    let fails = sym (rw c.with-names.ensures at c.integer_value.ensures) ∙ c.in_err-next.was in
    rw (fault.1, fault.2) (step_fails (begins g c.args.self.now.place (expr_view c.args.self.now.test.now)) (integer_answer g (expr_view c.args.self.now.step.now)) _ begun fails)

pub returns : goal.returns
returns c =
    let g = with_turn c.args.self.now.variable.now c.args.value (look_up c.args.self.now.scope.now) in
    let begun = sym (rw c.with-names.ensures at c.begins.ensures) ∙ c.in_ok-begins.was ∙ ap Ok c.if-not-branch.false in
    let next = sym (rw c.with-names.ensures at c.integer_value.ensures) ∙ c.in_ok-next.was in
    next_is (begins g c.args.self.now.place (expr_view c.args.self.now.test.now)) (integer_answer g (expr_view c.args.self.now.step.now)) c.in_ok-next.next begun next
