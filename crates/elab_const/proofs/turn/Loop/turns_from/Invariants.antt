use Rattle.std.proofs.Common.{◌≡◌, ◌-◌}
use Rattle.verilog_tree.specs.View.{expr_view}
use Rattle.elab_const.specs.Scope.{look_up}
use Rattle.elab_const.specs.Loops as loops
use Rattle.elab_const.proofs.LoopLemmas.{turns_before}
use Rattle.elab_const.proofs.turn.Loop.turns_from.Given as goal

-- the turns so far, with those from this value on, are all turns
abbrev pub invariant-loop : goal.invariant-loop
invariant-loop l =
    loops.turns_from (look_up l.fn.self.scope.now) l.fn.self.place l.fn.self.variable.now (expr_view l.fn.self.test.now) (expr_view l.fn.self.step.now) 1024 l.fn.first
    ≡ turns_before l.turns (loops.turns_from (look_up l.self.scope.now) l.self.place l.self.variable.now (expr_view l.self.test.now) (expr_view l.self.step.now) (1024 - l.counter) l.value)
