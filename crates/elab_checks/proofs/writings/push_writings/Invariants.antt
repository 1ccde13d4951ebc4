use Rattle.std.proofs.Common.{◌≡◌, drop}
use Rattle.verilog_tree.specs.View.{expr_view}
use Rattle.flat_design.specs.Bodies.{met_writings}
use Rattle.flat_design.specs.Scope.{binding_of}
use Rattle.elab_scope.specs.Tally.{after_all}
use Rattle.elab_checks.proofs.WritingLemmas.{all_met}
use Rattle.elab_checks.proofs.writings.push_writings.Given as goal

-- what is reported so far, with the rest, is what is reported of all
abbrev pub invariant-loop-written : goal.invariant-loop-written
invariant-loop-written l =
    after_all l.tally (all_met (drop l.written-index l.written-items)) ≡ after_all l.fn.tally (met_writings (binding_of l.fn.scope) l.fn.mode l.fn.writer.blocking l.fn.writer.continuous l.fn.writer.process (expr_view l.fn.expr))
