use Rattle.std.proofs.Common.{◌≡◌, ◌++◌, drop}
use Rattle.flat_design.specs.Bodies.{all_text_reads, items_text_reads}
use Rattle.flat_design.specs.Processes.{listed_signals}
use Rattle.flat_design.specs.Scope.{binding_of}
use Rattle.verilog_tree.specs.Tree.{arms_of, statements_of}
use Rattle.verilog_tree.specs.View.{arms_view, statements_view}
use Rattle.elab_bodies.proofs.reads.+add_statement.Given as goal

-- the signals so far, with those of the rest, are those of all
abbrev pub invariant-add_statements-loop-statement : goal.invariant-add_statements-loop-statement
invariant-add_statements-loop-statement l =
    l.signals ++ listed_signals (binding_of l.scope) (all_text_reads (statements_of (statements_view (drop l.statement-index l.statements)))) ≡ l.fn.signals ++ listed_signals (binding_of l.fn.scope) (all_text_reads (statements_of (statements_view l.fn.statements)))

abbrev pub invariant-add_arms-loop-arm : goal.invariant-add_arms-loop-arm
invariant-add_arms-loop-arm l =
    l.signals ++ listed_signals (binding_of l.scope) (items_text_reads (arms_of (arms_view (drop l.arm-index l.arms)))) ≡ l.fn.signals ++ listed_signals (binding_of l.fn.scope) (items_text_reads (arms_of (arms_view l.fn.arms)))
