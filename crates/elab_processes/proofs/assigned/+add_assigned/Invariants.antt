use Rattle.std.proofs.Common.{◌≡◌, ◌++◌, drop}
use Rattle.verilog_tree.specs.Tree.{arms_of, statements_of}
use Rattle.verilog_tree.specs.View.{arms_view, loop_view, statements_view}
use Rattle.flat_design.specs.Bodies.{all_assigned, assigned, in_turn, items_assigned, names_in_turns}
use Rattle.flat_design.specs.Identifiers.{base_name}
use Rattle.flat_design.specs.Loops as loops
use Rattle.flat_design.specs.Processes.{listed_signals}
use Rattle.flat_design.specs.Scope.{binding_of}
use Rattle.elab_checks.proofs.RestoredLemmas.{SameBut}
use Rattle.elab_processes.specs.Listed.{has}
use Rattle.elab_processes.proofs.assigned.+add_assigned.Given as goal

-- the signals so far, with those of the rest, are those of all
abbrev pub invariant-add_all_assigned-loop-statement : goal.invariant-add_all_assigned-loop-statement
invariant-add_all_assigned-loop-statement l =
    let g = binding_of l.fn.scope in
    record {
      assigned : has (listed_signals g (all_assigned g (statements_of (statements_view (drop l.statement-index l.statements)))) ++ l.known) ≡ has (listed_signals g (all_assigned g (statements_of (statements_view l.fn.statements))) ++ l.fn.known);
      kept : binding_of l.scope ≡ g;
    }

abbrev pub invariant-add_arms-loop-arm : goal.invariant-add_arms-loop-arm
invariant-add_arms-loop-arm l =
    let g = binding_of l.fn.scope in
    record {
      assigned : has (listed_signals g (items_assigned g (arms_of (arms_view (drop l.arm-index l.arms)))) ++ l.known) ≡ has (listed_signals g (items_assigned g (arms_of (arms_view l.fn.arms))) ++ l.fn.known);
      kept : binding_of l.scope ≡ g;
    }

-- the same of the turns, while all names except the variable mean what they did
abbrev pub invariant-add_turns-loop-value : goal.invariant-add_turns-loop-value
invariant-add_turns-loop-value l =
    let g = binding_of l.fn.scope in
    let h = (loop_view l.fn.header).0 in
    let body = (loop_view l.fn.header).1 in
    record {
      assigned : has (listed_signals g (names_in_turns (drop l.value-index l.value-items) (λ v. assigned (in_turn h v g) body)) ++ l.known) ≡ has (listed_signals g (names_in_turns (loops.turns g h) (λ v. assigned (in_turn h v g) body)) ++ l.fn.known);
      kept : SameBut (base_name h.name).name (binding_of l.scope) g;
    }
