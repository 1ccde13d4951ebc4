use Rattle.std.proofs.Common.{◌≡◌, drop}
use Rattle.verilog_tree.specs.Tree.{arms_of, statements_of}
use Rattle.verilog_tree.specs.View.{arms_view, loop_view, statements_view}
use Rattle.flat_design.specs.Bodies.{all_reads, in_turn, items_reads, names_in_turns, reads}
use Rattle.flat_design.specs.Identifiers.{base_name}
use Rattle.flat_design.specs.Loops as loops
use Rattle.flat_design.specs.Scope.{binding_of}
use Rattle.elab_scope.specs.Tally.{after_faults}
use Rattle.elab_checks.proofs.RestoredLemmas.{SameBut}
use Rattle.elab_processes.specs.Listed.{lacking}
use Rattle.elab_processes.proofs.incomplete.+check_reads.Given as goal

-- what was reported so far, and then what is reported of the rest, is what is reported of all
abbrev pub invariant-check_all_reads-loop-statement : goal.invariant-check_all_reads-loop-statement
invariant-check_all_reads-loop-statement l =
    let g = binding_of l.fn.scope in
    record {
      met : after_faults l.tally (lacking g l.fn.known (all_reads g (statements_of (statements_view (drop l.statement-index l.statements))))) ≡ after_faults l.fn.tally (lacking g l.fn.known (all_reads g (statements_of (statements_view l.fn.statements))));
      kept : binding_of l.scope ≡ g;
    }

abbrev pub invariant-check_arms-loop-arm : goal.invariant-check_arms-loop-arm
invariant-check_arms-loop-arm l =
    let g = binding_of l.fn.scope in
    record {
      met : after_faults l.tally (lacking g l.fn.known (items_reads g (arms_of (arms_view (drop l.arm-index l.arms))))) ≡ after_faults l.fn.tally (lacking g l.fn.known (items_reads g (arms_of (arms_view l.fn.arms))));
      kept : binding_of l.scope ≡ g;
    }

-- the same of the turns, while all names except the variable mean what they did
abbrev pub invariant-check_turns-loop-value : goal.invariant-check_turns-loop-value
invariant-check_turns-loop-value l =
    let g = binding_of l.fn.scope in
    let h = (loop_view l.fn.header).0 in
    let body = (loop_view l.fn.header).1 in
    record {
      met : after_faults l.tally (lacking g l.fn.known (names_in_turns (drop l.value-index l.value-items) (λ v. reads (in_turn h v g) body))) ≡ after_faults l.fn.tally (lacking g l.fn.known (names_in_turns (loops.turns g h) (λ v. reads (in_turn h v g) body)));
      kept : SameBut (base_name h.name).name (binding_of l.scope) g;
    }
