use Rattle.std.proofs.Common.{◌≡◌, drop}
use Rattle.verilog_tree.specs.Tree.{arms_of, statements_of}
use Rattle.verilog_tree.specs.View.{arms_view, loop_view, statements_view}
use Rattle.flat_design.specs.Bodies.{all_met, in_turn, items_met, met, met_turns}
use Rattle.flat_design.specs.Identifiers.{base_name}
use Rattle.flat_design.specs.Loops as loops
use Rattle.flat_design.specs.Scope.{binding_of}
use Rattle.elab_scope.specs.Tally.{after_all}
use Rattle.elab_checks.proofs.RestoredLemmas.{SameBut}
use Rattle.elab_checks.proofs.statements.+statement.Given as goal

-- what was met so far, and then what is met in the rest, is what is met in all
abbrev pub invariant-check_statements-loop-statement : goal.invariant-check_statements-loop-statement
invariant-check_statements-loop-statement l =
    record {
      met : after_all l.tally (all_met (binding_of l.fn.scope) l.fn.mode l.fn.process (statements_of (statements_view (drop l.statement-index l.statements)))) ≡ after_all l.fn.tally (all_met (binding_of l.fn.scope) l.fn.mode l.fn.process (statements_of (statements_view l.fn.statements)));
      kept : binding_of l.scope ≡ binding_of l.fn.scope;
    }

abbrev pub invariant-check_arms-loop-arm : goal.invariant-check_arms-loop-arm
invariant-check_arms-loop-arm l =
    record {
      met : after_all l.tally (items_met (binding_of l.fn.scope) l.fn.mode l.fn.process (arms_of (arms_view (drop l.arm-index l.arms)))) ≡ after_all l.fn.tally (items_met (binding_of l.fn.scope) l.fn.mode l.fn.process (arms_of (arms_view l.fn.arms)));
      kept : binding_of l.scope ≡ binding_of l.fn.scope;
    }

-- the same of the turns, while all names except the variable mean what they did
abbrev pub invariant-check_turns-loop-value : goal.invariant-check_turns-loop-value
invariant-check_turns-loop-value l =
    let g = binding_of l.fn.scope in
    let h = (loop_view l.fn.header).0 in
    let body = (loop_view l.fn.header).1 in
    record {
      met : after_all l.tally (met_turns (drop l.value-index l.value-items) (λ v. met (in_turn h v g) l.fn.mode l.fn.process body)) ≡ after_all l.initial.tally (met_turns (loops.turns g h) (λ v. met (in_turn h v g) l.fn.mode l.fn.process body));
      kept : SameBut (base_name h.name).name (binding_of l.scope) g;
    }
