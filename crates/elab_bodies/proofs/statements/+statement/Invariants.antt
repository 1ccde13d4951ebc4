use Rattle.std.proofs.Common.{◌≡◌, ◌+◌, ◌*◌, max, map, drop}
use Rattle.four_state.specs.Vector.{Vector}
use Rattle.design_model.specs.Tree.{Stmt}
use Rattle.design_model.specs.View.{stmt_view}
use Rattle.elab_build.specs.Sound.{IsClear}
use Rattle.elab_checks.proofs.RestoredLemmas.{SameBut}
use Rattle.flat_design.specs.Bodies.{statement, statements, arms, turn_stmts}
use Rattle.flat_design.specs.Numbering.{all_lines, all_statement_nodes, item_lines, item_nodes}
use Rattle.flat_design.specs.Scope.{binding_of, with_turn}
use Rattle.verilog_tree.specs.Tree.{statements_of, arms_of}
use Rattle.verilog_tree.specs.View.{arms_view, statement_view, statements_view}
use Rattle.verilog_tree.specs.declared.statement.For.{size-For}
use Rattle.verilog_tree.specs.declared.statement.Statement.{size-Statement}
use Rattle.elab_bodies.specs.Sound.{IsSoundStatement, AreSoundStatements, AreSoundItems, InTurns}
use Rattle.elab_bodies.specs.View.{arm_view}
use Rattle.elab_bodies.proofs.FlatLists.{stmts_before, arms_before}
use Rattle.elab_bodies.proofs.statements.+statement.Given as goal

-- the statements so far, with those of the rest, are those of all parts
abbrev pub invariant-statements-loop-part : goal.invariant-statements-loop-part
invariant-statements-loop-part l =
    let g = binding_of l.fn.scope in
    let rest = statements_of (statements_view (drop l.part-index l.parts)) in
    let all = statements_of (statements_view l.fn.parts) in
    record {
      built : stmts_before (map stmt_view l.all.items) (statements l.base g rest l.line l.nodes) ≡ statements l.fn.base g all l.fn.line l.fn.nodes;
      lines : l.line + all_lines rest ≡ l.fn.line + all_lines all;
      counted : l.nodes + all_statement_nodes g rest ≡ l.fn.nodes + all_statement_nodes g all;
      kept : binding_of l.scope ≡ g;
      clear : IsClear (binding_of l.scope);
      sound : AreSoundStatements (binding_of l.scope) rest;
    }

-- the arms so far, with those of the rest, are all arms
abbrev pub invariant-case_arms-loop-arm : goal.invariant-case_arms-loop-arm
invariant-case_arms-loop-arm l =
    let g = binding_of l.fn.scope in
    let rest = arms_of (arms_view (drop l.arm-index l.arms)) in
    let all = arms_of (arms_view l.fn.arms) in
    record {
      built : arms_before (map arm_view l.all.items) (arms l.base g l.shape rest l.line l.nodes) ≡ arms l.fn.base g l.fn.shape all l.fn.line l.fn.nodes;
      lines : l.line + item_lines rest ≡ l.fn.line + item_lines all;
      counted : l.nodes + item_nodes g rest ≡ l.fn.nodes + item_nodes g all;
      kept : binding_of l.scope ≡ g;
      clear : IsClear (binding_of l.scope);
      sound : AreSoundItems (binding_of l.scope) rest;
    }

-- the turns so far, with those of the rest, are all turns
abbrev pub invariant-turn_statements-loop-value : goal.invariant-turn_statements-loop-value
invariant-turn_statements-loop-value l =
    let g = binding_of l.fn.scope in
    let f : Vector → Stmt = λ v. statement l.fn.base (with_turn l.fn.variable v g) (statement_view l.fn.body) l.fn.line l.fn.nodes in
    record {
      built : stmts_before (map stmt_view l.all.items) (turn_stmts (drop l.value-index l.values) f) ≡ turn_stmts l.fn.values f;
      kept : SameBut l.variable (binding_of l.scope) g;
      sound : InTurns (drop l.value-index l.values) (λ v. IsSoundStatement (with_turn l.variable v g) (statement_view l.body));
    }

-- each call is of a part, or of the same statement by a function further down
abbrev pub decreases-statement : goal.decreases-statement
decreases-statement l = 4 * size-Statement l.statement.now

abbrev pub decreases-statements : goal.decreases-statements
decreases-statements l = 4 * goal.size-statements l + 1

abbrev pub decreases-case_arms : goal.decreases-case_arms
decreases-case_arms l = 4 * goal.size-case_arms l + 1

abbrev pub decreases-select : goal.decreases-select
decreases-select l = 4 * goal.size-select l + 2

abbrev pub decreases-turn_statements : goal.decreases-turn_statements
decreases-turn_statements l = 4 * size-Statement l.body.now + 1

abbrev pub decreases-for_loop : goal.decreases-for_loop
decreases-for_loop l = 4 * size-For l.header.now + 2

abbrev pub decreases-otherwise : goal.decreases-otherwise
decreases-otherwise l = 4 * goal.size-otherwise l + 1

abbrev pub decreases-branch : goal.decreases-branch
decreases-branch l = 4 * max (size-Statement l.yes.now) (goal.size-branch l) + 2
