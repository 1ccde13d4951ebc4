use Rattle.std.proofs.Common.{◌≡◌, ◌+◌, ◌*◌, drop}
use Rattle.flat_design.specs.Numbering.{all_lines, item_lines}
use Rattle.verilog_tree.specs.Tree.{statements_of, arms_of}
use Rattle.verilog_tree.specs.View.{statements_view, arms_view}
use Rattle.verilog_tree.specs.declared.statement.Statement.{size-Statement}
use Rattle.elab_bodies.proofs.numbers.+pass_lines.Given as goal

-- the numbers so far, with those of the rest, are those of all parts
abbrev pub invariant-pass_all_lines-loop-part : goal.invariant-pass_all_lines-loop-part
invariant-pass_all_lines-loop-part l =
    l.line + all_lines (statements_of (statements_view (drop l.part-index l.parts))) ≡ l.fn.line + all_lines (statements_of (statements_view l.fn.parts))

-- or of all arms
abbrev pub invariant-pass_arm_lines-loop-arm : goal.invariant-pass_arm_lines-loop-arm
invariant-pass_arm_lines-loop-arm l =
    l.line + item_lines (arms_of (arms_view (drop l.arm-index l.arms))) ≡ l.fn.line + item_lines (arms_of (arms_view l.fn.arms))

-- each call is of a part
abbrev pub decreases-pass_lines : goal.decreases-pass_lines
decreases-pass_lines l = 2 * size-Statement l.statement.now

abbrev pub decreases-pass_all_lines : goal.decreases-pass_all_lines
decreases-pass_all_lines l = 2 * goal.size-pass_all_lines l + 1

abbrev pub decreases-pass_arm_lines : goal.decreases-pass_arm_lines
decreases-pass_arm_lines l = 2 * goal.size-pass_arm_lines l + 1
