use Rattle.std.proofs.Common.{◌≡◌, ◌+◌, ◌*◌, ◌≤◌, ◌++◌, max, None, drop}
use Rattle.verilog_tree.specs.Tree.{exprs_of}
use Rattle.verilog_tree.specs.View.{exprs_view}
use Rattle.elab_const.specs.Scope.{look_up}
use Rattle.elab_const.specs.Meaning.{parts_of, bits_before, IsJoined}
use Rattle.elab_const.specs.Faults.{first_fault}
use Rattle.verilog_tree.specs.declared.expr.Expr.{size-Expr}
use Rattle.elab_const.proofs.evaluate.+evaluate.Given as goal

-- the fault and the width so far, with those of the rest, are those of all parts
abbrev pub invariant-total_width-loop-part : goal.invariant-total_width-loop-part
invariant-total_width-loop-part l =
    let rest = exprs_of (exprs_view (drop l.part-index l.parts)) in
    let all = exprs_of (exprs_view l.fn.parts) in
    record {
      first : first_fault (look_up l.names) l.found rest ≡ first_fault (look_up l.fn.names) None all;
      whole : l.found ≡ None → l.width + (parts_of (look_up l.names) rest).width ≡ (parts_of (look_up l.fn.names) all).width;
      small : l.width ≤ 128 * l.part-index;
    }

-- the fault, the width and the bits so far, with those of the rest, are those of all parts
abbrev pub invariant-joined_parts-loop-part : goal.invariant-joined_parts-loop-part
invariant-joined_parts-loop-part l =
    let rest = exprs_of (exprs_view (drop l.part-index l.parts)) in
    let all = exprs_of (exprs_view l.fn.parts) in
    record {
      first : first_fault (look_up l.names) l.found rest ≡ first_fault (look_up l.fn.names) None all;
      width : l.found ≡ None → l.joined.width + (parts_of (look_up l.names) rest).width ≡ (parts_of (look_up l.fn.names) all).width;
      bits : l.found ≡ None → l.joined.width ≤ 128 → (parts_of (look_up l.names) rest).bits ++ bits_before l.joined.value ≡ (parts_of (look_up l.fn.names) all).bits;
      small : l.joined.width ≤ 128 * l.part-index;
      whole : IsJoined l.joined;
    }

-- each call is of a part, or of the same expression by a function further down
abbrev pub decreases-measure : goal.decreases-measure
decreases-measure l = 8 * size-Expr l.expr.now

abbrev pub decreases-evaluate : goal.decreases-evaluate
decreases-evaluate l = 8 * size-Expr l.expr.now + 1

abbrev pub decreases-number : goal.decreases-number
decreases-number l = 8 * size-Expr l.expr.now + 2

abbrev pub decreases-total_width : goal.decreases-total_width
decreases-total_width l = 8 * goal.size-total_width l + 3

abbrev pub decreases-joined_parts : goal.decreases-joined_parts
decreases-joined_parts l = 8 * goal.size-joined_parts l + 3

abbrev pub decreases-pair : goal.decreases-pair
decreases-pair l = 8 * max (size-Expr l.a.now) (size-Expr l.b.now) + 3

abbrev pub decreases-operands : goal.decreases-operands
decreases-operands l = 8 * max (size-Expr l.a.now) (size-Expr l.b.now) + 4

abbrev pub decreases-measure_part : goal.decreases-measure_part
decreases-measure_part l = 8 * max (size-Expr l.of.now) (max (size-Expr l.high.now) (size-Expr l.low.now)) + 3

abbrev pub decreases-measure_slide : goal.decreases-measure_slide
decreases-measure_slide l = 8 * max (size-Expr l.of.now) (max (size-Expr l.base.now) (size-Expr l.width.now)) + 3
