use Rattle.std.proofs.Common.{◌≡◌, ◌≤◌, ◌+◌, min, drop}
use Rattle.verilog_tree.specs.Tree.{exprs_of}
use Rattle.verilog_tree.specs.View.{exprs_view}
use Rattle.elab_const.specs.Weight.{repeats_of_all}
use Rattle.elab_const.proofs.weight.+weight.Given as goal

-- the sum so far, with that of the rest, is that of all
abbrev pub invariant-repeats_of_all-loop-part : goal.invariant-repeats_of_all-loop-part
invariant-repeats_of_all-loop-part l =
    record {
      whole : min (l.sum + repeats_of_all (exprs_of (exprs_view (drop l.part-index l.parts)))) 18446744073709551615 ≡ min (repeats_of_all (exprs_of (exprs_view l.fn.parts))) 18446744073709551615;
      small : l.sum ≤ 18446744073709551615;
    }
