use Rattle.std.proofs.Common.{◌≡◌, drop, map}
use Rattle.std.specs.List.{list_any, range_with_len}
use Rattle.flat_design.specs.Processes.{reads_bits}
use Rattle.elab_scope.specs.View.{writing_view}
use Rattle.elab_processes.proofs.reads.has_driver.Given as goal

-- whether one of the rest drives such a bit decides
abbrev pub invariant-loop-written : goal.invariant-loop-written
invariant-loop-written l =
    let read = l.fn.read in
    list_any (reads_bits read.thing (range_with_len read.low read.count)) (map writing_view (drop l.written-index l.driven))
    ≡ list_any (reads_bits read.thing (range_with_len read.low read.count)) (map writing_view l.fn.driven)
