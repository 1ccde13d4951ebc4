use Rattle.std.proofs.Common.{◌≡◌, ◌+◌, ◌++◌, drop}
use Rattle.number_tables.specs.Tables.{laid_out, whole_width}
use Rattle.number_tables.proofs.rows.lay_out.Given as goal

-- the rows so far, with those of the rest, are all
abbrev pub invariant-loop-range : goal.invariant-loop-range
invariant-loop-range l = record {
  rows : l.rows.items ++ laid_out l.start (drop l.range-index l.ranges) ≡ laid_out 0 l.ranges;
  total : l.start + whole_width (drop l.range-index l.ranges) ≡ whole_width l.ranges;
}
