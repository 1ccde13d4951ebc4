use Rattle.std.proofs.Common.{◌≡◌, ◌++◌, drop, map, All}
use Rattle.cov_report.specs.Views.{block_instance}
use Rattle.cov_report.proofs.Viewing.{IsNamed}
use Rattle.cov_report.proofs.block.blocks.Given as goal

-- a block for each instance so far, with its name
abbrev pub invariant-loop-instance : goal.invariant-loop-instance
invariant-loop-instance l = record {
  instances : map block_instance l.found.items ++ drop l.instance-index l.instances ≡ l.instances;
  named : All (IsNamed l.options) l.found.items;
}
