use Rattle.std.proofs.Common.{◌≡◌, ◌++◌, drop, map}
use Rattle.coverage_db.specs.Text.{text_of_lines, instance_line}
use Rattle.coverage_db.proofs.write.push_instances.Given as goal

abbrev pub invariant-loop-instance : goal.invariant-loop-instance
invariant-loop-instance l = l.text ++ text_of_lines (map instance_line (drop l.instance-index l.instances)) ≡ l.fn.text ++ text_of_lines (map instance_line l.instances)
