use Rattle.std.proofs.Common.{◌≡◌}
use Rattle.vcd_reader.proofs.Paths.{path_to}
use Rattle.vcd_reader.proofs.declarations.path_of.Given as goal

abbrev pub invariant-loop-depth : goal.invariant-loop-depth
invariant-loop-depth l = l.path ≡ path_to l.depth l.scopes
