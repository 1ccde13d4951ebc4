use Rattle.std.proofs.Common.{◌-◌, ◌≤◌, ℕ, List, None, ◌++◌, length, take}
use Rattle.vcd_reader.specs.Reading.{Body}
use Rattle.vcd_reader.specs.BodyStanding.{BodyStands, SaysNext}
use Rattle.vcd_reader.specs.Passing.{Passing}
use Rattle.vcd_reader.proofs.body_reader.BodyReader.read.Given as goal

abbrev pub invariant-loop-used : goal.invariant-loop-used
invariant-loop-used l = record {
  within : l.used ≤ length l.piece;
  says : (text : List ℕ) (b : Body) → BodyStands l.fn.self text b → Passing l.filter b (SaysNext None l.self (text ++ take l.used l.piece));
}

abbrev pub decreases-loop-used : goal.decreases-loop-used
decreases-loop-used l = length l.piece - l.used
