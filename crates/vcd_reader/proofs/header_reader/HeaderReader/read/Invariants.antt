use Rattle.std.proofs.Common.{◌≡◌, ℕ, true, List, ◌++◌, take}
use Rattle.vcd_reader.specs.Progress.{is_going}
use Rattle.vcd_reader.specs.Standing.{HeaderStands}
use Rattle.vcd_reader.proofs.header_reader.HeaderReader.read.Given as goal

abbrev pub invariant-loop-place : goal.invariant-loop-place
invariant-loop-place l = record {
  going : is_going l.self.progress ≡ true;
  stands : (text : List ℕ) → HeaderStands l.fn.self text → HeaderStands l.self (text ++ take l.place l.piece);
}
