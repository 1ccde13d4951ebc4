use Rattle.std.proofs.Common.{◌≡◌, ◌+◌, ◌≤◌, length}
use Rattle.coverage_db.specs.Drafting.{read_lines, reading}
use Rattle.coverage_db.specs.Text.{lines_of}
use Rattle.coverage_db.proofs.ReadingLaws.{IsRead}
use Rattle.coverage_db.proofs.read.read_lines.Given as goal

-- reading goes on as it does from the start, and as many lines have been read as the number says
abbrev pub invariant-loop-line : goal.invariant-loop-line
invariant-loop-line l = record {
  goes_on : read_lines l.number l.draft (lines_of l.rest) ≡ reading l.fn.alloc l.fn.bytes;
  read : IsRead l.draft l.number;
  short : l.number + length l.rest ≤ 2147483649;
}

abbrev pub decreases-loop-line : goal.decreases-loop-line
decreases-loop-line l = length l.rest
