use Rattle.std.proofs.Common.{◌≡◌, ◌++◌, length}
use Rattle.command_line.specs.MachineWords.{names_left}
use Rattle.covered_cli.proofs.score_words.names_of.Given as goal

-- the names so far, and those that are left
abbrev pub invariant-names : goal.invariant-names
invariant-names l = l.names ++ names_left l.left ≡ names_left l.fn.given

abbrev pub decreases-names : goal.decreases-names
decreases-names l = length (names_left l.left)
