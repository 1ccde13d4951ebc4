use Rattle.std.proofs.Common.{◌≡◌, [], length}
use Rattle.command_line.specs.OptionValues.{machines_of}
use Rattle.covered_cli.specs.ScoreMachines.{with_machines}
use Rattle.covered_cli.proofs.score_words.states_of.Given as goal

-- the machines so far with those that are left are all of them, and nothing is drawn
abbrev pub invariant-machines : goal.invariant-machines
invariant-machines l = record {
  named : with_machines (machines_of l.left) l.states.named ≡ with_machines (machines_of l.fn.given) [];
  drawn : l.states.drawn ≡ [];
}

abbrev pub decreases-machines : goal.decreases-machines
decreases-machines l = length (machines_of l.left)
