use Rattle.std.proofs.Common.{◌≡◌, take}
use Rattle.state_machines.proofs.names.names_of.Given as goal

-- the words so far
abbrev pub invariant-loop-place : goal.invariant-loop-place
invariant-loop-place l = l.names.items ≡ take l.place l.words
