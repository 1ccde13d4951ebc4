use Rattle.std.proofs.Common.{◌≡◌, ◌++◌, map, take}
use Rattle.design_machines.specs.Drawn.{drawn_machine}
use Rattle.design_machines.proofs.drawn.push_drawn.Given as goal

-- the machines so far
abbrev pub invariant-loop-one : goal.invariant-loop-one
invariant-loop-one l = l.found.items ≡ l.initial.found.items ++ map drawn_machine (take l.one-index l.drawn)
