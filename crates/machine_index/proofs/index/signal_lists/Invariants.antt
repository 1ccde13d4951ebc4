use Rattle.std.proofs.Common.{◌≡◌, ◌∷◌, [], map, take}
use Rattle.machine_index.proofs.index.signal_lists.Given as goal

-- the signals of the machines so far
abbrev pub invariant-loop-machine : goal.invariant-loop-machine
invariant-loop-machine l = map (λ list. list.items) l.lists.items ≡ map (λ machine. machine.signal ∷ []) (take l.machine-index l.machines)
