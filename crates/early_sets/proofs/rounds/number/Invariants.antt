use Rattle.std.proofs.Common.{◌+◌, ◌≤◌, take}
use Rattle.early_sets.proofs.Numbering.{AreNumbered}
use Rattle.early_sets.proofs.rounds.number.Given as goal

-- the members so far have the number, each in a turn
abbrev pub invariant-loop-place : goal.invariant-loop-place
invariant-loop-place g l = AreNumbered (take l.place l.set.items) l.round l.fn.rounds.items l.rounds.items × (g.T.Turns.counted l.turns ≤ g.T.Turns.counted l.fn.turns + l.place)
