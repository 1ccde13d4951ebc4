use Rattle.std.proofs.Common.{◌≡◌, ◌+◌, ◌≤◌}
use Rattle.early_sets.specs.Adds.{Adds}
use Rattle.early_sets.specs.Early.{IsEarlyInput}
use Rattle.early_sets.proofs.early.insert_inputs.Given as goal

-- the free ones of the inputs so far are put in, each in a turn
abbrev pub invariant-loop-place : goal.invariant-loop-place
invariant-loop-place g l = (l.early.size ≡ l.fn.early.size) × Adds (IsEarlyInput l.tables l.habit l.noted.items l.place l.trigger) l.fn.early.items l.early.items × (g.T.Turns.counted l.turns ≤ g.T.Turns.counted l.fn.turns + l.place)
