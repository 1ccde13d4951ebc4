use Rattle.std.proofs.Common.{◌≡◌, ◌+◌, ◌≤◌, length, true, take}
use Rattle.early_sets.specs.Adds.{Adds}
use Rattle.early_sets.specs.Reached.{IsRowItem}
use Rattle.early_sets.proofs.closure.insert_items.Given as goal

-- the items so far are put in, each in a turn
abbrev pub invariant-loop-item : goal.invariant-loop-item
invariant-loop-item g l = (l.set.size ≡ l.fn.set.size) × Adds (IsRowItem true (take l.item-index l.row) l.except) l.fn.set.items l.set.items × (l.item-index ≤ length l.row) × (g.T.Turns.counted l.turns ≤ g.T.Turns.counted l.fn.turns + l.item-index)
