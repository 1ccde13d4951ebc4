use Rattle.std.proofs.Common.{◌≡◌, length, map, take}
use Rattle.index_sets.specs.Rows.{AreStarts, rows_of}
use Rattle.index_sets.proofs.rows.Rows.from_lists.Given as goal

-- the rows so far
abbrev pub invariant-loop-list : goal.invariant-loop-list
invariant-loop-list g l = (rows_of l.items.items l.starts.items ≡ map (λ list. list.items) (take l.list-index l.lists)) × AreStarts (length l.items.items) l.starts.items
