use Rattle.std.proofs.Common.{◌≡◌, ◌++◌, take}
use Rattle.std.specs.List.{filter}
use Rattle.once_writers.specs.Writers.{flag_at}
use Rattle.once_writers.proofs.lists.push_marked.Given as goal

-- the marked ones so far
abbrev pub invariant-loop-thing : goal.invariant-loop-thing
invariant-loop-thing l = l.marked.items ≡ l.fn.marked.items ++ filter (flag_at l.wanted) (take l.thing-index l.row)
