use Rattle.std.proofs.Common.{◌≡◌, take}
use Rattle.db_tools.proofs.copies.copy_windows.Given as goal

abbrev pub invariant-loop-window : goal.invariant-loop-window
invariant-loop-window l = l.copies ≡ take l.window-index l.windows
