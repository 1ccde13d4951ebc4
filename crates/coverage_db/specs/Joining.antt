-- Joining the windows of two tables one by one.
use Rattle.std.specs.Prelude.{◌≡◌, ◌<◌, ◌+◌, List, ◌∷◌, length}
use Rattle.coverage_db.specs.declared.window.Window.{Window}
use Rattle.coverage_db.specs.Table.{Rises}
use Rattle.coverage_db.specs.Windows.{joined_windows, window_cmp}

-- the window is the first of both lists, and these are left of them without it
pub record IsTaken (left right : List Window) (window : Window) (more others : List Window) : Type 0 where
  pub joined : joined_windows left right ≡ window ∷ joined_windows more others
  pub left_rises : Rises window_cmp more
  pub right_rises : Rises window_cmp others
  pub shorter : length more + length others < length left + length right
