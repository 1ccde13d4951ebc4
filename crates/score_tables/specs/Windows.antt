-- The windows of a dump.
use Rattle.std.specs.Prelude.{ℕ, List, [], ◌∷◌, ◌++◌}
use Rattle.coverage_db.specs.declared.window.Window.{Window}
use Rattle.design_model.specs.Shows.{last_time}

-- where a stretch lists two times, its window is from the first to the last
abbrev pub window_of : List ℕ → List Window
window_of [] = []
window_of (t ∷ []) = []
window_of (t ∷ u ∷ us) = record { first = t; last = last_time u us } ∷ []

-- the windows of these stretches
abbrev pub windows_of : List (List ℕ) → List Window
windows_of [] = []
windows_of (ts ∷ tss) = window_of ts ++ windows_of tss
