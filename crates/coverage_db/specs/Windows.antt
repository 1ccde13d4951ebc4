-- The windows of a table: their order, and those of two tables.
use Rattle.std.specs.Prelude.{Bool, false, ◌&&◌, ◌||◌, ◌==◌, List, [], ◌∷◌, ◌++◌}
use Rattle.std.specs.declared.cmp.Ordering.{Ordering}
use Rattle.std.specs.declared.cmp.Ordering.TheVariants.{Less, Equal, Greater}
use Rattle.std.specs.Ordering.{nat_cmp, ordering_then}
use Rattle.coverage_db.specs.declared.window.Window.{Window}

-- by the first time, and then by the last
abbrev pub window_cmp : Window → Window → Ordering
window_cmp a b = ordering_then (nat_cmp a.first b.first) (nat_cmp a.last b.last)

-- the window is one of these
abbrev pub is_among : Window → List Window → Bool
is_among w [] = false
is_among w (v ∷ vs) = (w.first == v.first && w.last == v.last) || is_among w vs

-- a window beside the first of those that rise, where this is what it makes of the others
abbrev pub put_beside : Ordering → Window → Window → List Window → List Window → List Window
put_beside Less w v vs more = w ∷ v ∷ vs
put_beside Equal w v vs more = v ∷ vs
put_beside Greater w v vs more = v ∷ more

-- windows that rise, and this one in its place, once
abbrev pub put_window : Window → List Window → List Window
put_window w [] = w ∷ []
put_window w (v ∷ vs) = put_beside (window_cmp w v) w v vs (put_window w vs)

-- these windows, each once, rising
abbrev pub rising_windows : List Window → List Window
rising_windows [] = []
rising_windows (w ∷ ws) = put_window w (rising_windows ws)

-- the windows that either list has, each once, rising
abbrev pub joined_windows : List Window → List Window → List Window
joined_windows left right = rising_windows (left ++ right)
