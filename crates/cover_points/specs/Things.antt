-- The points of the bits of signals and of the words of memories.
use Rattle.std.specs.Prelude.{◌+◌, ◌-◌, ℕ, true, false, not, List, [], ◌∷◌, min, max}
use Rattle.std.specs.List.{flat_map, range_with_len}
use Rattle.design_model.specs.declared.design.Memory.{Memory}
use Rattle.design_model.specs.declared.design.Signal.{Signal}
use Rattle.design_model.specs.declared.point.Point.{Point}
use Rattle.design_model.specs.declared.point.Point.TheVariants.{Toggle as toggle_point, Word as word_point}
use Rattle.cover_points.specs.declared.points.IndexPoint.{IndexPoint}

-- the two points of an index
abbrev pub two_points : ℕ → ℕ → List IndexPoint
two_points x i = record { thing = x; index = i; second = false } ∷ record { thing = x; index = i; second = true } ∷ []

-- two points for each index between two bounds, both included
abbrev pub index_points : ℕ → ℕ → ℕ → List IndexPoint
index_points x a b = flat_map (two_points x) (range_with_len (min a b) (max a b - min a b + 1))

-- the points of the bits of a signal
abbrev pub signal_indexes : ℕ → Signal → List IndexPoint
signal_indexes k s = index_points k s.high s.low

-- the points of the words of a memory
abbrev pub memory_indexes : ℕ → Memory → List IndexPoint
memory_indexes k m = index_points k m.first m.last

-- of a bit: from 0 to 1, and then from 1 to 0
abbrev pub toggle_view : IndexPoint → Point
toggle_view x = toggle_point x.thing x.index (not x.second)

-- of a word: read, and then written
abbrev pub word_view : IndexPoint → Point
word_view x = word_point x.thing x.index x.second
