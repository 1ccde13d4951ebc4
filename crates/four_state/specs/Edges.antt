-- The edges between two values of a bit (IEEE 1364-2001, clause 9.7.2).
use Rattle.std.specs.Prelude.{Bool, ◌||◌, ◌&&◌, not, if◌then◌else◌, Option, Some, None}
use Rattle.four_state.specs.Vector.{Bit, is_zero, is_one}
pub use Rattle.four_state.specs.declared.edge.Edge.{Edge}
pub use Rattle.four_state.specs.declared.edge.Edge.TheVariants.{Pos, Neg}

-- from 0 to 1, x or z, or from x or z to 1
abbrev pub rises : Bit → Bit → Bool
rises before after = (is_zero before && not (is_zero after)) || (not (is_one before) && is_one after)

-- from 1 to 0, x or z, or from x or z to 0
abbrev pub falls : Bit → Bit → Bool
falls before after = (is_one before && not (is_one after)) || (not (is_zero before) && is_zero after)

-- the edge, if there is one
abbrev pub edge_between : Bit → Bit → Option Edge
edge_between before after = if rises before after then Some Pos else (if falls before after then Some Neg else None)
