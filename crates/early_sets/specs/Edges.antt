-- Which edges the change of a signal may be.
use Rattle.std.specs.Prelude.{Bool, true, false}
use Rattle.four_state.specs.Edges.{falls, rises}
use Rattle.four_state.specs.declared.bit.Bit.{Bit}
use Rattle.four_state.specs.declared.edge.Edge.{Edge}
use Rattle.four_state.specs.declared.edge.Edge.TheVariants.{Neg, Pos}
use Rattle.early_sets.specs.declared.edges.Edges.{Edges}

-- those of a change from one bit to another
abbrev pub edges_between : Bit → Bit → Edges
edges_between old new = record { rise = rises old new; fall = falls old new }

-- those of a change that is not known
abbrev pub any_edges : Edges
any_edges = record { rise = true; fall = true }

-- no change is an edge
abbrev pub no_edges : Edges
no_edges = record { rise = false; fall = false }

-- the change may be this edge
abbrev pub may_be : Edges → Edge → Bool
may_be edges Pos = edges.rise
may_be edges Neg = edges.fall
