-- What is known of the changes of a step.
use Rattle.std.specs.Prelude.{◌||◌, if◌then◌else◌, ℕ, Bool, false, List, slice_index_or}
use Rattle.early_sets.specs.declared.edges.Edges.{Edges}
use Rattle.early_sets.specs.declared.changes.Changes.{Changes}
use Rattle.early_sets.specs.Edges.{any_edges, no_edges}
use Rattle.early_sets.specs.Has.{is_in}

-- the thing is an input whose changes are reported
abbrev pub is_told_by : List Bool → ℕ → Bool
is_told_by told x = slice_index_or told x false

-- it changes at most once in the step: it is such an input, or was found to do so
abbrev pub is_single_by : List Bool → List ℕ → ℕ → Bool
is_single_by told derived x = is_told_by told x || is_in derived x

-- the edges of its change as it was reported, no edge where no change was reported
abbrev pub own_edges_by : List Bool → List Edges → List ℕ → ℕ → Edges
own_edges_by told own changed x = if is_told_by told x || is_in changed x then slice_index_or own x no_edges else no_edges

-- the edges that a change of it may be
abbrev pub edges_by : List Bool → List Edges → List ℕ → List ℕ → ℕ → Edges
edges_by told own changed derived x = if is_single_by told derived x then own_edges_by told own changed x else any_edges

-- by what is known of the changes of a step
abbrev pub edges_of : Changes → ℕ → Edges
edges_of c = edges_by c.told.items c.own.items c.changed.items c.derived.items
