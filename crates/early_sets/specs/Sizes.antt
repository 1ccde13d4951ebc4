-- The sizes of the sets of a step.
use Rattle.std.specs.Prelude.{◌≡◌, ◌<◌, ◌^◌, ℕ, Bool, List, [], Option, Some, None, length, slice_index_or}
use Rattle.std.specs.List.{Contains}
use Rattle.index_sets.specs.Members.{Members}
use Rattle.wake_tables.specs.declared.tables.WakeTables.{WakeTables}
use Rattle.early_sets.specs.declared.edges.Edges.{Edges}
use Rattle.early_sets.specs.declared.sets.Sets.{Sets}

-- the set takes numbers below the size, and has no members
pub record IsEmpty (set : Members) (size : ℕ) : Type 0 where
  pub size_is : set.size ≡ size
  pub items_are : set.items ≡ []

-- both sets take numbers below the size, and have no members
pub record AreTwoEmpty (sets : Members × Members) (size : ℕ) : Type 0 where
  pub first_is : IsEmpty sets.0 size
  pub second_is : IsEmpty sets.1 size

-- nothing has been found before the first step, in a design of so many things and processes
pub record AreNew (sets : Sets) (things processes : ℕ) : Type 0 where
  pub noted_is : IsEmpty sets.noted things
  pub ready_is : IsEmpty sets.ready things
  pub rounds_are : length sets.rounds.items ≡ things
  pub moves_is : IsEmpty sets.moves things
  pub woken_is : IsEmpty sets.woken processes
  pub early_is : IsEmpty sets.early things
  pub early_woken_is : IsEmpty sets.early_woken processes

-- what is known of the changes of a step is of one size
pub record AreChangeSizes (told : List Bool) (own : List Edges) (changed derived : Members) : Type 0 where
  pub own_are : length own ≡ length told
  pub changed_is : changed.size ≡ length told
  pub derived_is : derived.size ≡ length told

-- a process for each thing that may become single, of so many things and processes
pub record AreWriters (things processes : ℕ) (writers : List (Option ℕ)) : Type 0 where
  pub count_is : length writers ≡ things
  pub below : (x p : ℕ) → slice_index_or writers x None ≡ Some p → p < processes

-- the tables of a step are of the sizes of the design's
pub record AreSizes (t : WakeTables) (told : List Bool) (untold : List ℕ) (writers : List (Option ℕ)) (noted ready : Members) (rounds : List ℕ) (moves woken early early_woken : Members) : Type 0 where
  pub few : t.things < 2 ^ 32
  pub told_are : length told ≡ t.things
  pub untold_below : (x : ℕ) → Contains untold x → x < t.things
  pub writers_are : AreWriters t.things t.processes writers
  pub noted_is : noted.size ≡ t.things
  pub ready_is : ready.size ≡ t.things
  pub rounds_are : length rounds ≡ t.things
  pub moves_is : moves.size ≡ t.things
  pub woken_is : woken.size ≡ t.processes
  pub early_is : early.size ≡ t.things
  pub early_woken_is : early_woken.size ≡ t.processes
