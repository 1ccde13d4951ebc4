-- The sets of a step.
use Rattle.std.specs.Prelude.{◌==◌, ◌&&◌, if◌then◌else◌, ℕ, Bool, not, List, [], ◌∷◌, Option, Some, None}
use Rattle.std.specs.List.{list_all}
use Rattle.four_state.specs.declared.edge.Edge.{Edge}
use Rattle.index_sets.specs.Rows.{row_at}
use Rattle.wake_tables.specs.declared.tables.WakeTables.{WakeTables}
use Rattle.early_sets.specs.declared.edges.Edges.{Edges}
use Rattle.early_sets.specs.declared.rule.Rule.{Rule}
use Rattle.early_sets.specs.declared.wakes.Wakes.{Wakes}
use Rattle.early_sets.specs.Edges.{may_be}
use Rattle.early_sets.specs.Changes.{edges_by, is_single_by, is_told_by, own_edges_by}
use Rattle.early_sets.specs.Has.{is_in}

-- the tables and inputs of a design, what was reported of a step, and what is in the sets
pub record WakeState : Type 0 where
  pub tables : WakeTables
  pub told : List Bool  -- for each signal or memory whether it is an input whose changes are reported
  pub untold : List ℕ  -- the other inputs
  pub writers : List (Option ℕ)  -- for each the block that writes it, where it may become single
  pub own : List Edges  -- for each the edges of the change that was reported last
  pub noted : List ℕ  -- the inputs that change, or may change
  pub changed : List ℕ  -- the others whose change was reported
  pub derived : List ℕ  -- the others that are single: they change at most once in the step
  pub rounds : List ℕ  -- for each of these the round in which it became single
  pub moves : List ℕ  -- what may move
  pub woken : List ℕ  -- the processes that may be woken
  pub early : List ℕ  -- what is early for the block that was chosen

-- the sets of a step that is at hand
abbrev pub state_of : Wakes → WakeState
state_of w =
    record {
      tables = w.tables;
      told = w.changes.told.items;
      untold = w.untold.items;
      writers = w.writers.items;
      own = w.changes.own.items;
      noted = w.noted.items;
      changed = w.changes.changed.items;
      derived = w.changes.derived.items;
      rounds = w.rounds.items;
      moves = w.moves.items;
      woken = w.woken.items;
      early = w.early.items;
    }

-- the thing is an input whose changes are reported
abbrev pub is_told : WakeState → ℕ → Bool
is_told w x = is_told_by w.told x

-- the thing changes at most once in the step
abbrev pub is_single : WakeState → ℕ → Bool
is_single w x = is_single_by w.told w.derived x

-- the edges of its change as it was reported
abbrev pub own_edges : WakeState → ℕ → Edges
own_edges w x = own_edges_by w.told w.own w.changed x

-- the edges that a change of it may be
abbrev pub edges_at : WakeState → ℕ → Edges
edges_at w = edges_by w.told w.own w.changed w.derived

-- nothing is left out of what may move
abbrev pub nothing_left : Rule
nothing_left = record { trigger = None; block = None }

-- the signal of this edge may move, and its change may be the edge
abbrev pub can_wake_by : WakeState → (Edge × ℕ) → Bool
can_wake_by w e = is_in w.moves e.1 && may_be (edges_at w e.1) e.0

-- the signal of the first edge that passes a test
abbrev pub first_signal : ((Edge × ℕ) → Bool) → List (Edge × ℕ) → Option ℕ
first_signal f [] = None
first_signal f (e ∷ es) = if f e then Some e.1 else first_signal f es

-- the first event signal by which a process can wake
abbrev pub waker_of : WakeState → ℕ → Option ℕ
waker_of w p = first_signal (can_wake_by w) (row_at w.tables.events p)

-- the process can wake by no other event signal
abbrev pub wakes_only_by : WakeState → ℕ → ℕ → Bool
wakes_only_by w p s = list_all (λ e. not (not (e.1 == s) && can_wake_by w e)) (row_at w.tables.events p)

-- this signal, where it is the trigger
abbrev pub trigger_by : WakeState → ℕ → Option ℕ → Option ℕ
trigger_by w p None = None
trigger_by w p (Some s) = if is_single w s && wakes_only_by w p s then Some s else None

-- the trigger of a process, where it is clean
abbrev pub trigger_of : WakeState → ℕ → Option ℕ
trigger_of w p = trigger_by w p (waker_of w p)
