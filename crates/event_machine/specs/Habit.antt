-- The habits of the environment: when in a step it may move its inputs.
use Rattle.std.specs.Prelude.{◌≡◌, ℕ, Bool, true, false, List, [], ◌∷◌, ◌++◌, ⊤}
use Rattle.event_machine.specs.Cell.{Cell, Values, Write, put, WritesCell}
use Rattle.event_machine.specs.Machine.{Edge, Machine}
use Rattle.event_machine.specs.State.{State, IsQuiet}
use Rattle.event_machine.specs.Event.{Event, Move, Evaluate, Activate, Apply, state_after, end_state}

-- with Free a Move may happen at any point; with Late inputs that are no event signals wait
pub data Habit : Type 0 where
  Free : Habit
  Late : Habit

-- whether an input of this number may move at any point
abbrev pub is_free_input : {V : Type 0} → Machine V → Habit → ℕ → Bool
is_free_input m Free x = true
is_free_input m Late x = m.is_event_signal x

-- these writes, from v, make no edge that a process lists
abbrev pub MakesNoEdge : {V : Type 0} → Machine V → Values V → List (Write V) → Type 0
MakesNoEdge m v [] = ⊤
MakesNoEdge m v (w ∷ ws) = ((p : ℕ) (e : Edge) → m.edge p e w.cell ≡ true → m.is_edge e (v w.cell) w.value ≡ false) × MakesNoEdge m (put v w) ws

-- the event is no Move, or one that makes no edge that a process lists
abbrev pub IsNoWakingMove : {V : Type 0} → Machine V → State V → Event V → Type 0
IsNoWakingMove m s (Move ws) = MakesNoEdge m s.values ws
IsNoWakingMove m s (Evaluate p) = ⊤
IsNoWakingMove m s Activate = ⊤
IsNoWakingMove m s Apply = ⊤

-- none of the events is a waking Move
abbrev pub NoWakingMoves : {V : Type 0} → Machine V → State V → List (Event V) → Type 0
NoWakingMoves m s [] = ⊤
NoWakingMoves m s (e ∷ es) = IsNoWakingMove m s e × NoWakingMoves m (state_after m s e) es

-- in the events before lies a quiet moment, after which neither they nor the later ones have a waking Move
pub record FollowsQuiet {V : Type 0} (m : Machine V) (s : State V) (before later : List (Event V)) : Type 0 where
  pub until : List (Event V)
  pub since : List (Event V)
  pub splits : before ≡ until ++ since
  pub quiet : IsQuiet (end_state m s until)
  pub no_waking_moves : NoWakingMoves m (end_state m s until) (since ++ later)

-- the habit: an input that is not free moves only after a quiet moment that follows the last waking Move
abbrev pub IsByHabit : {V : Type 0} → Machine V → Habit → State V → List (Event V) → Type 0
IsByHabit {V} m h s es =
    (before : List (Event V)) (ws : List (Write V)) (after : List (Event V)) → es ≡ before ++ Move ws ∷ after
    → (c : Cell) → WritesCell ws c → is_free_input m h c.thing ≡ false → FollowsQuiet m s before (Move ws ∷ after)
