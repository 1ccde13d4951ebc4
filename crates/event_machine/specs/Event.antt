-- The events of a step, and what each does to the state (the simulation reference model, IEEE 1364-2001, 5.4).
use Rattle.std.specs.Prelude.{◌≡◌, ◌≢◌, ℕ, Bool, true, false, not, ◌&&◌, ◌||◌, ◌==◌, List, [], ◌∷◌, ◌++◌, ⊤}
use Rattle.event_machine.specs.Cell.{Cell, Values, Write, Update, same_cell, put, put_all}
use Rattle.event_machine.specs.Machine.{Machine, wakes}
use Rattle.event_machine.specs.State.{State, IsQuiet}

-- what happens in a step
pub data Event (V : Type 0) : Type 0 where
  Move : List (Write V) → Event V  -- the environment changes some input cells
  Evaluate : ℕ → Event V  -- a woken process is evaluated whole
  Activate : Event V  -- the queued updates become active
  Apply : Event V  -- the first active update is written

-- the first update, or none
abbrev pub first : {V : Type 0} → List (Update V) → Update V
first [] = []
first (u ∷ us) = u

-- all but the first
abbrev pub rest : {A : Type 0} → List A → List A
rest [] = []
rest (x ∷ xs) = xs

-- what an event writes
abbrev pub event_writes : {V : Type 0} → Machine V → State V → Event V → List (Write V)
event_writes m s (Move ws) = ws
event_writes m s (Evaluate p) = (m.evaluate p s.values).blocking
event_writes m s Activate = []
event_writes m s Apply = first s.active

-- whether the event is an evaluation of p
abbrev pub is_evaluation : {V : Type 0} → ℕ → Event V → Bool
is_evaluation p (Evaluate q) = q == p
is_evaluation p (Move ws) = false
is_evaluation p Activate = false
is_evaluation p Apply = false

-- the active updates after an event
abbrev pub active_after : {V : Type 0} → State V → Event V → List (Update V)
active_after s (Move ws) = s.active
active_after s (Evaluate p) = s.active
active_after s Activate = s.queued
active_after s Apply = rest s.active

-- the queued updates after an event
abbrev pub queued_after : {V : Type 0} → Machine V → State V → Event V → List (Update V)
queued_after m s (Move ws) = s.queued
queued_after m s (Evaluate p) = s.queued ++ (m.evaluate p s.values).nonblocking
queued_after m s Activate = []
queued_after m s Apply = s.queued

-- the cells that have moved once this one has
unfoldable pub mark : {V : Type 0} → (Cell → Bool) → Write V → Cell → Bool
mark moved w c = same_cell w.cell c || moved c

-- the cells that have moved once these have
abbrev pub mark_all : {V : Type 0} → (Cell → Bool) → List (Write V) → Cell → Bool
mark_all moved [] = moved
mark_all moved (w ∷ ws) = mark_all (mark moved w) ws

-- the cells that have moved after an event
abbrev pub moved_after : {V : Type 0} → State V → Event V → Cell → Bool
moved_after s (Move ws) = mark_all s.moved ws
moved_after s (Evaluate p) = s.moved
moved_after s Activate = s.moved
moved_after s Apply = s.moved

-- the state after an event: its writes wake who is sensitive to them, but not the process that is evaluated
abbrev pub state_after : {V : Type 0} → Machine V → State V → Event V → State V
state_after m s e =
    record {
      values = put_all s.values (event_writes m s e);
      woken = λ p. not (is_evaluation p e) && (s.woken p || wakes m p s.values (event_writes m s e));
      active = active_after s e;
      queued = queued_after m s e;
      moved = moved_after s e;
    }

-- the state at the end of these events
abbrev pub end_state : {V : Type 0} → Machine V → State V → List (Event V) → State V
end_state m s [] = s
end_state m s (e ∷ es) = end_state m (state_after m s e) es

-- one Move may make these writes, in order: each gives an input cell that has not moved another value
abbrev pub CanMove : {V : Type 0} → Machine V → (Cell → Bool) → Values V → List (Write V) → Type 0
CanMove m moved v [] = ⊤
CanMove m moved v (w ∷ ws) =
    (m.is_input w.cell ≡ true) × (moved w.cell ≡ false) × (v w.cell ≢ w.value) × CanMove m (mark moved w) (put v w) ws

-- the event may happen at this state: queued updates become active only where there is no event
abbrev pub CanOccur : {V : Type 0} → Machine V → State V → Event V → Type 0
CanOccur m s (Move ws) = (ws ≢ []) × CanMove m s.moved s.values ws
CanOccur m s (Evaluate p) = s.woken p ≡ true
CanOccur m s Activate = IsQuiet s × (s.queued ≢ [])
CanOccur m s Apply = s.active ≢ []

-- each of the events may happen at its place; active events come in any order (IEEE 1364-2001, 5.4.2)
abbrev pub IsLegal : {V : Type 0} → Machine V → State V → List (Event V) → Type 0
IsLegal m s [] = ⊤
IsLegal m s (e ∷ es) = CanOccur m s e × IsLegal m (state_after m s e) es
