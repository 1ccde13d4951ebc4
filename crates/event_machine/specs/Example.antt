-- A divided clock in one step: always @(posedge clk) h <= ~h; always @(posedge h) q <= d.
use Rattle.std.specs.Prelude.{ℕ, zero, suc, ◌==◌, Bool, true, false, not, ◌&&◌, ◌||◌, List, [], ◌∷◌}
use Rattle.event_machine.specs.Cell.{Cell, Values}
use Rattle.event_machine.specs.Machine.{Edge, Posedge, Negedge, Machine, Outcome, IsLawful}
use Rattle.event_machine.specs.State.{State}
use Rattle.event_machine.specs.Event.{Event, Move, Evaluate, Activate, Apply}
use Rattle.event_machine.specs.Habit.{Habit, Free, Late}
use Rattle.event_machine.specs.Step.{IsStep}
use Rattle.event_machine.specs.Told.{Told, IsAsTold}
use Rattle.event_machine.specs.MayMove.{IsClean}
use Rattle.event_machine.specs.Single.{IsSingle}
use Rattle.event_machine.specs.Laws.{EvaluatesOnce}

-- the one bit of thing x: clk is 0, d 1, h 2 and q 3
abbrev pub bit : ℕ → Cell
bit x = record { thing = x; place = 0 }

-- whether the cell is the one bit of thing x
abbrev pub is : Cell → ℕ → Bool
is c x = (c.thing == x) && (c.place == 0)

-- whether two values are equal
abbrev pub same : Bool → Bool → Bool
same true y = y
same false y = not y

-- the edges of a truth value
abbrev pub is_edge : Edge → Bool → Bool → Bool
is_edge Posedge x y = not x && y
is_edge Negedge x y = x && not y

-- process 0 lists the rising edge of clk, and process 1 that of h
abbrev pub edge : ℕ → Edge → Cell → Bool
edge zero Posedge c = is c 0
edge (suc zero) Posedge c = is c 2
edge (suc (suc p)) Posedge c = false
edge p Negedge c = false

-- process 0 writes h, and process 1 writes q
abbrev pub target : ℕ → Cell → Bool
target zero c = is c 2
target (suc zero) c = is c 3
target (suc (suc p)) c = false

-- process 0 inverts h, and process 1 copies d to q
abbrev pub evaluate : ℕ → Values Bool → Outcome Bool
evaluate zero v = record { blocking = []; nonblocking = (record { cell = bit 2; value = not (v (bit 2)) } ∷ []) ∷ [] }
evaluate (suc zero) v = record { blocking = []; nonblocking = (record { cell = bit 3; value = v (bit 1) } ∷ []) ∷ [] }
evaluate (suc (suc p)) v = record { blocking = []; nonblocking = [] }

-- the design as a machine
abbrev pub divider : Machine Bool
divider =
    record {
      same = same;
      is_edge = is_edge;
      is_input = λ c. is c 0 || is c 1;
      is_event_signal = λ x. (x == 0) || (x == 2);
      is_assign = λ p. false;
      level = λ p x. false;
      edge = edge;
      blocking = λ p c. false;
      nonblocking = target;
      writes_once = λ p c. true;
      evaluate = evaluate;
    }

-- before the step d alone is true
abbrev pub start : State Bool
start = record { values = λ c. is c 1; woken = λ p. false; active = []; queued = []; moved = λ c. false }

-- clk rises, and h and q rise with it
abbrev pub told : Told Bool
told = record { is_told = λ x. true; old = λ c. is c 1; new = λ c. is c 0 || (is c 1 || (is c 2 || is c 3)) }

-- the events of the step
abbrev pub events : List (Event Bool)
events = Move (record { cell = bit 0; value = true } ∷ []) ∷ Evaluate 0 ∷ Activate ∷ Apply ∷ Evaluate 1 ∷ Activate ∷ Apply ∷ []

-- the premises of the laws are met, and so the edge law speaks of this step
pub record IsWorkedExample : Type 0 where
  pub lawful : IsLawful divider
  pub step : (h : Habit) → IsStep divider h start events
  pub as_told : IsAsTold divider told start events
  pub clean : IsClean divider told (IsSingle divider told 0) 0 (bit 0)
  pub clean_next : IsClean divider told (IsSingle divider told 1) 1 (bit 2)
  pub once : EvaluatesOnce divider told (IsSingle divider told 1) Free 1 (bit 2) start events
  pub once_late : EvaluatesOnce divider told (IsSingle divider told 1) Late 1 (bit 2) start events
