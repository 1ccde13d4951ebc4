-- A latch that closes while its data moves, worked out: en is signal 0, d is 1, y is 2.
--   always @* if (en) y = d;
use Rattle.std.specs.Prelude.{◌∷◌, if◌then◌else◌, true, false, List, [], nat_le, nat_lt, slice_index_or, codes}
use Rattle.event_machine.specs.Cell.{Values}
use Rattle.event_machine.specs.Event.{Evaluate, Event, Move}
use Rattle.event_machine.specs.Habit.{Free}
use Rattle.event_machine.specs.State.{State}
use Rattle.four_state.specs.declared.bit.Bit.{Bit}
use Rattle.four_state.specs.declared.bit.Bit.TheVariants.{One, X, Zero}
use Rattle.design_model.specs.Tree.{all_of, branch, comb, no_stmts, set, signal}
use Rattle.design_model.specs.Design.{Design, In, body_at, cell}
use Rattle.design_model.specs.Execution.{at_line, execution}
use Rattle.point_words.specs.declared.line_word.LineWord.TheVariants.{Assign, If}
use Rattle.design_model.specs.declared.point.Point.{Point}
use Rattle.design_model.specs.declared.point.Point.TheVariants.{Line as line_point}
use Rattle.design_model.specs.Run.{IsRun, Run}
use Rattle.design_model.specs.Shows.{BoundDump, Shows}
use Rattle.design_model.specs.Open.{IsOpen, IsReached, IsSurelyOpen, KnownAtEnd}
use Rattle.design_model.specs.ExampleParts.{at, counted, one_bit, one_instance, plain}

-- the design
abbrev pub closing : Design
closing =
    record {
      top = codes "la";
      instances = one_instance (codes "la");
      signals = one_bit (codes "en") true ∷ one_bit (codes "d") true ∷ one_bit (codes "y") false ∷ [];
      memories = [];
      processes = comb 0 [] (branch (at 5) 1 (signal (counted 1) 0) (set (at 13) 2 true (all_of 2) (signal plain 1)) no_stmts) ∷ [];
      constants = [];
      aliases = [];
    }

-- the values in which en, d and y are these
abbrev pub closing_values : Bit → Bit → Bit → Values Bit
closing_values en d y c = slice_index_or (en ∷ d ∷ y ∷ []) c.thing X

-- #0 en 1, d 0, y 0; #5 en 0, d 1, y 1; #10 en 1
abbrev pub closing_dump : BoundDump
closing_dump =
    record {
      stretches = (0 ∷ 5 ∷ 10 ∷ []) ∷ [];
      bound = λ s. nat_lt s 3;
      round = λ t. 0;
      values = λ t. if nat_le 10 t then closing_values One One One else (if nat_le 5 t then closing_values Zero One One else closing_values One Zero Zero);
    }

-- the state at the first time
abbrev pub closing_start : State Bit
closing_start = record { values = closing_values One Zero Zero; woken = λ p. false; active = []; queued = []; moved = λ c. false }

-- the data moves while the latch is open, and then the latch closes
abbrev pub closing_events : List (Event Bit)
closing_events = Move (record { cell = cell 1 0; value = One } ∷ []) ∷ Evaluate 0 ∷ Move (record { cell = cell 0 0; value = Zero } ∷ []) ∷ Evaluate 0 ∷ []

-- a run of one step
abbrev pub closing_run : Run
closing_run = record { begins = 0; start = closing_start; steps = record { time = 5; events = closing_events } ∷ [] }

-- the line points of the if and of the assignment
abbrev pub line_if : Point
line_if = line_point 0 1 (at 5) If

abbrev pub line_set : Point
line_set = line_point 0 2 (at 13) Assign

-- The run shows the dump, and its first evaluation visits line 2. But the one that counts is the last, on settled values: line 1 is surely open and reached, and line 2 is not open.
pub record IsClosingExample : Type 0 where
  pub run : IsRun closing Free closing_run
  pub shows : Shows closing closing_dump closing_run
  pub visited_before : In (at_line 2) (execution closing (body_at closing 0) (closing_values One One Zero)).visits
  pub reached : IsReached closing Free closing_dump 5 0 line_if
  pub surely_open : IsSurelyOpen closing (KnownAtEnd closing Free closing_dump 5 0) (body_at closing 0) line_if
  pub not_open : IsOpen closing (KnownAtEnd closing Free closing_dump 5 0) (body_at closing 0) line_set → ⊥
