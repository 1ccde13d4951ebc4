-- A register with a test, worked out: clk is signal 0, a is 1, q is 2.
--   always @(posedge clk) if (a) q <= 1; else q <= 0;
use Rattle.std.specs.Prelude.{◌≡◌, ◌∷◌, if◌then◌else◌, ℕ, true, false, List, [], nat_le, nat_lt, slice_index_or, codes}
use Rattle.event_machine.specs.Cell.{Values}
use Rattle.event_machine.specs.State.{State}
use Rattle.event_machine.specs.Event.{Activate, Apply, Evaluate, Event, Move}
use Rattle.event_machine.specs.Habit.{Free, Habit, Late}
use Rattle.four_state.specs.declared.bit.Bit.{Bit}
use Rattle.four_state.specs.declared.bit.Bit.TheVariants.{One, X, Zero}
use Rattle.four_state.specs.declared.edge.Edge.TheVariants.{Pos}
use Rattle.design_model.specs.Tree.{a_stmt, all_of, branch, clocked, no_stmts, set, signal}
use Rattle.design_model.specs.Design.{Design, a_signal, body_at, cell}
use Rattle.design_model.specs.Execution.{ValueTrue, at_line, at_node, execution, reads}
use Rattle.design_model.specs.Numbered.{Assign}
use Rattle.design_model.specs.Run.{IsRun, Run}
use Rattle.design_model.specs.Shows.{BoundDump, IsDumpOf, Shows}
use Rattle.design_model.specs.Points.{IsHit, Point, line_point}
use Rattle.design_model.specs.MayMove.{IsCleanAt}
use Rattle.design_model.specs.Early.{IsEarlyAt}
use Rattle.design_model.specs.Open.{IsOpen, IsReached, KnownOnEntry}
use Rattle.design_model.specs.Doubt.{IsInDoubt}
use Rattle.design_model.specs.Lawful.{IsLawfulDesign}
use Rattle.design_model.specs.Laws.{IsDefinite}
use Rattle.design_model.specs.ExampleParts.{at, bit_number, counted, one_bit, one_instance}

-- the design
abbrev pub flip_flop : Design
flip_flop =
    record {
      top = codes "ff";
      instances = one_instance (codes "ff");
      signals = one_bit (codes "clk") true ∷ one_bit (codes "a") true ∷ one_bit (codes "q") false ∷ [];
      memories = [];
      processes = clocked 0 ((Pos, 0) ∷ []) (branch (at 5) 1 (signal (counted 1) 1) (set (at 12) 2 false (all_of 2) (bit_number One)) (a_stmt (set (at 27) 3 false (all_of 2) (bit_number Zero)) no_stmts)) ∷ [];
      constants = [];
      aliases = [];
    }

-- the values in which clk, a and q are these
abbrev pub flip_flop_values : Bit → Bit → Bit → Values Bit
flip_flop_values clk a q c = slice_index_or (clk ∷ a ∷ q ∷ []) c.thing X

-- #0 clk 0, a 1, q x; #5 clk 1, a this bit, q 1; #10 clk 0
abbrev pub flip_flop_dump : Bit → BoundDump
flip_flop_dump a =
    record {
      stretches = (0 ∷ 5 ∷ 10 ∷ []) ∷ [];
      bound = λ s. nat_lt s 3;
      values = λ t. if nat_le 10 t then flip_flop_values Zero a One else (if nat_le 5 t then flip_flop_values One a One else flip_flop_values Zero One X);
      round = λ t. 0;
    }

-- a stays 1
abbrev pub steady_dump : BoundDump
steady_dump = flip_flop_dump One

-- a falls with the clock's rise
abbrev pub falling_dump : BoundDump
falling_dump = flip_flop_dump Zero

-- the state at the first time
abbrev pub steady_start : State Bit
steady_start = record { values = flip_flop_values Zero One X; woken = λ p. false; active = []; queued = []; moved = λ c. false }

-- clk rises, the block is evaluated, and its update is applied
abbrev pub steady_events : List (Event Bit)
steady_events = Move (record { cell = cell 0 0; value = One } ∷ []) ∷ Evaluate 0 ∷ Activate ∷ Apply ∷ []

-- a run of one step
abbrev pub steady_run : Run
steady_run = record { begins = 0; start = steady_start; steps = record { time = 5; events = steady_events } ∷ [] }

-- the line point of q <= 1
abbrev pub line_two : Point
line_two = line_point 0 2 (at 12) Assign

-- With a at 1: a run shows the dump, the block is clean at 5, nothing is early, and line 2 is hit in every run that shows it.
pub record IsSteadyExample : Type 0 where
  pub lawful : IsLawfulDesign flip_flop
  pub dump : IsDumpOf flip_flop steady_dump
  pub visits : (clk q : Bit) → (execution flip_flop (body_at flip_flop 0) (flip_flop_values clk One q)).visits ≡ at_line 1 ∷ reads (a_signal 1) false ∷ at_node 1 ValueTrue ∷ at_line 2 ∷ []
  pub visits_unknown : (clk q : Bit) → (execution flip_flop (body_at flip_flop 0) (flip_flop_values clk X q)).visits ≡ at_line 1 ∷ reads (a_signal 1) false ∷ at_line 3 ∷ []
  pub run : IsRun flip_flop Free steady_run
  pub shows : Shows flip_flop steady_dump steady_run
  pub hit_in_run : IsHit flip_flop steady_dump steady_run line_two
  pub clean : IsCleanAt flip_flop steady_dump 5 0 (cell 0 0)
  pub none_early : (h : Habit) (x : ℕ) → IsEarlyAt flip_flop h steady_dump 5 0 (cell 0 0) x → ⊥
  pub reached : IsReached flip_flop Free steady_dump 5 0 line_two
  pub hit : (r : Run) → IsRun flip_flop Free r → Shows flip_flop steady_dump r → IsHit flip_flop steady_dump r line_two
  pub definite : IsDefinite flip_flop Free steady_dump 0

-- With a falling at 5: by the free habit a is early and in doubt for line 2; by the late habit line 2 is hit in every run.
pub record IsFallingExample : Type 0 where
  pub dump : IsDumpOf flip_flop falling_dump
  pub clean : IsCleanAt flip_flop falling_dump 5 0 (cell 0 0)
  pub early : IsEarlyAt flip_flop Free falling_dump 5 0 (cell 0 0) 1
  pub open_line : IsOpen flip_flop (KnownOnEntry flip_flop Free falling_dump 5 0) (body_at flip_flop 0) line_two
  pub doubt : IsInDoubt flip_flop Free falling_dump line_two 5 1
  pub none_early_late : (x : ℕ) → IsEarlyAt flip_flop Late falling_dump 5 0 (cell 0 0) x → ⊥
  pub reached_late : IsReached flip_flop Late falling_dump 5 0 line_two
  pub hit_late : (r : Run) → IsRun flip_flop Late r → Shows flip_flop falling_dump r → IsHit flip_flop falling_dump r line_two
