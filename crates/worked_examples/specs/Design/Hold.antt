-- A register with an enable, and a second register, worked out: clk is signal 0, en is 1, a is 2, q is 3, p is 4.
--   always @(posedge clk) begin if (a) q <= 1; else if (en) q <= 0; p <= en; end
use Rattle.std.specs.Prelude.{◌≡◌, ◌∷◌, if◌then◌else◌, ℕ, true, false, List, [], nat_le, nat_lt, slice_index_or, codes}
use Rattle.event_machine.specs.Cell.{Values}
use Rattle.event_machine.specs.Event.{Activate, Apply, Evaluate, Event, Move}
use Rattle.event_machine.specs.Habit.{Free}
use Rattle.event_machine.specs.State.{State}
use Rattle.four_state.specs.declared.bit.Bit.{Bit}
use Rattle.four_state.specs.declared.bit.Bit.TheVariants.{One, X, Zero}
use Rattle.four_state.specs.declared.edge.Edge.TheVariants.{Pos}
use Rattle.design_model.specs.Tree.{a_stmt, all_of, block, branch, clocked, no_stmts, set, signal}
use Rattle.design_model.specs.Design.{Design, body_at, cell}
use Rattle.point_words.specs.declared.line_word.LineWord.TheVariants.{Assign}
use Rattle.design_model.specs.declared.point.Point.{Point}
use Rattle.design_model.specs.declared.point.Point.TheVariants.{Line as line_point}
use Rattle.design_model.specs.Run.{IsRun, Run}
use Rattle.design_model.specs.Shows.{BoundDump, Shows}
use Rattle.design_model.specs.MayMove.{IsCleanAt}
use Rattle.design_model.specs.Early.{IsEarlyAt}
use Rattle.design_model.specs.Open.{IsOpen, IsReached, IsSurelyOpen, KnownOnEntry}
use Rattle.design_model.specs.Doubt.{IsInDoubt}
use Rattle.design_model.specs.ExampleParts.{at, bit_number, counted, one_bit, one_instance, plain}

-- the design
abbrev pub hold : Design
hold =
    record {
      top = codes "hold";
      instances = one_instance (codes "hold");
      signals = one_bit (codes "clk") true ∷ one_bit (codes "en") true ∷ one_bit (codes "a") true ∷ one_bit (codes "q") false ∷ one_bit (codes "p") false ∷ [];
      memories = [];
      processes =
          clocked 0 ((Pos, 0) ∷ []) (block (at 3)
          (a_stmt (branch (at 5) 1 (signal (counted 1) 2) (set (at 12) 2 false (all_of 3) (bit_number One))
          (a_stmt (branch (at 20) 3 (signal (counted 2) 1) (set (at 28) 4 false (all_of 3) (bit_number Zero)) no_stmts) no_stmts))
          (a_stmt (set (at 36) 5 false (all_of 4) (signal plain 1)) no_stmts))) ∷ [];
      constants = [];
      aliases = [];
    }

-- the values in which clk, en, a, q and p are these
abbrev pub hold_values : Bit → Bit → Bit → Bit → Bit → Values Bit
hold_values clk en a q p c = slice_index_or (clk ∷ en ∷ a ∷ q ∷ p ∷ []) c.thing X

-- #0 clk 0, en 0, a 1, q 0, p 0; #5 clk 1, a 0; #10 clk 0
abbrev pub hold_dump : BoundDump
hold_dump =
    record {
      stretches = (0 ∷ 5 ∷ 10 ∷ []) ∷ [];
      bound = λ s. nat_lt s 5;
      round = λ t. 0;
      values = λ t. if nat_le 10 t then hold_values Zero Zero Zero Zero Zero else (if nat_le 5 t then hold_values One Zero Zero Zero Zero else hold_values Zero Zero One Zero Zero);
    }

-- the state at the first time
abbrev pub hold_start : State Bit
hold_start = record { values = hold_values Zero Zero One Zero Zero; woken = λ p. false; active = []; queued = []; moved = λ c. false }

-- a falls and clk rises, the block is evaluated, and its update is applied
abbrev pub hold_events : List (Event Bit)
hold_events = Move (record { cell = cell 2 0; value = Zero } ∷ record { cell = cell 0 0; value = One } ∷ []) ∷ Evaluate 0 ∷ Activate ∷ Apply ∷ []

-- a run of one step
abbrev pub hold_run : Run
hold_run = record { begins = 0; start = hold_start; steps = record { time = 5; events = hold_events } ∷ [] }

-- the line points of the three assignments
abbrev pub line_one : Point
line_one = line_point 0 2 (at 12) Assign

abbrev pub line_zero : Point
line_zero = line_point 0 4 (at 28) Assign

abbrev pub line_last : Point
line_last = line_point 0 5 (at 36) Assign

-- a falls with the clock's rise, so it is early and in doubt for line 2. As en is 0 line 4 is not open, and line 5, on each path, is surely open and so reached.
pub record IsHoldExample : Type 0 where
  pub run : IsRun hold Free hold_run
  pub shows : Shows hold hold_dump hold_run
  pub clean : IsCleanAt hold hold_dump 5 0 (cell 0 0)
  pub early : (x : ℕ) → IsEarlyAt hold Free hold_dump 5 0 (cell 0 0) x → x ≡ 2
  pub doubt : IsInDoubt hold Free hold_dump line_one 5 2
  pub not_open : IsOpen hold (KnownOnEntry hold Free hold_dump 5 0) (body_at hold 0) line_zero → ⊥
  pub surely_open : IsSurelyOpen hold (KnownOnEntry hold Free hold_dump 5 0) (body_at hold 0) line_last
  pub reached : IsReached hold Free hold_dump 5 0 line_last
