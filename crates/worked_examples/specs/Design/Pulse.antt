-- A register that is written twice in one execution, as a clock, worked out: clk is signal 0, d is 1, h is 2, q is 3.
--   always @(posedge clk) begin h = 1; h = 0; end
--   always @(posedge h) q <= d;
use Rattle.std.specs.Prelude.{◌≡◌, ◌∷◌, if◌then◌else◌, ℕ, true, false, List, [], nat_le, nat_lt, slice_index_or, codes}
use Rattle.event_machine.specs.Cell.{Values}
use Rattle.event_machine.specs.Event.{Activate, Apply, Evaluate, Event, Move}
use Rattle.event_machine.specs.Habit.{Free}
use Rattle.event_machine.specs.State.{State}
use Rattle.four_state.specs.declared.bit.Bit.{Bit}
use Rattle.four_state.specs.declared.bit.Bit.TheVariants.{One, X, Zero}
use Rattle.four_state.specs.declared.edge.Edge.TheVariants.{Pos}
use Rattle.design_model.specs.Tree.{a_stmt, all_of, block, clocked, no_stmts, set, signal}
use Rattle.design_model.specs.Design.{Design, body_at, cell, signal_bits}
use Rattle.point_words.specs.declared.line_word.LineWord.TheVariants.{Assign}
use Rattle.design_model.specs.declared.point.Point.{Point}
use Rattle.design_model.specs.declared.point.Point.TheVariants.{Line as line_point}
use Rattle.design_model.specs.Once.{names_once}
use Rattle.design_model.specs.Run.{IsRun, Run}
use Rattle.design_model.specs.Shows.{BoundDump, Shows}
use Rattle.design_model.specs.Points.{IsHit}
use Rattle.design_model.specs.MayMove.{IsSingleAt}
use Rattle.design_model.specs.Open.{IsNotClean, IsOpen, IsOpenFor, IsSurelyOpen, KnownOnEntry}
use Rattle.design_model.specs.Doubt.{IsInDoubt}
use Rattle.design_model.specs.ExampleParts.{at, bit_number, one_bit, one_instance, plain}

-- the design
abbrev pub pulse : Design
pulse =
    record {
      top = codes "dbl";
      instances = one_instance (codes "dbl");
      signals = one_bit (codes "clk") true ∷ one_bit (codes "d") true ∷ one_bit (codes "h") false ∷ one_bit (codes "q") false ∷ [];
      memories = [];
      processes =
          clocked 0 ((Pos, 0) ∷ []) (block (at 23) (a_stmt (set (at 29) 1 true (all_of 2) (bit_number One)) (a_stmt (set (at 36) 2 true (all_of 2) (bit_number Zero)) no_stmts)))
          ∷ clocked 0 ((Pos, 2) ∷ []) (set (at 61) 3 false (all_of 3) (signal plain 1)) ∷ [];
      constants = [];
      aliases = [];
    }

-- the values in which clk, d, h and q are these
abbrev pub pulse_values : Bit → Bit → Bit → Bit → Values Bit
pulse_values clk d h q c = slice_index_or (clk ∷ d ∷ h ∷ q ∷ []) c.thing X

-- #0 clk 0, d 1, h 0, q 0; #5 clk 1, q 1; #10 clk 0; each step is judged by this round of single cells
abbrev pub pulse_dump : ℕ → BoundDump
pulse_dump n =
    record {
      stretches = (0 ∷ 5 ∷ 10 ∷ []) ∷ [];
      bound = λ s. nat_lt s 4;
      round = λ t. n;
      values = λ t. if nat_le 10 t then pulse_values Zero One Zero One else (if nat_le 5 t then pulse_values One One Zero One else pulse_values Zero One Zero Zero);
    }

-- the state at the first time
abbrev pub pulse_start : State Bit
pulse_start = record { values = pulse_values Zero One Zero Zero; woken = λ p. false; active = []; queued = []; moved = λ c. false }

-- clk rises, h rises and falls at once, and q is written
abbrev pub pulse_events : List (Event Bit)
pulse_events = Move (record { cell = cell 0 0; value = One } ∷ []) ∷ Evaluate 0 ∷ Evaluate 1 ∷ Activate ∷ Apply ∷ []

-- a run of one step
abbrev pub pulse_run : Run
pulse_run = record { begins = 0; start = pulse_start; steps = record { time = 5; events = pulse_events } ∷ [] }

-- the line points of h = 0 and q <= d
abbrev pub line_low : Point
line_low = line_point 0 2 (at 36) Assign

abbrev pub line_q : Point
line_q = line_point 1 3 (at 61) Assign

-- h is 0 at each time of the dump, and yet the run hits line 3. So h is single in no round: whatever the round, the block of q
-- is not clean, each of its points is open, and h is in doubt for line 3. The lines of the other block are surely open for it, and line 3 is not open for it.
pub record IsPulseExample : Type 0 where
  pub run : IsRun pulse Free pulse_run
  pub shows : (n : ℕ) → Shows pulse (pulse_dump n) pulse_run
  pub low : (n t : ℕ) → signal_bits pulse ((pulse_dump n).values t) 2 ≡ Zero ∷ []
  pub hit : (n : ℕ) → IsHit pulse (pulse_dump n) pulse_run line_q
  pub named_twice : names_once (body_at pulse 0) 2 ≡ false
  pub not_single : (n : ℕ) → IsSingleAt pulse (pulse_dump n) 5 (cell 2 0) → ⊥
  pub not_clean : (n : ℕ) → IsNotClean pulse (pulse_dump n) 5 1
  pub each_open : (n : ℕ) (x : Point) → IsOpenFor pulse Free (pulse_dump n) 5 1 x
  pub doubt : (n : ℕ) → IsInDoubt pulse Free (pulse_dump n) line_q 5 2
  pub not_open : (n : ℕ) → IsOpen pulse (KnownOnEntry pulse Free (pulse_dump n) 5 0) (body_at pulse 0) line_q → ⊥
  pub surely_open : (n : ℕ) → IsSurelyOpen pulse (KnownOnEntry pulse Free (pulse_dump n) 5 0) (body_at pulse 0) line_low
