-- A divided clock, worked out: clk is signal 0, d is 1, h is 2, q is 3.
--   always @(posedge clk) h <= ~h;
--   always @(posedge h) q <= d;
use Rattle.std.specs.Prelude.{◌∷◌, if◌then◌else◌, ℕ, true, false, List, [], nat_le, nat_lt, slice_index_or, codes}
use Rattle.event_machine.specs.Cell.{Values}
use Rattle.event_machine.specs.Event.{Activate, Apply, Evaluate, Event, Move}
use Rattle.event_machine.specs.Habit.{Free}
use Rattle.event_machine.specs.State.{State}
use Rattle.four_state.specs.declared.bit.Bit.{Bit}
use Rattle.four_state.specs.declared.bit.Bit.TheVariants.{One, X, Zero}
use Rattle.four_state.specs.declared.edge.Edge.TheVariants.{Pos}
use Rattle.four_state.specs.declared.operator.Unary.TheVariants.{BitwiseNot}
use Rattle.design_model.specs.Tree.{Term, all_of, clocked, set, signal, unary}
use Rattle.design_model.specs.Design.{Design, body_at, cell}
use Rattle.point_words.specs.declared.line_word.LineWord.TheVariants.{Assign}
use Rattle.point_words.specs.declared.node_case.NodeCase.{NodeCase}
use Rattle.point_words.specs.declared.node_case.NodeCase.TheVariants.{ValueFalse, ValueTrue}
use Rattle.design_model.specs.declared.point.Point.{Point}
use Rattle.design_model.specs.declared.point.Point.TheVariants.{Line as line_point, Logic as logic_point}
use Rattle.design_model.specs.Run.{IsRun, Run}
use Rattle.design_model.specs.Shows.{BoundDump, Shows}
use Rattle.design_model.specs.MayMove.{AreFirstRounds, AreLastRounds, IsCleanAt, IsSingleAt}
use Rattle.design_model.specs.Open.{IsNotClean, IsOpen, IsReached, IsSurelyOpen, KnownOnEntry}
use Rattle.design_model.specs.Doubt.{IsInDoubt}
use Rattle.design_model.specs.ExampleParts.{at, counted, one_bit, one_instance, plain}

-- ~h
abbrev pub inverted : Term
inverted = unary (counted 1) BitwiseNot (signal plain 2)

-- the design
abbrev pub divided : Design
divided =
    record {
      top = codes "div";
      instances = one_instance (codes "div");
      signals = one_bit (codes "clk") true ∷ one_bit (codes "d") true ∷ one_bit (codes "h") false ∷ one_bit (codes "q") false ∷ [];
      memories = [];
      processes = clocked 0 ((Pos, 0) ∷ []) (set (at 25) 1 false (all_of 2) inverted) ∷ clocked 0 ((Pos, 2) ∷ []) (set (at 45) 2 false (all_of 3) (signal plain 1)) ∷ [];
      constants = [];
      aliases = [];
    }

-- the values in which clk, d, h and q are these
abbrev pub divided_values : Bit → Bit → Bit → Bit → Values Bit
divided_values clk d h q c = slice_index_or (clk ∷ d ∷ h ∷ q ∷ []) c.thing X

-- #0 clk 0, d 1, h 0, q 0; #5 clk 1, h 1, q 1; #10 clk 0; each step is judged by this round of single cells
abbrev pub divided_dump : ℕ → BoundDump
divided_dump n =
    record {
      stretches = (0 ∷ 5 ∷ 10 ∷ []) ∷ [];
      bound = λ s. nat_lt s 4;
      round = λ t. n;
      values = λ t. if nat_le 10 t then divided_values Zero One One One else (if nat_le 5 t then divided_values One One One One else divided_values Zero One Zero Zero);
    }

-- the state at the first time
abbrev pub divided_start : State Bit
divided_start = record { values = divided_values Zero One Zero Zero; woken = λ p. false; active = []; queued = []; moved = λ c. false }

-- clk rises, and with it h, and with it q
abbrev pub divided_events : List (Event Bit)
divided_events = Move (record { cell = cell 0 0; value = One } ∷ []) ∷ Evaluate 0 ∷ Activate ∷ Apply ∷ Evaluate 1 ∷ Activate ∷ Apply ∷ []

-- a run of one step
abbrev pub divided_run : Run
divided_run = record { begins = 0; start = divided_start; steps = record { time = 5; events = divided_events } ∷ [] }

-- the line point of q <= d
abbrev pub line_q : Point
line_q = line_point 1 2 (at 45) Assign

-- the logic points of ~h
abbrev pub inverter : NodeCase → Point
inverter x = logic_point 0 1 (at 0) (codes "~") x

-- The rounds end with the second. Judged by the first round h is no trigger, so the block of q is not clean, and h is in doubt for its line. In the next round
-- h is single: its block is clean and reaches the line. The block of h knows h, so the case 0 of ~h is not open, and the case 1 is surely open.
pub record IsDividedExample : Type 0 where
  pub run : IsRun divided Free divided_run
  pub shows : (n : ℕ) → Shows divided (divided_dump n) divided_run
  pub first_rounds : AreFirstRounds (divided_dump 0)
  pub last_rounds : AreLastRounds divided (divided_dump 1)
  pub not_clean : IsNotClean divided (divided_dump 0) 5 1
  pub doubt : IsInDoubt divided Free (divided_dump 0) line_q 5 2
  pub single : IsSingleAt divided (divided_dump 1) 5 (cell 2 0)
  pub clean : IsCleanAt divided (divided_dump 1) 5 1 (cell 2 0)
  pub line_surely_open : IsSurelyOpen divided (KnownOnEntry divided Free (divided_dump 1) 5 1) (body_at divided 1) line_q
  pub reached : IsReached divided Free (divided_dump 1) 5 1 line_q
  pub not_open : IsOpen divided (KnownOnEntry divided Free (divided_dump 1) 5 0) (body_at divided 0) (inverter ValueFalse) → ⊥
  pub surely_open : IsSurelyOpen divided (KnownOnEntry divided Free (divided_dump 1) 5 0) (body_at divided 0) (inverter ValueTrue)
