-- A gate both of whose inputs move in one step, worked out: a is signal 0, b is 1, y is 2.
--   always @* y = a & b;
use Rattle.std.specs.Prelude.{◌∷◌, if◌then◌else◌, true, false, List, [], nat_le, nat_lt, slice_index_or, codes}
use Rattle.event_machine.specs.Cell.{Values}
use Rattle.event_machine.specs.Event.{Evaluate, Event, Move}
use Rattle.event_machine.specs.Habit.{Free}
use Rattle.event_machine.specs.State.{State}
use Rattle.four_state.specs.declared.bit.Bit.{Bit}
use Rattle.four_state.specs.declared.bit.Bit.TheVariants.{One, X, Zero}
use Rattle.four_state.specs.declared.operator.Binary.TheVariants.{BitwiseAnd}
use Rattle.design_model.specs.Tree.{Term, all_of, binary, comb, set, signal}
use Rattle.design_model.specs.Design.{Design, In, body_at, cell}
use Rattle.design_model.specs.Execution.{at_node, execution}
use Rattle.point_words.specs.declared.node_case.NodeCase.{NodeCase}
use Rattle.point_words.specs.declared.node_case.NodeCase.TheVariants.{BothTrue, RightFalse}
use Rattle.design_model.specs.declared.point.Point.{Point}
use Rattle.design_model.specs.declared.point.Point.TheVariants.{Logic as logic_point}
use Rattle.design_model.specs.Run.{IsRun, Run}
use Rattle.design_model.specs.Shows.{BoundDump, IsShowing, Shows}
use Rattle.design_model.specs.Open.{IsOpen, IsReached, IsSurelyOpen, KnownAtEnd}
use Rattle.design_model.specs.ExampleParts.{at, counted, one_bit, one_instance, plain}

-- a & b
abbrev pub both : Term
both = binary (counted 1) BitwiseAnd (signal plain 0) (signal plain 1)

-- the design
abbrev pub product : Design
product =
    record {
      top = codes "g";
      instances = one_instance (codes "g");
      signals = one_bit (codes "a") true ∷ one_bit (codes "b") true ∷ one_bit (codes "y") false ∷ [];
      memories = [];
      processes = comb 0 [] (set (at 11) 1 true (all_of 2) both) ∷ [];
      constants = [];
      aliases = [];
    }

-- the values in which a, b and y are these
abbrev pub product_values : Bit → Bit → Bit → Values Bit
product_values a b y c = slice_index_or (a ∷ b ∷ y ∷ []) c.thing X

-- #0 a 0, b 1, y 0; #5 a 1, b 0; #10 a 0
abbrev pub product_dump : BoundDump
product_dump =
    record {
      stretches = (0 ∷ 5 ∷ 10 ∷ []) ∷ [];
      bound = λ s. nat_lt s 3;
      round = λ t. 0;
      values = λ t. if nat_le 10 t then product_values Zero Zero Zero else (if nat_le 5 t then product_values One Zero Zero else product_values Zero One Zero);
    }

-- the state at the first time
abbrev pub product_start : State Bit
product_start = record { values = product_values Zero One Zero; woken = λ p. false; active = []; queued = []; moved = λ c. false }

-- a rises before b falls, so y is 1 in between
abbrev pub product_events : List (Event Bit)
product_events = Move (record { cell = cell 0 0; value = One } ∷ []) ∷ Evaluate 0 ∷ Move (record { cell = cell 1 0; value = Zero } ∷ []) ∷ Evaluate 0 ∷ []

-- a run of one step
abbrev pub product_run : Run
product_run = record { begins = 0; start = product_start; steps = record { time = 5; events = product_events } ∷ [] }

-- the logic points of a & b
abbrev pub case_of : NodeCase → Point
case_of x = logic_point 0 1 (at 0) (codes "&") x

-- The run shows the dump, and its first evaluation has both operands true. But the last one counts: the case of a false right operand
-- is surely open and reached, and the case of two true operands is not open.
pub record IsProductExample : Type 0 where
  pub run : IsRun product Free product_run
  pub showing : IsShowing product Free product_dump 5 product_run
  pub shows : Shows product product_dump product_run
  pub visited_before : In (at_node 1 BothTrue) (execution product (body_at product 0) (product_values One One Zero)).visits
  pub reached : IsReached product Free product_dump 5 0 (case_of RightFalse)
  pub surely_open : IsSurelyOpen product (KnownAtEnd product Free product_dump 5 0) (body_at product 0) (case_of RightFalse)
  pub not_open : IsOpen product (KnownAtEnd product Free product_dump 5 0) (body_at product 0) (case_of BothTrue) → ⊥
