-- A net that the dump lacks, worked out: a is signal 0, b is 1, y is 2.
--   assign y = a & b;
use Rattle.std.specs.Prelude.{◌∷◌, if◌then◌else◌, true, false, [], nat_le, nat_lt, slice_index_or, codes}
use Rattle.event_machine.specs.Cell.{Values}
use Rattle.event_machine.specs.Habit.{Free}
use Rattle.four_state.specs.declared.bit.Bit.{Bit}
use Rattle.four_state.specs.declared.bit.Bit.TheVariants.{One, X, Zero}
use Rattle.four_state.specs.declared.operator.Binary.TheVariants.{BitwiseAnd}
use Rattle.design_model.specs.Tree.{all_of, assign, binary, signal}
use Rattle.design_model.specs.Design.{Design, a_signal}
use Rattle.design_model.specs.Execution.{BothTrue}
use Rattle.design_model.specs.Shows.{BoundDump}
use Rattle.design_model.specs.Points.{logic_point}
use Rattle.design_model.specs.Clear.{clear}
use Rattle.design_model.specs.Open.{IsReached}
use Rattle.design_model.specs.ExampleParts.{at, counted, one_bit, one_instance, plain}

-- the design
abbrev pub gate : Design
gate =
    record {
      top = codes "gate";
      instances = one_instance (codes "gate");
      signals = one_bit (codes "a") true ∷ one_bit (codes "b") true ∷ one_bit (codes "y") false ∷ [];
      memories = [];
      processes = assign 0 (all_of 2) (binary (counted 1) BitwiseAnd (signal plain 0) (signal plain 1)) true ∷ [];
      constants = [];
      aliases = [];
    }

-- the values in which a, b and y are these
abbrev pub gate_values : Bit → Bit → Bit → Values Bit
gate_values a b y c = slice_index_or (a ∷ b ∷ y ∷ []) c.thing X

-- #0 a 0, b 1; #5 a 1; #10 a 0
abbrev pub gate_dump : BoundDump
gate_dump =
    record {
      stretches = (0 ∷ 5 ∷ 10 ∷ []) ∷ [];
      bound = λ s. nat_lt s 2;
      values = λ t. if nat_le 10 t then gate_values Zero One X else (if nat_le 5 t then gate_values One One X else gate_values Zero One X);
      round = λ t. 0;
    }

-- y is clear from the first time on, and at 5 the case of two true operands is reached.
pub record IsGateExample : Type 0 where
  pub at_first : clear gate Free gate_dump 0 (a_signal 2) (Zero ∷ [])
  pub at_five : clear gate Free gate_dump 5 (a_signal 2) (One ∷ [])
  pub reached : IsReached gate Free gate_dump 5 0 (logic_point 0 1 (at 0) (codes "&") BothTrue)
