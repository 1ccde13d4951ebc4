-- A combinational block that reads its own target, worked out: a is signal 0, y is 1.
--   always @* y = a ^ y;
use Rattle.std.specs.Prelude.{◌∷◌, if◌then◌else◌, true, false, [], nat_le, nat_lt, slice_index_or, codes}
use Rattle.event_machine.specs.Cell.{Values}
use Rattle.event_machine.specs.Habit.{Free}
use Rattle.four_state.specs.declared.bit.Bit.{Bit}
use Rattle.four_state.specs.declared.bit.Bit.TheVariants.{One, X, Zero}
use Rattle.four_state.specs.declared.operator.Binary.TheVariants.{BitwiseXor}
use Rattle.design_model.specs.Tree.{all_of, binary, comb, set, signal}
use Rattle.design_model.specs.Design.{Design, body_at}
use Rattle.point_words.specs.declared.line_word.LineWord.TheVariants.{Assign}
use Rattle.design_model.specs.Shows.{BoundDump}
use Rattle.design_model.specs.declared.point.Point.{Point}
use Rattle.design_model.specs.declared.point.Point.TheVariants.{Line as line_point}
use Rattle.design_model.specs.Open.{IsOpen, IsSurelyOpen, KnownAtEnd}
use Rattle.design_model.specs.Doubt.{IsInDoubt}
use Rattle.design_model.specs.ExampleParts.{at, counted, one_bit, one_instance, plain}

-- the design
abbrev pub loop : Design
loop =
    record {
      top = codes "m";
      instances = one_instance (codes "m");
      signals = one_bit (codes "a") true ∷ one_bit (codes "y") false ∷ [];
      memories = [];
      processes = comb 0 [] (set (at 13) 1 true (all_of 1) (binary (counted 1) BitwiseXor (signal plain 0) (signal plain 1))) ∷ [];
      constants = [];
      aliases = [];
    }

-- the values in which a and y are these
abbrev pub loop_values : Bit → Bit → Values Bit
loop_values a y c = slice_index_or (a ∷ y ∷ []) c.thing X

-- #0 a 0, y 0; #5 a 1, y 1; #10 a 0
abbrev pub loop_dump : BoundDump
loop_dump =
    record {
      stretches = (0 ∷ 5 ∷ 10 ∷ []) ∷ [];
      bound = λ s. nat_lt s 2;
      round = λ t. 0;
      values = λ t. if nat_le 10 t then loop_values Zero One else (if nat_le 5 t then loop_values One One else loop_values Zero Zero);
    }

-- the line point of the assignment
abbrev pub line_set : Point
line_set = line_point 0 1 (at 13) Assign

-- The line is on the only path, so it is open and surely open; another line is not open; and y is in doubt for it at 5.
pub record IsLoopExample : Type 0 where
  pub is_open : IsOpen loop (KnownAtEnd loop Free loop_dump 5 0) (body_at loop 0) line_set
  pub surely_open : IsSurelyOpen loop (KnownAtEnd loop Free loop_dump 5 0) (body_at loop 0) line_set
  pub not_open : IsOpen loop (KnownAtEnd loop Free loop_dump 5 0) (body_at loop 0) (line_point 0 2 (at 20) Assign) → ⊥
  pub doubt : IsInDoubt loop Free loop_dump line_set 5 1
