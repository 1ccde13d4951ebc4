-- What is open in the design of a register that the dump lacks, on the first of its dumps: of its gate, whose two operands are 1 from 5 on.
use Rattle.event_machine.specs.Habit.{Free}
use Rattle.design_model.specs.Design.{body_at}
use Rattle.point_words.specs.declared.node_case.NodeCase.TheVariants.{BothTrue, RightFalse}
use Rattle.design_model.specs.Open.{IsOpen, IsReached, IsSurelyOpen, KnownAtEnd}
use Rattle.design_model.specs.Pipe.{pipe, pipe_dump}
use Rattle.worked_examples.specs.Design.Settling.{case_of}

-- At 5 a rises and b stays 1: the case of two true operands is surely open and reached, and that of a false right operand is not open.
pub record IsPipePointsExample : Type 0 where
  pub surely_open : IsSurelyOpen pipe (KnownAtEnd pipe Free pipe_dump 5 0) (body_at pipe 0) (case_of BothTrue)
  pub reached : IsReached pipe Free pipe_dump 5 0 (case_of BothTrue)
  pub not_open : IsOpen pipe (KnownAtEnd pipe Free pipe_dump 5 0) (body_at pipe 0) (case_of RightFalse) → ⊥
