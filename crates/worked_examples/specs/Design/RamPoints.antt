-- What is open in the design of a memory, on the first of its dumps: at 15, where the word that was written is read.
use Rattle.std.specs.Prelude.{false}
use Rattle.event_machine.specs.Habit.{Free}
use Rattle.design_model.specs.Design.{body_at}
use Rattle.point_words.specs.declared.line_word.LineWord.TheVariants.{Assign}
use Rattle.design_model.specs.declared.point.Point.{Point}
use Rattle.design_model.specs.declared.point.Point.TheVariants.{Line as line_point, Word as word_point}
use Rattle.design_model.specs.Open.{IsOpen, IsSurelyOpen, KnownOnEntry}
use Rattle.design_model.specs.ExampleParts.{at}
use Rattle.design_model.specs.Ram.{ram, ram_dump}
use Rattle.worked_examples.specs.Design.Unread.{line_one, line_write}

-- the line point of q <= 0
abbrev pub line_zero : Point
line_zero = line_point 0 5 (at 45) Assign

-- The block knows we, which is 0, and word 3, which is 1: the write and line 5 are not open, and the read of word 3 and line 4 are surely open.
pub record IsRamPointsExample : Type 0 where
  pub write_not_open : IsOpen ram (KnownOnEntry ram Free ram_dump 15 0) (body_at ram 0) line_write → ⊥
  pub not_open : IsOpen ram (KnownOnEntry ram Free ram_dump 15 0) (body_at ram 0) line_zero → ⊥
  pub read_surely_open : IsSurelyOpen ram (KnownOnEntry ram Free ram_dump 15 0) (body_at ram 0) (word_point 6 3 false)
  pub surely_open : IsSurelyOpen ram (KnownOnEntry ram Free ram_dump 15 0) (body_at ram 0) line_one
