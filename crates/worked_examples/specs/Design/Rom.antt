-- A memory that nothing writes, read by a net, worked out: i is signal 0, z is 1, m is memory 2.
--   reg m [0:1]; assign z = m[i];
use Rattle.std.specs.Prelude.{◌∷◌, if◌then◌else◌, ℕ, true, false, [], nat_le, nat_lt, slice_index_or, codes}
use Rattle.event_machine.specs.Cell.{Values}
use Rattle.event_machine.specs.Habit.{Free}
use Rattle.four_state.specs.declared.bit.Bit.{Bit}
use Rattle.four_state.specs.declared.bit.Bit.TheVariants.{One, X, Zero}
use Rattle.design_model.specs.Tree.{all_of, assign, signal, word}
use Rattle.design_model.specs.Design.{Design, a_word}
use Rattle.point_words.specs.declared.node_case.NodeCase.TheVariants.{ValueTrue}
use Rattle.design_model.specs.declared.point.Point.TheVariants.{Logic as logic_point}
use Rattle.design_model.specs.Reads.{HasValue}
use Rattle.design_model.specs.Shows.{BoundDump}
use Rattle.design_model.specs.Clear.{clear}
use Rattle.design_model.specs.Doubt.{IsInDoubt}
use Rattle.design_model.specs.ExampleParts.{at, counted, one_bit, one_instance, plain}

-- the design
abbrev pub rom : Design
rom =
    record {
      top = codes "rom";
      instances = one_instance (codes "rom");
      signals = one_bit (codes "i") true ∷ one_bit (codes "z") false ∷ [];
      memories = record { instance = 0; name = codes "m"; first = 0; last = 1; high = 0; low = 0; ranged = false; width = 1; signed = false } ∷ [];
      processes = assign 0 (all_of 1) (word (counted 1) 2 (signal plain 0)) true ∷ [];
      constants = [];
      aliases = [];
    }

-- the values in which i is this and all else is x
abbrev pub rom_values : Bit → Values Bit
rom_values i c = slice_index_or (i ∷ []) c.thing X

-- #0 i 0; #5 i 1; #10 i 0
abbrev pub rom_dump : BoundDump
rom_dump =
    record {
      stretches = (0 ∷ 5 ∷ 10 ∷ []) ∷ [];
      bound = λ s. nat_lt s 1;
      round = λ t. 0;
      values = λ t. if nat_le 10 t then rom_values Zero else (if nat_le 5 t then rom_values One else rom_values Zero);
    }

-- No word is ever clear, so the memory is in doubt for the value that the net reads at 5.
pub record IsRomExample : Type 0 where
  pub never_clear : (t i : ℕ) → HasValue (clear rom Free rom_dump t) (a_word 2 i) → ⊥
  pub doubt : IsInDoubt rom Free rom_dump (logic_point 0 1 (at 0) (codes "[]") ValueTrue) 5 2
