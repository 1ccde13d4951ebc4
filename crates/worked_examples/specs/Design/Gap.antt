-- A dump that goes off and on, worked out: a is signal 0, y is 1.
--   always @* y = a;
use Rattle.std.specs.Prelude.{◌∷◌, ◌≤◌, if◌then◌else◌, ℕ, true, false, [], nat_le, nat_lt, slice_index_or, codes}
use Rattle.event_machine.specs.Cell.{Values}
use Rattle.event_machine.specs.Habit.{Free}
use Rattle.four_state.specs.declared.bit.Bit.{Bit}
use Rattle.four_state.specs.declared.bit.Bit.TheVariants.{One, X, Zero}
use Rattle.design_model.specs.Tree.{all_of, comb, set, signal}
use Rattle.design_model.specs.Design.{Design}
use Rattle.design_model.specs.Shows.{AreStretches, BoundDump, IsContradicted, IsFirst, IsWindow, NoneShown}
use Rattle.design_model.specs.Clear.{IsForced}
use Rattle.design_model.specs.ExampleParts.{at, one_bit, one_instance, plain}

-- the design
abbrev pub buffer : Design
buffer =
    record {
      top = codes "m";
      instances = one_instance (codes "m");
      signals = one_bit (codes "a") true ∷ one_bit (codes "y") false ∷ [];
      memories = [];
      processes = comb 0 [] (set (at 13) 1 true (all_of 1) (signal plain 0)) ∷ [];
      constants = [];
      aliases = [];
    }

-- the values in which a and y are these
abbrev pub buffer_values : Bit → Bit → Values Bit
buffer_values a y c = slice_index_or (a ∷ y ∷ []) c.thing X

-- #0 a 0, y 0; #5 a 1, y 1; off at 10; on at 20 with a 0, y this bit; #25 a 1, y 1; #30
abbrev pub gap_dump : Bit → BoundDump
gap_dump b =
    record {
      stretches = (0 ∷ 5 ∷ 10 ∷ []) ∷ (20 ∷ 25 ∷ 30 ∷ []) ∷ [];
      bound = λ s. nat_lt s 2;
      round = λ t. 0;
      values = λ t.
          if nat_le 25 t then buffer_values One One else (if nat_le 20 t then buffer_values Zero b else (if nat_le 5 t then buffer_values One One else buffer_values Zero Zero));
    }

-- Each stretch has its window, and from the last time of the first to the first time of the second there is no window. The block has acted at 5, so at 20 y is forced
-- to the value of a, whatever the dump has there: no run shows a dump that has 1 there.
pub record IsGapExample : Type 0 where
  pub in_order : (b : Bit) → AreStretches (gap_dump b).stretches
  pub in_first : (b : Bit) → IsWindow (gap_dump b) 5
  pub in_second : (b : Bit) → IsWindow (gap_dump b) 25
  pub not_between : (b : Bit) (t : ℕ) → 10 ≤ t → t ≤ 20 → IsWindow (gap_dump b) t → ⊥
  pub none_shown : (b : Bit) → NoneShown (gap_dump b) 9 20
  pub begins : (b : Bit) → IsFirst (gap_dump b) 20
  pub forced : (b : Bit) → IsForced buffer Free (gap_dump b) 20 1 (Zero ∷ [])
  pub contradicted : IsContradicted buffer Free (gap_dump One) 20
