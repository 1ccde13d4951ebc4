-- A loop, written out turn by turn, worked out: a is signal 0 and y is 1, each of two bits.
--   always @* for (i = 0; i < 2; i = i + 1) y[i] = a[1 - i];
use Rattle.std.specs.Prelude.{◌≡◌, ◌∷◌, true, false, [], slice_index_or, codes}
use Rattle.event_machine.specs.Cell.{Values}
use Rattle.four_state.specs.declared.bit.Bit.{Bit}
use Rattle.four_state.specs.declared.bit.Bit.TheVariants.{One, X, Zero}
use Rattle.design_model.specs.Tree.{Term, a_stmt, bit, bits_of, comb, no_stmts, number, set, signal, turns}
use Rattle.design_model.specs.Design.{Design, a_signal, body_at}
use Rattle.design_model.specs.Clear.{bits_after}
use Rattle.point_words.specs.declared.line_word.LineWord.TheVariants.{Assign, For}
use Rattle.design_model.specs.declared.point.Point.TheVariants.{Line as line_point}
use Rattle.design_model.specs.Execution.{at_line, execution, reads}
use Rattle.design_model.specs.Paths.{each_writes_whole}
use Rattle.design_model.specs.Reads.{nothing_known}
use Rattle.design_model.specs.Open.{IsSurelyOpen}
use Rattle.design_model.specs.ExampleParts.{at, one_instance, plain, two_bits, wide}

-- the number with these two bits, the lowest first
abbrev pub index : Bit → Term
index low = number wide (record { bits = low ∷ Zero ∷ []; signed = false })

-- the design: line 1 is the loop, and line 2 the assignment in it
abbrev pub reverse : Design
reverse =
    record {
      top = codes "rev";
      instances = one_instance (codes "rev");
      signals = two_bits (codes "a") ∷ two_bits (codes "y") ∷ [];
      memories = [];
      processes =
          comb 0 [] (turns (at 3) 1
          (a_stmt (set (at 20) 2 true (bits_of 1 (index Zero) 1) (bit plain (signal wide 0) (index One)))
          (a_stmt (set (at 20) 2 true (bits_of 1 (index One) 1) (bit plain (signal wide 0) (index Zero))) no_stmts))) ∷ [];
      constants = [];
      aliases = [];
    }

-- the values in which the bits of a are these, the lowest first
abbrev pub reverse_values : Bit → Bit → Values Bit
reverse_values low high c = slice_index_or (slice_index_or ((low ∷ high ∷ []) ∷ (X ∷ X ∷ []) ∷ []) c.thing []) c.place X

-- The line of the assignment is reached once in each turn, its copies are surely open, and the bits come out reversed.
pub record IsReverseExample : Type 0 where
  pub visits : (low high : Bit) → (execution reverse (body_at reverse 0) (reverse_values low high)).visits ≡ at_line 1 ∷ at_line 2 ∷ reads (a_signal 0) false ∷ at_line 2 ∷ reads (a_signal 0) false ∷ []
  pub reversed : (low high : Bit)
      → bits_after reverse (reverse_values low high) (execution reverse (body_at reverse 0) (reverse_values low high)).blocking (a_signal 1) ≡ high ∷ low ∷ []
  pub whole : each_writes_whole reverse (body_at reverse 0) 1 ≡ true
  pub loop_sure : IsSurelyOpen reverse nothing_known (body_at reverse 0) (line_point 0 1 (at 3) For)
  pub turn_sure : IsSurelyOpen reverse nothing_known (body_at reverse 0) (line_point 0 2 (at 20) Assign)
