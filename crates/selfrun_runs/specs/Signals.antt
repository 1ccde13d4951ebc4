-- The values of the signals and of the words of the design.
use Rattle.std.specs.Prelude.{◌≡◌, ◌<◌, ◌∷◌, ℕ, Bool, List, [], slice_index}
use Rattle.event_machine.specs.Cell.{Values}
use Rattle.four_state.specs.Arithmetic.{low_bits}
use Rattle.four_state.specs.Vector.{bit_of}
use Rattle.four_state.specs.declared.bit.Bit.{Bit}
use Rattle.design_model.specs.Design.{signal_bits, word_bits}
use Rattle.selfrun_design.specs.Selfrun.{selfrun}
use Rattle.selfrun_files.specs.Moments.{inputs_in, registers_after}

-- the signals have these values
pub record HasSignals (v : Values Bit) (clk : Bit) (we : Bool) (a d q p : ℕ) : Type 0 where
  pub is_clk : signal_bits selfrun v 0 ≡ clk ∷ []
  pub is_we : signal_bits selfrun v 1 ≡ bit_of we ∷ []
  pub is_a : signal_bits selfrun v 2 ≡ low_bits 4 a
  pub is_d : signal_bits selfrun v 3 ≡ low_bits 8 d
  pub is_q : signal_bits selfrun v 4 ≡ low_bits 8 q
  pub is_p : signal_bits selfrun v 5 ≡ low_bits 8 p

-- the memory has these words
abbrev pub HasWords : Values Bit → List ℕ → Type 0
HasWords v words = (i : ℕ) → i < 16 → word_bits selfrun v 6 i ≡ low_bits 8 (slice_index words i)

-- the clock has this value, the inputs are those of step k, and the registers are those after n steps
abbrev pub IsAt : ℕ → Values Bit → Bit → ℕ → ℕ → Type 0
IsAt number v clk k n = HasSignals v clk (inputs_in number k).we (inputs_in number k).a (inputs_in number k).d (registers_after number n).q (registers_after number n).p
