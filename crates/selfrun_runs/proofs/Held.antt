-- What the design contains at the ends of the two steps of the machine.
use Rattle.std.proofs.Common.{◌≡◌, ◌≢◌, inl, inr, ⊎_elim, ℕ, suc, ◌==◌, ◌<◌, Bool, true, false, List, [], ◌∷◌, refl, sym, ap, subst, ◌∙◌}
use Rattle.std.specs.Prelude.{slice_index}
use Rattle.std.proofs.lemmas.Bool.{cases_eq, eqb-false}
use Rattle.event_machine.specs.Cell.{Cell, Values, Write, WritesCell, put, put_all}
use Rattle.event_machine.proofs.Writes.{put_same}
use Rattle.four_state.specs.Arithmetic.{low_bits}
use Rattle.four_state.specs.Vector.{bit_of}
use Rattle.four_state.specs.declared.bit.Bit.{Bit}
use Rattle.four_state.specs.declared.bit.Bit.TheVariants.{One, Zero}
use Rattle.design_model.specs.Design.{cell, signal_bits, word_bits}
use Rattle.design_model.specs.Execution.{Visit}
use Rattle.selfrun_design.specs.Selfrun.{selfrun}
use Rattle.selfrun_files.specs.Moments.{inputs_in, registers_after}
use Rattle.selfrun_runs.specs.Signals.{HasWords, IsAt}
use Rattle.selfrun_runs.proofs.Body.{Evaluation, p_update, q_update, read_visits, when_reading, when_writing, word_update, write_visits}
use Rattle.selfrun_runs.proofs.Cells.{of_memory, of_signal, signal_kept, signal_written, word_kept, word_other, word_written}
use Rattle.selfrun_runs.proofs.Quiet.{AreQuiet, quiet_others, rise}
use Rattle.selfrun_runs.proofs.Registers.{a_below, other_word, q_kept, q_read, words_kept, written_word}

-- the signals and the words are those after n steps, with the inputs of step k
pub record Holds (number : ℕ) (v : Values Bit) (clk : Bit) (k n : ℕ) : Type 0 where
  pub signals : IsAt number v clk k n
  pub words : HasWords v (registers_after number n).words

-- ---- the updates of an evaluation

p_is_5 : (v : Values Bit) (c : Cell) → WritesCell (p_update v) c → c.thing ≡ 5
p_is_5 v c w = of_signal selfrun 5 (signal_bits selfrun v 3) c w

word_is_6 : (v : Values Bit) (a : ℕ) (c : Cell) → WritesCell (word_update v a) c → c.thing ≡ 6
word_is_6 v a c w = of_memory selfrun 6 a (signal_bits selfrun v 5) c w

q_is_4 : (v : Values Bit) (a : ℕ) (c : Cell) → WritesCell (q_update v a) c → c.thing ≡ 4
q_is_4 v a c w = of_signal selfrun 4 (word_bits selfrun v 6 a) c w

-- things that differ by their numbers
other_thing : (x y z : ℕ) → x ≡ y → (y == z) ≡ false → x ≢ z
other_thing x y z same differ e = eqb-false y z differ (sym same ∙ e)

module _ (number k : ℕ) (v : Values Bit) (held : Holds number v Zero k k) where
  -- after the rise
  abbrev up : Values Bit
  up = put v rise

  up_kept : (s : ℕ) → (0 == s) ≡ false → signal_bits selfrun up s ≡ signal_bits selfrun v s
  up_kept s other = signal_kept selfrun v (rise ∷ []) s (λ c w. other_thing c.thing 0 s (is_clk c w) other)
    where
      is_clk : (c : Cell) → WritesCell (rise ∷ []) c → c.thing ≡ 0
      is_clk c (inl e) = ap (λ (x : Cell). x.thing) (sym e)
      is_clk c (inr none) = absurd none

  up_words : (i : ℕ) → word_bits selfrun up 6 i ≡ word_bits selfrun v 6 i
  up_words i = word_kept selfrun v (rise ∷ []) 6 i (λ c w. other_thing c.thing 0 6 (is_clk c w) refl)
    where
      is_clk : (c : Cell) → WritesCell (rise ∷ []) c → c.thing ≡ 0
      is_clk c (inl e) = ap (λ (x : Cell). x.thing) (sym e)
      is_clk c (inr none) = absurd none

  pub low : v (cell 0 0) ≡ Zero
  low = let e = held.signals.is_clk in cc

  -- the updates of p and of another thing, and what they leave
  pub record Leaves (second : List (Write Bit)) : Type 0 where
    pub visits : List Visit
    pub evaluates : Evaluation up (p_update up ∷ second ∷ []) visits
    pub first_quiet : AreQuiet (p_update up)
    pub second_quiet : AreQuiet second
    pub holds : Holds number (put_all (put_all up (p_update up)) second) One k (suc k)

  abbrev p_new : Values Bit
  p_new = put_all up (p_update up)

  p_new_kept : (s : ℕ) → (5 == s) ≡ false → signal_bits selfrun p_new s ≡ signal_bits selfrun up s
  p_new_kept s other = signal_kept selfrun up (p_update up) s (λ c w. other_thing c.thing 5 s (p_is_5 up c w) other)

  p_new_is : signal_bits selfrun p_new 5 ≡ low_bits 8 (registers_after number (suc k)).p
  p_new_is = signal_written selfrun up 5 (signal_bits selfrun up 3) refl ∙ up_kept 3 refl ∙ held.signals.is_d

  p_new_words : (i : ℕ) → word_bits selfrun p_new 6 i ≡ word_bits selfrun v 6 i
  p_new_words i = word_kept selfrun up (p_update up) 6 i (λ c w. other_thing c.thing 5 6 (p_is_5 up c w) refl) ∙ up_words i

  p_quiet : AreQuiet (p_update up)
  p_quiet = quiet_others (p_update up) (λ c w. other_thing c.thing 5 0 (p_is_5 up c w) refl)

  up_a : signal_bits selfrun up 2 ≡ low_bits 4 (inputs_in number k).a
  up_a = up_kept 2 refl ∙ held.signals.is_a

  up_clk : signal_bits selfrun up 0 ≡ One ∷ []
  up_clk = ap (λ b. b ∷ []) (put_same v rise (cell 0 0) refl)

  -- the update of a word
  abbrev second : List (Write Bit)
  second = word_update up (inputs_in number k).a

  writing : (inputs_in number k).we ≡ true → Leaves (word_update up (inputs_in number k).a)
  writing we = record {
    visits = write_visits (inputs_in number k).a;
    evaluates = when_writing up (inputs_in number k).a up_a (a_below number k) (up_kept 1 refl ∙ held.signals.is_we ∙ ap (λ b. bit_of b ∷ []) we);
    first_quiet = p_quiet;
    second_quiet = quiet_others (word_update up (inputs_in number k).a) (λ c w. other_thing c.thing 6 0 (word_is_6 up (inputs_in number k).a c w) refl);
    holds = record {
      signals = record {
        is_clk = kept 0 refl ∙ p_new_kept 0 refl ∙ up_clk;
        is_we = kept 1 refl ∙ p_new_kept 1 refl ∙ up_kept 1 refl ∙ held.signals.is_we;
        is_a = kept 2 refl ∙ p_new_kept 2 refl ∙ up_a;
        is_d = kept 3 refl ∙ p_new_kept 3 refl ∙ up_kept 3 refl ∙ held.signals.is_d;
        is_q = kept 4 refl ∙ p_new_kept 4 refl ∙ up_kept 4 refl ∙ held.signals.is_q ∙ ap (low_bits 8) (sym (q_kept number k we));
        is_p = kept 5 refl ∙ p_new_is;
      };
      words = λ i below. ⊎_elim (λ same. at_word i same) (λ apart. beside i below apart) (cases_eq i (inputs_in number k).a);
    };
  }
    where
      kept : (s : ℕ) → (6 == s) ≡ false → signal_bits selfrun (put_all p_new second) s ≡ signal_bits selfrun p_new s
      kept s other = signal_kept selfrun p_new second s (λ c w. other_thing c.thing 6 s (word_is_6 up (inputs_in number k).a c w) other)

      at_word : (i : ℕ) → i ≡ (inputs_in number k).a → word_bits selfrun (put_all p_new second) 6 i ≡ low_bits 8 (slice_index (registers_after number (suc k)).words i)
      at_word i same =
          subst (λ j. word_bits selfrun (put_all p_new second) 6 j ≡ low_bits 8 (slice_index (registers_after number (suc k)).words j)) (sym same)
          (word_written selfrun p_new 6 (inputs_in number k).a (signal_bits selfrun up 5) refl ∙ up_kept 5 refl ∙ held.signals.is_p ∙ ap (low_bits 8) (sym (written_word number k we)))

      beside : (i : ℕ) → i < 16 → i ≢ (inputs_in number k).a → word_bits selfrun (put_all p_new second) 6 i ≡ low_bits 8 (slice_index (registers_after number (suc k)).words i)
      beside i below apart =
          word_other selfrun p_new 6 (inputs_in number k).a i (signal_bits selfrun up 5) apart ∙ p_new_words i ∙ held.words i below ∙ ap (low_bits 8) (sym (other_word number k we i apart))

  reading : (inputs_in number k).we ≡ false → Leaves (q_update up (inputs_in number k).a)
  reading we = record {
    visits = read_visits (inputs_in number k).a;
    evaluates = when_reading up (inputs_in number k).a up_a (a_below number k) (up_kept 1 refl ∙ held.signals.is_we ∙ ap (λ b. bit_of b ∷ []) we);
    first_quiet = p_quiet;
    second_quiet = quiet_others (q_update up (inputs_in number k).a) (λ c w. other_thing c.thing 4 0 (q_is_4 up (inputs_in number k).a c w) refl);
    holds = record {
      signals = record {
        is_clk = kept 0 refl ∙ p_new_kept 0 refl ∙ up_clk;
        is_we = kept 1 refl ∙ p_new_kept 1 refl ∙ up_kept 1 refl ∙ held.signals.is_we;
        is_a = kept 2 refl ∙ p_new_kept 2 refl ∙ up_a;
        is_d = kept 3 refl ∙ p_new_kept 3 refl ∙ up_kept 3 refl ∙ held.signals.is_d;
        is_q = signal_written selfrun p_new 4 (word_bits selfrun up 6 (inputs_in number k).a) refl ∙ up_words (inputs_in number k).a ∙ held.words (inputs_in number k).a (a_below number k) ∙ ap (low_bits 8) (sym (q_read number k we));
        is_p = kept 5 refl ∙ p_new_is;
      };
      words = λ i below.
          word_kept selfrun p_new (q_update up (inputs_in number k).a) 6 i (λ c w. other_thing c.thing 4 6 (q_is_4 up (inputs_in number k).a c w) refl)
          ∙ p_new_words i ∙ held.words i below ∙ ap (λ (ws : List ℕ). low_bits 8 (slice_index ws i)) (sym (words_kept number k we));
    };
  }
    where
      kept : (s : ℕ) → (4 == s) ≡ false → signal_bits selfrun (put_all p_new (q_update up (inputs_in number k).a)) s ≡ signal_bits selfrun p_new s
      kept s other = signal_kept selfrun p_new (q_update up (inputs_in number k).a) s (λ c w. other_thing c.thing 4 s (q_is_4 up (inputs_in number k).a c w) other)

  -- the second update, and what the two leave
  pub risen : (second : List (Write Bit)) × Leaves second
  risen = go (inputs_in number k).we refl
    where
      go : (b : Bool) → (inputs_in number k).we ≡ b → (second : List (Write Bit)) × Leaves second
      go true we = (word_update up (inputs_in number k).a, writing we)
      go false we = (q_update up (inputs_in number k).a, reading we)
