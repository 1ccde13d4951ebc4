-- Each word is clear once it was written.
use Rattle.std.proofs.Common.{◌≡◌, ⊎_elim, ℕ, zero, suc, ◌+◌, ◌-◌, ◌*◌, ◌<◌, ◌≤◌, subst, ◌∙◌, arith}
use Rattle.std.specs.Prelude.{slice_index}
use Rattle.std.proofs.lemmas.Bool.{cases_lt, lt-ltb}
use Rattle.event_machine.specs.Habit.{Free}
use Rattle.four_state.specs.Arithmetic.{low_bits}
use Rattle.design_model.specs.Clear.{clear, of_clean, of_unwoken}
use Rattle.design_model.specs.Design.{a_signal, a_word, cell, signal_bits}
use Rattle.design_model.specs.MayMove.{CanWakeSome}
use Rattle.design_model.specs.Shows.{BoundDump, IsWindow}
use Rattle.design_model.proofs.Definite.{bound_clear_law}
use Rattle.selfrun_design.specs.Selfrun.{selfrun}
use Rattle.selfrun_files.specs.Moments.{registers_after}
use Rattle.selfrun_runs.specs.Says.{SaysSelfrun}
use Rattle.selfrun_doubts.specs.Words.{WordsLaw}
use Rattle.selfrun_doubts.proofs.Known.{KnowsStart, word_target, written}
use Rattle.selfrun_doubts.proofs.Wakes.{asleep_high, asleep_low, edge_at}

module _ (number steps : ℕ) (dump : BoundDump) (says : SaysSelfrun number steps dump) where
  -- the words that the first n steps have written are clear at t
  abbrev pub WordsAt : ℕ → ℕ → Type 0
  WordsAt t n = (i : ℕ) → i < 16 → i < n → clear selfrun Free dump t (a_word 6 i) (low_bits 8 (slice_index (registers_after number n).words i))

  -- so are the signals, at each time that is shown
  pub signal_clear : (t s : ℕ) → t < 10 * steps → s < 6 → clear selfrun Free dump t (a_signal s) (signal_bits selfrun (dump.values t) s)
  signal_clear t s until below = bound_clear_law selfrun Free dump t s ((says.shown t).1 until) (says.bound s ∙ lt-ltb s 6 below) below

  window_at : (t : ℕ) → 0 < t → t < 10 * steps → IsWindow dump t
  window_at t some until = (says.window t).1 (some, until)

  -- where the block cannot wake they stay
  stay : (u n : ℕ) → IsWindow dump (suc u) → (CanWakeSome selfrun dump (suc u) 0 → ⊥) → WordsAt u n → WordsAt (suc u) n
  stay u n window asleep words i below early = (1, of_unwoken 0 (a_word 6 i) _ window tt (word_target i below) asleep (words i below early))

  low_from : (k : ℕ) → k < steps → WordsAt (10 * k) k → (j : ℕ) → j < 5 → WordsAt (10 * k + j) k
  low_from k inside first zero below = subst (λ t. WordsAt t k) (let same : 10 * k ≡ 10 * k + 0 = omega arith in same) first
  low_from k inside first (suc j) below =
      subst (λ t. WordsAt t k) (let same : suc (10 * k + j) ≡ 10 * k + suc j = omega arith in same)
      (stay (10 * k + j) k (window_at _ (omega arith) (omega (arith, inside, below))) (asleep_low number steps dump says (suc (10 * k + j)) k (suc j) (omega arith) inside below) (low_from k inside first j (omega (arith, below))))

  high_from : (k : ℕ) → k < steps → WordsAt (10 * k + 5) (suc k) → (j : ℕ) → j < 5 → WordsAt (10 * k + 5 + j) (suc k)
  high_from k inside first zero below = subst (λ t. WordsAt t (suc k)) (let same : 10 * k + 5 ≡ 10 * k + 5 + 0 = omega arith in same) first
  high_from k inside first (suc j) below =
      subst (λ t. WordsAt t (suc k)) (let same : suc (10 * k + 5 + j) ≡ 10 * k + 5 + suc j = omega arith in same)
      (stay (10 * k + 5 + j) (suc k) (window_at _ (omega arith) (omega (arith, inside, below))) (asleep_high number steps dump says (suc (10 * k + 5 + j)) k j (omega arith) inside below) (high_from k inside first j (omega (arith, below))))

  -- where the clock rises the step writes its word
  rise : (k : ℕ) → k < steps → WordsAt (10 * k + 4) k → WordsAt (10 * k + 5) (suc k)
  rise k inside words =
      subst (λ t. WordsAt t (suc k)) (let same : suc (10 * k + 4) ≡ 10 * k + 5 = omega arith in same)
      (λ i below early. (
        1,
        of_clean 0 (cell 0 0) (a_word 6 i) _ (window_at _ (omega arith) (omega (arith, inside))) tt
            (written number steps dump says (suc (10 * k + 4)) k (edge_at number steps dump says (suc (10 * k + 4)) k (omega arith) inside) (clear selfrun Free dump (10 * k + 4)) knows i below early),
      ))
    where
      knows : KnowsStart number dump (suc (10 * k + 4)) k (clear selfrun Free dump (10 * k + 4))
      knows = record {
        signals = λ s below.
            subst (λ t. clear selfrun Free dump (10 * k + 4) (a_signal s) (signal_bits selfrun (dump.values t) s)) (let same : 10 * k + 4 ≡ suc (10 * k + 4) - 1 = omega arith in same)
            (signal_clear (10 * k + 4) s (omega (arith, inside)) below);
        words = words;
      }

  -- at the first time of each step
  pub at_step : (k : ℕ) → k < steps → WordsAt (10 * k) k
  at_step zero inside = λ i below early. absurd (omega (arith, early))
  at_step (suc k) inside =
      let here : k < steps = omega (arith, inside) in
      let rests : WordsAt (10 * k + 5) (suc k) = rise k here (low_from k here (at_step k here) 4 (omega arith)) in
      subst (λ t. WordsAt t (suc k)) (let same : suc (10 * k + 5 + 4) ≡ 10 * suc k = omega arith in same)
      (stay (10 * k + 5 + 4) (suc k) (window_at _ (omega arith) (omega (arith, inside))) (asleep_low number steps dump says (suc (10 * k + 5 + 4)) (suc k) 0 (omega arith) inside (omega arith)) (high_from k here rests 4 (omega arith)))

  pub at_low : (k j : ℕ) → k < steps → j < 5 → WordsAt (10 * k + j) k
  at_low k j inside below = low_from k inside (at_step k inside) j below

  at_high : (k j : ℕ) → k < steps → j < 5 → WordsAt (10 * k + 5 + j) (suc k)
  at_high k j inside below = high_from k inside (rise k inside (at_low k 4 inside (omega arith))) j below

pub words_law : WordsLaw
words_law number steps dump says k j i until within below early = ⊎_elim first next (cases_lt j 5)
  where
    inside : k < steps
    inside = omega (arith, until)

    first : j < 5 → clear selfrun Free dump (10 * k + 5 + j) (a_word 6 i) (low_bits 8 (slice_index (registers_after number (suc k)).words i))
    first less = at_high number steps dump says k j inside less i below (omega (arith, early))

    next : 5 ≤ j → clear selfrun Free dump (10 * k + 5 + j) (a_word 6 i) (low_bits 8 (slice_index (registers_after number (suc k)).words i))
    next more =
        subst (λ t. clear selfrun Free dump t (a_word 6 i) (low_bits 8 (slice_index (registers_after number (suc k)).words i))) (let same : 10 * suc k + (j - 5) ≡ 10 * k + 5 + j = omega arith in same)
        (at_low number steps dump says (suc k) (j - 5) (omega (arith, until, more)) (omega (arith, within, more)) i below (omega (arith, early)))
