-- A run of the divided clock that shows the dump, and the example.
use Rattle.std.proofs.Common.{◌≡◌, take, refl, inl, inr, ℕ, zero, suc, true, false, [], ◌∷◌, List, lit<}
use Rattle.std.proofs.lemmas.Bool.{false≢true}
use Rattle.event_machine.proofs.Habits.{free_habit_law}  -- #keep
use Rattle.event_machine.specs.Cell.{Values, Write, put}
use Rattle.event_machine.specs.Machine.{is_sensitive, wakes}
use Rattle.event_machine.specs.Event.{Event, end_state, mark}
use Rattle.event_machine.specs.Habit.{Free}
use Rattle.event_machine.specs.Step.{IsStep}
use Rattle.four_state.specs.declared.bit.Bit.{Bit}
use Rattle.four_state.specs.declared.bit.Bit.TheVariants.{One, Zero}
use Rattle.design_model.specs.Design.{cell, signal_bits}
use Rattle.design_model.specs.Machine.{machine}
use Rattle.design_model.specs.Run.{IsRun}
use Rattle.design_model.specs.Shows.{Shows}
use Rattle.worked_examples.specs.Design.Divided.{IsDividedExample, divided, divided_dump, divided_events, divided_run, divided_start, divided_values}
use Rattle.worked_examples.proofs.Design.DividedDoubt.{doubt_h, false_closed, is_clean, is_not_clean, line_sure_q, single_h, sure_true}
use Rattle.worked_examples.proofs.Design.DividedRounds.{last_rounds}
use Rattle.worked_examples.proofs.Design.OneStep.{never_woken, shows_step}
use Rattle.worked_examples.proofs.Design.Parts.{Zero≢One, not_empty}

-- there is no third process
deaf : (p : ℕ) (v : Values Bit) (ws : List (Write Bit)) → wakes (machine divided) (suc (suc p)) v ws ≡ false
unfolding is_sensitive
deaf p v [] = refl
deaf p v (w ∷ ws) = deaf p (put v w) ws

none_woken : (es : List (Event Bit)) → (end_state (machine divided) divided_start es).woken 0 ≡ false → (end_state (machine divided) divided_start es).woken 1 ≡ false → (p : ℕ) → (end_state (machine divided) divided_start es).woken p ≡ false
none_woken es a b zero = a
none_woken es a b (suc zero) = b
none_woken es a b (suc (suc p)) = never_woken (machine divided) (suc (suc p)) (deaf p) es divided_start refl

is_step : IsStep (machine divided) Free divided_start divided_events
unfolding put is_sensitive mark
is_step =
    record {
      starts = record { none_woken = λ p. refl; none_active = refl; none_queued = refl };
      unmoved = λ c. refl;
      legal = (
        (not_empty _ _, (refl, refl, Zero≢One, tt)),
        (
          refl,
          (
            ((none_woken (take 2 divided_events) refl refl, refl), not_empty _ _),
            (
              not_empty _ _,
              (
                refl,
                (((none_woken (take 5 divided_events) refl refl, refl), not_empty _ _), (not_empty _ _, tt)),
              ),
            ),
          ),
        ),
      );
      habit = free_habit_law (machine divided) divided_start divided_events;
      ends = record { none_woken = none_woken divided_events refl refl; none_active = refl; none_queued = refl };
    }

is_run : IsRun divided Free divided_run
is_run =
    record {
      starts = record { none_woken = λ p. refl; none_active = refl; none_queued = refl };
      unmoved = λ c. refl;
      nets = λ p c is_assign blocks. absurd (no_assign p is_assign);
      steps = (lit< tt, is_step, tt);
    }
  where
    no_assign : (p : ℕ) → (machine divided).is_assign p ≡ true → ⊥
    no_assign zero e = false≢true e
    no_assign (suc zero) e = false≢true e
    no_assign (suc (suc p)) e = false≢true e

same_end : (s : ℕ) → signal_bits divided (end_state (machine divided) divided_start divided_events).values s ≡ signal_bits divided (divided_values One One One One) s
unfolding put
same_end zero = refl
same_end (suc zero) = refl
same_end (suc (suc zero)) = refl
same_end (suc (suc (suc zero))) = refl
same_end (suc (suc (suc (suc s)))) = refl

does_show : (n : ℕ) → Shows divided (divided_dump n) divided_run
does_show n = shows_step divided (divided_dump n).bound (divided_dump n).round (divided_values Zero One Zero Zero) (divided_values One One One One) (divided_values Zero One One One) divided_start divided_events (λ s. refl) same_end

pub divided_example : IsDividedExample
divided_example =
    record {
      run = is_run;
      shows = does_show;
      first_rounds = λ t. refl;
      last_rounds = last_rounds;
      not_clean = is_not_clean;
      doubt = doubt_h;
      single = single_h;
      clean = is_clean;
      line_surely_open = line_sure_q;
      reached = ((lit< tt, lit< tt), refl, inl (cell 2 0, is_clean, inr line_sure_q));
      not_open = false_closed;
      surely_open = sure_true;
    }
