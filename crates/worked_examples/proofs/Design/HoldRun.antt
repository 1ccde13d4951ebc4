-- A run of hold that shows the dump, and the example.
use Rattle.std.proofs.Common.{◌≡◌, ◌≢◌, ⊎_elim, refl, sym, ap, ◌∙◌, inl, inr, ℕ, zero, suc, ◌<◌, ◌≤◌, ◌&&◌, ◌||◌, ◌==◌, not, Bool, true, false, [], ◌∷◌, List, arith, lit<, if◌then◌else◌}
use Rattle.std.specs.Prelude.{nat_le}
use Rattle.std.proofs.lemmas.Bool.{cases_lt, false≢true, le-leb, lt-leb}
use Rattle.event_machine.proofs.Habits.{free_habit_law}  -- #keep
use Rattle.event_machine.specs.Cell.{put}
use Rattle.event_machine.specs.Machine.{is_sensitive}
use Rattle.event_machine.specs.Event.{Evaluate, Move, end_state, mark, state_after}
use Rattle.event_machine.specs.Habit.{Free}
use Rattle.event_machine.specs.Step.{IsStep}
use Rattle.event_machine.specs.Run.{step_start}
use Rattle.four_state.specs.declared.bit.Bit.TheVariants.{One, Zero}
use Rattle.design_model.specs.Design.{cell, signal_bits}
use Rattle.design_model.specs.Machine.{machine}
use Rattle.design_model.specs.Run.{IsRun, settled}
use Rattle.design_model.specs.Shows.{Shows}
use Rattle.worked_examples.specs.Design.Hold.{IsHoldExample, hold, hold_dump, hold_events, hold_run, hold_start, hold_values}
use Rattle.worked_examples.proofs.Design.HoldDoubt.{doubt_a, is_clean, not_open, only_a, surely_open}

Zero≢One : Zero ≢ One
Zero≢One = grind arith

One≢Zero : One ≢ Zero
One≢Zero = grind arith

not_empty : {A : Type 0} (x : A) (xs : List A) → x ∷ xs ≢ []
not_empty x xs = grind arith

both_false : (b : Bool) → (((b && false) || false) || false) ≡ false
both_false true = refl
both_false false = refl

and_false : (b : Bool) → (b && false) ≡ false
and_false true = refl
and_false false = refl

none_end : (p : ℕ) → (end_state (machine hold) hold_start hold_events).woken p ≡ false
unfolding put is_sensitive
none_end zero = refl
none_end (suc p) = both_false (not (0 == suc p))

after_move : (p : ℕ) → (state_after (machine hold) (state_after (machine hold) hold_start (Move (record { cell = cell 2 0; value = Zero } ∷ record { cell = cell 0 0; value = One } ∷ []))) (Evaluate 0)).woken p ≡ false
unfolding put is_sensitive
after_move zero = refl
after_move (suc p) = and_false (not (0 == suc p))

-- the events are a step
is_step : IsStep (machine hold) Free hold_start hold_events
unfolding put is_sensitive mark
is_step =
    record {
      starts = record { none_woken = λ p. refl; none_active = refl; none_queued = refl };
      unmoved = λ c. refl;
      legal = ((not_empty _ _, (refl, refl, One≢Zero, (refl, refl, Zero≢One, tt))), (refl, (((after_move, refl), not_empty _ _), (not_empty _ _, tt))));
      habit = free_habit_law (machine hold) hold_start hold_events;
      ends = record { none_woken = none_end; none_active = refl; none_queued = refl };
    }

is_run : IsRun hold Free hold_run
is_run =
    record {
      starts = record { none_woken = λ p. refl; none_active = refl; none_queued = refl };
      unmoved = λ c. refl;
      nets = λ p c is_assign blocks. absurd (no_assign p is_assign);
      steps = (lit< tt, is_step, tt);
    }
  where
    no_assign : (p : ℕ) → (machine hold).is_assign p ≡ true → ⊥
    no_assign zero e = false≢true e
    no_assign (suc p) e = false≢true e

-- at 5 its settled values are the dump's
same_at_5 : (s : ℕ) → signal_bits hold (settled hold hold_run 5) s ≡ signal_bits hold (hold_dump.values 5) s
unfolding put
same_at_5 zero = refl
same_at_5 (suc zero) = refl
same_at_5 (suc (suc zero)) = refl
same_at_5 (suc (suc (suc zero))) = refl
same_at_5 (suc (suc (suc (suc zero)))) = refl
same_at_5 (suc (suc (suc (suc (suc s))))) = refl

-- before and after the step
values_before : (t : ℕ) → t < 5 → (s : ℕ) → signal_bits hold (settled hold hold_run t) s ≡ signal_bits hold (hold_dump.values t) s
values_before t h s =
    ap (λ b. signal_bits hold (if b then step_start (end_state (machine hold) hold_start hold_events) else hold_start).values s) (lt-leb 5 t h)
    ∙ sym (ap (λ b. signal_bits hold (if b then hold_values Zero Zero Zero Zero Zero else (if nat_le 5 t then hold_values One Zero Zero Zero Zero else hold_values Zero Zero One Zero Zero)) s) (lt-leb 10 t (omega (arith, h))) ∙ ap (λ b. signal_bits hold (if b then hold_values One Zero Zero Zero Zero else hold_values Zero Zero One Zero Zero) s) (lt-leb 5 t h))

values_after : (t : ℕ) → 5 ≤ t → t < 10 → (s : ℕ) → signal_bits hold (settled hold hold_run t) s ≡ signal_bits hold (hold_dump.values t) s
values_after t h g s =
    ap (λ b. signal_bits hold (if b then step_start (end_state (machine hold) hold_start hold_events) else hold_start).values s) (le-leb 5 t h)
    ∙ same_at_5 s
    ∙ sym (ap (λ b. signal_bits hold (if b then hold_values Zero Zero Zero Zero Zero else (if nat_le 5 t then hold_values One Zero Zero Zero Zero else hold_values Zero Zero One Zero Zero)) s) (lt-leb 10 t g) ∙ ap (λ b. signal_bits hold (if b then hold_values One Zero Zero Zero Zero else hold_values Zero Zero One Zero Zero) s) (le-leb 5 t h))

shows : Shows hold hold_dump hold_run
shows = record { starts = refl; shows = λ t in_dump s bound. ⊎_elim (λ before. values_before t before s) (λ later. values_after t later in_dump.1 s) (cases_lt t 5) }

pub hold_example : IsHoldExample
hold_example =
    record {
      run = is_run;
      shows = shows;
      clean = is_clean;
      early = only_a;
      doubt = doubt_a;
      not_open = not_open;
      surely_open = surely_open;
      reached = ((lit< tt, lit< tt), refl, inl (cell 0 0, is_clean, inr surely_open));
    }
