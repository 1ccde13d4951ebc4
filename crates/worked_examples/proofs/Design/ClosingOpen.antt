-- The run, and what is open at the end of its step.
use Rattle.std.proofs.Common.{◌≡◌, ◌≢◌, ⊎_elim, refl, sym, ap, subst, ◌∙◌, inl, inr, ℕ, zero, suc, ◌<◌, ◌≤◌, ◌==◌, true, false, [], ◌∷◌, List, arith, lit<, lit≤, if◌then◌else◌}
use Rattle.std.specs.Prelude.{nat_le, nat_lt}
use Rattle.std.specs.List.{list_any}
use Rattle.std.proofs.lemmas.Bool.{and_parts, cases_Bool, cases_lt, eqb-true, false≢true, le-leb, leb-true, lt-leb, ltb-true}
use Rattle.event_machine.proofs.Habits.{free_habit_law}  -- #keep
use Rattle.event_machine.specs.Cell.{put}
use Rattle.event_machine.specs.Machine.{is_sensitive}
use Rattle.event_machine.specs.Event.{end_state, mark}
use Rattle.event_machine.specs.Habit.{Free}
use Rattle.event_machine.specs.Step.{IsStep}
use Rattle.event_machine.specs.Run.{step_start}
use Rattle.four_state.specs.declared.bit.Bit.{Bit}
use Rattle.four_state.specs.declared.bit.Bit.TheVariants.{One, Zero}
use Rattle.design_model.specs.Tree.{signal}
use Rattle.design_model.specs.Design.{In, IsThing, a_signal, a_word, body_at, cell, signal_bits}
use Rattle.design_model.specs.Mentions.{body_blocks, mentions}
use Rattle.design_model.specs.Execution.{at_line, cases}
use Rattle.design_model.specs.Machine.{machine}
use Rattle.design_model.specs.Paths.{paths}
use Rattle.design_model.specs.Reads.{Agrees, HasValue}
use Rattle.design_model.specs.Run.{IsRun, settled}
use Rattle.design_model.specs.Shows.{Shows}
use Rattle.design_model.specs.Clear.{clear, of_dump}
use Rattle.design_model.specs.Open.{FollowsAll, IsFixed, IsOpen, KnownAtEnd}
use Rattle.design_model.specs.ExampleParts.{at, counted}
use Rattle.design_model.proofs.Bound.{clear_bound}
use Rattle.worked_examples.specs.Design.Closing.{IsClosingExample, closing, closing_dump, closing_events, closing_run, closing_start, closing_values, line_set}
use Rattle.worked_examples.proofs.Design.Entry.{at_end}
use Rattle.worked_examples.proofs.Design.PathSteps.{is_reaching, node_inside, reaching_found}
use Rattle.worked_examples.proofs.Design.TestLine.{test_line_sure}

Zero≢One : Zero ≢ One
Zero≢One = grind arith

One≢Zero : One ≢ Zero
One≢Zero = grind arith

not_empty : {A : Type 0} (x : A) (xs : List A) → x ∷ xs ≢ []
not_empty x xs = grind arith

not_zero : (p : ℕ) → (0 == suc p) ≡ false
not_zero p = ⊎_elim (λ e. absurd (apart p (eqb-true 0 (suc p) e))) (λ e. e) (cases_Bool (0 == suc p))
  where
    apart : (p : ℕ) → 0 ≡ suc p → ⊥
    apart p e = omega (arith, e)

none_end : (p : ℕ) → (end_state (machine closing) closing_start closing_events).woken p ≡ false
unfolding put is_sensitive
none_end zero = refl
none_end (suc p) = rw (not_zero p) refl

is_step : IsStep (machine closing) Free closing_start closing_events
unfolding put is_sensitive mark
is_step =
    record {
      starts = record { none_woken = λ p. refl; none_active = refl; none_queued = refl };
      unmoved = λ c. refl;
      legal = ((not_empty _ _, (refl, refl, Zero≢One, tt)), (refl, ((not_empty _ _, (refl, refl, One≢Zero, tt)), (refl, tt))));
      habit = free_habit_law (machine closing) closing_start closing_events;
      ends = record { none_woken = none_end; none_active = refl; none_queued = refl };
    }

is_run : IsRun closing Free closing_run
is_run =
    record {
      starts = record { none_woken = λ p. refl; none_active = refl; none_queued = refl };
      unmoved = λ c. refl;
      nets = λ p c is_assign blocks. absurd (no_assign p is_assign);
      steps = (lit< tt, is_step, tt);
    }
  where
    no_assign : (p : ℕ) → (machine closing).is_assign p ≡ true → ⊥
    no_assign zero e = false≢true e
    no_assign (suc p) e = false≢true e

same_at_5 : (s : ℕ) → signal_bits closing (settled closing closing_run 5) s ≡ signal_bits closing (closing_dump.values 5) s
unfolding put
same_at_5 zero = refl
same_at_5 (suc zero) = refl
same_at_5 (suc (suc zero)) = refl
same_at_5 (suc (suc (suc s))) = refl

values_before : (t : ℕ) → t < 5 → (s : ℕ) → signal_bits closing (settled closing closing_run t) s ≡ signal_bits closing (closing_dump.values t) s
values_before t h s =
    ap (λ b. signal_bits closing (if b then step_start (end_state (machine closing) closing_start closing_events) else closing_start).values s) (lt-leb 5 t h)
    ∙ sym (ap (λ b. signal_bits closing (if b then closing_values One One One else (if nat_le 5 t then closing_values Zero One One else closing_values One Zero Zero)) s) (lt-leb 10 t (omega (arith, h))) ∙ ap (λ b. signal_bits closing (if b then closing_values Zero One One else closing_values One Zero Zero) s) (lt-leb 5 t h))

values_after : (t : ℕ) → 5 ≤ t → t < 10 → (s : ℕ) → signal_bits closing (settled closing closing_run t) s ≡ signal_bits closing (closing_dump.values t) s
values_after t h g s =
    ap (λ b. signal_bits closing (if b then step_start (end_state (machine closing) closing_start closing_events) else closing_start).values s) (le-leb 5 t h)
    ∙ same_at_5 s
    ∙ sym (ap (λ b. signal_bits closing (if b then closing_values One One One else (if nat_le 5 t then closing_values Zero One One else closing_values One Zero Zero)) s) (lt-leb 10 t g) ∙ ap (λ b. signal_bits closing (if b then closing_values Zero One One else closing_values One Zero Zero) s) (le-leb 5 t h))

does_show : Shows closing closing_dump closing_run
does_show = record { starts = refl; shows = λ t in_dump s bound. ⊎_elim (λ before. values_before t before s) (λ later. values_after t later in_dump.1 s) (cases_lt t 5) }

no_words : (m i : ℕ) → IsThing closing (a_word m i) → ⊥
no_words m i h = let p = and_parts (nat_le 3 m) (nat_lt m 3) h.0 in omega (arith, leb-true 3 m p.0, ltb-true m 3 p.1)

-- at the end of 5
agrees : Agrees closing (KnownAtEnd closing Free closing_dump 5 0) (closing_values Zero One One)
agrees = at_end closing Free closing_dump 5 0 (closing_values Zero One One) no_words signals
  where
    signals : (s : ℕ) → s < 3 → (bits : List Bit) → clear closing Free closing_dump 5 (a_signal s) bits → signal_bits closing (closing_values Zero One One) s ≡ bits
    signals zero below bits k = sym (clear_bound closing Free closing_dump 5 0 bits k refl)
    signals (suc zero) below bits k = sym (clear_bound closing Free closing_dump 5 1 bits k refl)
    signals (suc (suc zero)) below bits k = sym (clear_bound closing Free closing_dump 5 2 bits k refl)
    signals (suc (suc (suc s))) below bits k = absurd (omega (arith, below))

has_en : HasValue (KnownAtEnd closing Free closing_dump 5 0) (a_signal 0)
has_en = (Zero ∷ [], (refl, (1, of_dump 0 (Zero ∷ []) (lit≤ tt, lit< tt) refl (lit< tt) refl)))

fixed_en : IsFixed closing (KnownAtEnd closing Free closing_dump 5 0) (body_at closing 0) (signal (counted 1) 0)
fixed_en = record { within = λ v a. (has_en, node_inside (KnownAtEnd closing Free closing_dump 5 0) (counted 1).node (cases closing v (signal (counted 1) 0))); unwritten = unwritten }
  where
    unwritten : (x : ℕ) → mentions x (signal (counted 1) 0) ≡ true → body_blocks x (body_at closing 0) ≡ false
    unwritten x m = subst (λ y. body_blocks y (body_at closing 0) ≡ false) (eqb-true 0 x m) refl

is_not_open : IsOpen closing (KnownAtEnd closing Free closing_dump 5 0) (body_at closing 0) line_set → ⊥
is_not_open h = go h.1.is_path
  where
    go : In h.0 (paths [] (body_at closing 0)) → ⊥
    go (inl e) = false≢true ((subst (FollowsAll closing (KnownAtEnd closing Free closing_dump 5 0) (body_at closing 0)) (sym e) h.1.follows).1.0 fixed_en (closing_values Zero One One) agrees)
    go (inr (inl e)) = false≢true (subst (λ p. list_any (λ y. is_reaching 2 y.action) p ≡ true) (sym e) (reaching_found 2 h.2.1.0 h.0 h.2.1.1 h.2.1.3))
    go (inr (inr n)) = n

pub closing_example : IsClosingExample
closing_example =
    record {
      run = is_run;
      shows = does_show;
      visited_before = inr (inr (inr (inl refl)));
      reached = ((lit< tt, lit< tt), refl, inr ((λ c. c), (cell 0 0, (lit< tt, lit< tt, (refl, refl)), refl, One≢Zero), inl (at_line 1, refl, (closing_values Zero One One, agrees, inl refl))));
      surely_open = test_line_sure closing (KnownAtEnd closing Free closing_dump 5 0) (at 5) 1 _ _ _;
      not_open = is_not_open;
    }
