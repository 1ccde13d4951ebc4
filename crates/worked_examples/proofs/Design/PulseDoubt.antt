-- A signal that one execution writes twice is single in no round.
use Rattle.std.proofs.Common.{◌≡◌, ⊎_elim, take, refl, sym, subst, inl, inr, ℕ, zero, suc, true, false, Bool, List, [], ◌∷◌, lit<, if◌then◌else◌}
use Rattle.std.specs.Prelude.{nat_le}
use Rattle.std.specs.List.{list_any}
use Rattle.std.proofs.lemmas.Bool.{false≢true}
use Rattle.event_machine.proofs.Habits.{free_habit_law}  -- #keep
use Rattle.event_machine.specs.Cell.{Values, Write, put}
use Rattle.event_machine.specs.Machine.{IsTarget, Posedge, is_sensitive, wakes}
use Rattle.event_machine.specs.Event.{Event, end_state, mark}
use Rattle.event_machine.specs.Habit.{Free}
use Rattle.event_machine.specs.MayMove.{MayMove}
use Rattle.event_machine.specs.Single.{IsSingle, IsWrittenOnce}
use Rattle.event_machine.specs.Step.{IsStep}
use Rattle.four_state.specs.declared.bit.Bit.{Bit}
use Rattle.four_state.specs.declared.bit.Bit.TheVariants.{One, Zero}
use Rattle.design_model.specs.Design.{In, body_at, cell, signal_bits}
use Rattle.design_model.specs.Machine.{machine}
use Rattle.design_model.specs.Paths.{Path, paths, reaches}
use Rattle.design_model.specs.declared.point.Point.{Point}
use Rattle.design_model.specs.Run.{IsRun}
use Rattle.design_model.specs.Shows.{Shows}
use Rattle.design_model.specs.Points.{IsHit}
use Rattle.design_model.specs.MayMove.{CanWakeAt, IsSingleAt, MayMoveAt, told_at}
use Rattle.design_model.specs.Open.{HasAction, IsNotClean, IsOpen, IsOpenFor, IsSurelyOpen, KnownOnEntry}
use Rattle.design_model.specs.Doubt.{IsInDoubt, not_clean, of_block}
use Rattle.worked_examples.specs.Design.Pulse.{IsPulseExample, line_low, line_q, pulse, pulse_dump, pulse_events, pulse_run, pulse_start, pulse_values}
use Rattle.worked_examples.proofs.Design.OneSet.{one_rise}
use Rattle.worked_examples.proofs.Design.OneStep.{never_woken, shows_step}
use Rattle.worked_examples.proofs.Design.PathSteps.{is_reaching, reaching_found}
use Rattle.worked_examples.proofs.Design.Parts.{Zero≢One, not_empty}

-- ---- the doubt

-- h is written by the block that names it twice
writer_is : (p : ℕ) → IsTarget (machine pulse) p (cell 2 0) → p ≡ 0
writer_is zero h = refl
writer_is (suc zero) h = absurd (⊎_elim (λ e. false≢true e) (λ e. false≢true e) h)
writer_is (suc (suc p)) h = absurd (⊎_elim (λ e. false≢true e) (λ e. false≢true e) h)

not_once : (n m : ℕ) → IsWrittenOnce (machine pulse) (told_at (pulse_dump n) 5) (IsSingle (machine pulse) (told_at (pulse_dump n) 5) m) (cell 2 0) → ⊥
not_once n m w = false≢true (subst (λ p. (machine pulse).writes_once p (cell 2 0) ≡ true) (writer_is w.writer w.writes) w.once)

in_no_round : (n m : ℕ) → IsSingle (machine pulse) (told_at (pulse_dump n) 5) m (cell 2 0) → ⊥
in_no_round n zero s = false≢true s.0
in_no_round n (suc m) (inl s) = false≢true s.0
in_no_round n (suc m) (inr w) = not_once n m w

clk_moves : (n : ℕ) → MayMoveAt pulse (pulse_dump n) 5 0
clk_moves n = MayMove.of_input (cell 0 0) (refl, λ s. Zero≢One)

h_wakes : (n : ℕ) → CanWakeAt pulse (pulse_dump n) 5 (cell 2 0) 1
h_wakes n = ((Posedge, refl, λ s. absurd (in_no_round n n s)), MayMove.of_target 0 0 (cell 2 0) (clk_moves n) (inr (cell 0 0, refl, (Posedge, refl, λ s. refl))) (inl refl))

is_not_clean : (n : ℕ) → IsNotClean pulse (pulse_dump n) 5 1
is_not_clean n c clean = in_no_round n n (subst (IsSingleAt pulse (pulse_dump n) 5) (one_rise 2 clean.can_wake.0.0 c clean.can_wake.0.1) clean.is_single)

each_is_open : (n : ℕ) (x : Point) → IsOpenFor pulse Free (pulse_dump n) 5 1 x
each_is_open n x = inl ((cell 2 0, h_wakes n), inl (is_not_clean n))

in_doubt : (n : ℕ) → IsInDoubt pulse Free (pulse_dump n) line_q 5 2
in_doubt n = of_block 1 (lit< tt, lit< tt) refl (each_is_open n line_q) (not_clean (record { event = cell 2 0; of_signal = refl; can_wake = h_wakes n; not_clean = is_not_clean n }))

low_sure : (n : ℕ) → IsSurelyOpen pulse (KnownOnEntry pulse Free (pulse_dump n) 5 0) (body_at pulse 0) line_low
low_sure n = (1 ∷ [], λ path o. go path o.is_path)
  where
    go : (path : Path) → In path (paths [] (body_at pulse 0)) → HasAction (λ x. x ≡ reaches 2) (1 ∷ []) path
    go path (inl e) = subst (HasAction (λ x. x ≡ reaches 2) (1 ∷ [])) e (_, inr (inr (inl refl)), refl, refl)
    go path (inr none) = absurd none

not_in_other : (n : ℕ) → IsOpen pulse (KnownOnEntry pulse Free (pulse_dump n) 5 0) (body_at pulse 0) line_q → ⊥
not_in_other n h = go h.1.is_path
  where
    go : In h.0 (paths [] (body_at pulse 0)) → ⊥
    go (inl e) = false≢true (subst (λ p. list_any (λ y. is_reaching 3 y.action) p ≡ true) (sym e) (reaching_found 3 h.2.1.0 h.0 h.2.1.1 h.2.1.3))
    go (inr none) = none

-- ---- the run

-- there is no third process
deaf : (p : ℕ) (v : Values Bit) (ws : List (Write Bit)) → wakes (machine pulse) (suc (suc p)) v ws ≡ false
unfolding is_sensitive
deaf p v [] = refl
deaf p v (w ∷ ws) = deaf p (put v w) ws

none_woken : (es : List (Event Bit)) → (end_state (machine pulse) pulse_start es).woken 0 ≡ false → (end_state (machine pulse) pulse_start es).woken 1 ≡ false → (p : ℕ) → (end_state (machine pulse) pulse_start es).woken p ≡ false
none_woken es a b zero = a
none_woken es a b (suc zero) = b
none_woken es a b (suc (suc p)) = never_woken (machine pulse) (suc (suc p)) (deaf p) es pulse_start refl

is_step : IsStep (machine pulse) Free pulse_start pulse_events
unfolding put is_sensitive mark
is_step =
    record {
      starts = record { none_woken = λ p. refl; none_active = refl; none_queued = refl };
      unmoved = λ c. refl;
      legal = ((not_empty _ _, (refl, refl, Zero≢One, tt)), (refl, (refl, (((none_woken (take 3 pulse_events) refl refl, refl), not_empty _ _), (not_empty _ _, tt)))));
      habit = free_habit_law (machine pulse) pulse_start pulse_events;
      ends = record { none_woken = none_woken pulse_events refl refl; none_active = refl; none_queued = refl };
    }

is_run : IsRun pulse Free pulse_run
is_run =
    record {
      starts = record { none_woken = λ p. refl; none_active = refl; none_queued = refl };
      unmoved = λ c. refl;
      nets = λ p c is_assign blocks. absurd (no_assign p is_assign);
      steps = (lit< tt, is_step, tt);
    }
  where
    no_assign : (p : ℕ) → (machine pulse).is_assign p ≡ true → ⊥
    no_assign zero e = false≢true e
    no_assign (suc zero) e = false≢true e
    no_assign (suc (suc p)) e = false≢true e

same_end : (s : ℕ) → signal_bits pulse (end_state (machine pulse) pulse_start pulse_events).values s ≡ signal_bits pulse (pulse_values One One Zero One) s
unfolding put
same_end zero = refl
same_end (suc zero) = refl
same_end (suc (suc zero)) = refl
same_end (suc (suc (suc zero))) = refl
same_end (suc (suc (suc (suc s)))) = refl

does_show : (n : ℕ) → Shows pulse (pulse_dump n) pulse_run
does_show n = shows_step pulse (pulse_dump n).bound (pulse_dump n).round (pulse_values Zero One Zero Zero) (pulse_values One One Zero One) (pulse_values Zero One Zero One) pulse_start pulse_events (λ s. refl) same_end

is_low : (n t : ℕ) → signal_bits pulse ((pulse_dump n).values t) 2 ≡ Zero ∷ []
is_low n t = go (nat_le 10 t) (nat_le 5 t)
  where
    go : (b c : Bool) → signal_bits pulse (if b then pulse_values Zero One Zero One else (if c then pulse_values One One Zero One else pulse_values Zero One Zero Zero)) 2 ≡ Zero ∷ []
    go true c = refl
    go false true = refl
    go false false = refl

hits : (n : ℕ) → IsHit pulse (pulse_dump n) pulse_run line_q
unfolding put
hits n = inl (record { before = []; step = record { time = 5; events = pulse_events }; later = []; splits = refl }, (lit< tt, lit< tt), (_, inl refl, inl refl))

pub pulse_example : IsPulseExample
pulse_example =
    record {
      run = is_run;
      shows = does_show;
      low = is_low;
      hit = hits;
      named_twice = refl;
      not_single = λ n. in_no_round n n;
      not_clean = is_not_clean;
      each_open = each_is_open;
      doubt = in_doubt;
      not_open = not_in_other;
      surely_open = low_sure;
    }
