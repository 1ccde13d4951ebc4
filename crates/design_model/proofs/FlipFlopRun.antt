-- A flip flop with a test: clk is signal 0, a is 1, q is 2; its one process is
--   always @(posedge clk) if (a) q <= 1; else q <= 0;
use Rattle.std.proofs.Common.{◌≡◌, ◌≢◌, ◌⊎◌, refl, sym, subst, ℕ, zero, suc, ◌<◌, ◌≤◌, ◌&&◌, ◌||◌, not, ◌==◌, true, false, Bool, List, [], ◌∷◌, inl, inr, arith, lit<, if◌then◌else◌}
use Rattle.event_machine.proofs.Habits.{free_habit_law}  -- #keep
use Rattle.std.specs.Prelude.{nat_le}
use Rattle.std.proofs.lemmas.Bool.{false≢true, lt-leb, le-leb, cases_lt}
use Rattle.event_machine.specs.Cell.{put}
use Rattle.event_machine.specs.Machine.{is_sensitive}
use Rattle.event_machine.specs.Event.{Evaluate, Move, end_state, mark, state_after}
use Rattle.event_machine.specs.Habit.{Free}
use Rattle.event_machine.specs.Step.{IsStep}
use Rattle.event_machine.specs.Run.{step_start}
use Rattle.four_state.specs.declared.bit.Bit.{Bit}
use Rattle.four_state.specs.declared.bit.Bit.TheVariants.{One, X, Zero}
use Rattle.design_model.specs.Design.{a_signal, body_at, cell, signal_bits}
use Rattle.design_model.specs.Execution.{ValueFalse, ValueTrue, at_line, at_node, execution, reads}
use Rattle.design_model.specs.Machine.{machine}
use Rattle.design_model.specs.Run.{IsRun, settled}
use Rattle.design_model.specs.Shows.{IsShown, Shows}
use Rattle.design_model.specs.Points.{IsHit}
use Rattle.design_model.specs.FlipFlop.{flip_flop, flip_flop_values, line_two, steady_dump, steady_events, steady_run, steady_start}

-- with a at 1 the first branch is taken
pub visits_1 : (clk q : Bit) → (execution flip_flop (body_at flip_flop 0) (flip_flop_values clk One q)).visits ≡ at_line 1 ∷ reads (a_signal 1) false ∷ at_node 1 ValueTrue ∷ at_line 2 ∷ []
visits_1 clk q = refl

-- with a at 0 or x the second
visits_0 : (clk q : Bit) → (execution flip_flop (body_at flip_flop 0) (flip_flop_values clk Zero q)).visits ≡ at_line 1 ∷ reads (a_signal 1) false ∷ at_node 1 ValueFalse ∷ at_line 3 ∷ []
visits_0 clk q = refl

pub visits_x : (clk q : Bit) → (execution flip_flop (body_at flip_flop 0) (flip_flop_values clk X q)).visits ≡ at_line 1 ∷ reads (a_signal 1) false ∷ at_line 3 ∷ []
visits_x clk q = refl

-- what is queued
queued_1 : (clk q : Bit) → (execution flip_flop (body_at flip_flop 0) (flip_flop_values clk One q)).nonblocking ≡ (record { cell = cell 2 0; value = One } ∷ []) ∷ []
queued_1 clk q = refl

Zero≢One : Zero ≢ One
Zero≢One = grind arith

both_false : (b : Bool) → (((b && false) || false) || false) ≡ false
both_false true = refl
both_false false = refl

none_1 : (p : ℕ) → (end_state (machine flip_flop) steady_start steady_events).woken p ≡ false
unfolding put is_sensitive
none_1 zero = refl
none_1 (suc p) = both_false (not (0 == suc p))

and_false : (b : Bool) → (b && false) ≡ false
and_false true = refl
and_false false = refl

none_after_act : (p : ℕ) → (state_after (machine flip_flop) (state_after (machine flip_flop) steady_start (Move (record { cell = cell 0 0; value = One } ∷ []))) (Evaluate 0)).woken p ≡ false
unfolding put is_sensitive
none_after_act zero = refl
none_after_act (suc p) = and_false (not (0 == suc p))

not_empty : {A : Type 0} (x : A) (xs : List A) → x ∷ xs ≢ []
not_empty x xs = grind arith

-- the events are a step
is_step : IsStep (machine flip_flop) Free steady_start steady_events
unfolding put is_sensitive mark
is_step =
    record {
      starts = record { none_woken = λ p. refl; none_active = refl; none_queued = refl };
      unmoved = λ c. refl;
      legal = ((not_empty _ _, (refl, refl, Zero≢One, tt)), (refl, (((none_after_act, refl), not_empty _ _), (not_empty _ _, tt))));
      habit = free_habit_law (machine flip_flop) steady_start steady_events;
      ends = record { none_woken = none_1; none_active = refl; none_queued = refl };
    }

-- so this is a run of the design
pub is_run : IsRun flip_flop Free steady_run
is_run =
    record {
      starts = record { none_woken = λ p. refl; none_active = refl; none_queued = refl };
      unmoved = λ c. refl;
      nets = λ p c is_assign blocks. absurd (no_assign p is_assign);
      steps = (lit< tt, is_step, tt);
    }
  where
    no_assign : (p : ℕ) → (machine flip_flop).is_assign p ≡ true → ⊥
    no_assign zero e = false≢true e
    no_assign (suc p) e = false≢true e

-- at 5 its settled values are the dump's
same_at_5 : (s : ℕ) → signal_bits flip_flop (settled flip_flop steady_run 5) s ≡ signal_bits flip_flop (steady_dump.values 5) s
unfolding put
same_at_5 zero = refl
same_at_5 (suc zero) = refl
same_at_5 (suc (suc zero)) = refl
same_at_5 (suc (suc (suc s))) = refl

settled_by : (b c : Bool) (t s : ℕ) → nat_le 5 t ≡ b → nat_le 10 t ≡ c → signal_bits flip_flop (if b then (end_state (machine flip_flop) steady_start steady_events).values else steady_start.values) s ≡ signal_bits flip_flop (if c then flip_flop_values Zero One One else (if b then flip_flop_values One One One else flip_flop_values Zero One X)) s → signal_bits flip_flop (settled flip_flop steady_run t) s ≡ signal_bits flip_flop (steady_dump.values t) s
settled_by b c t s e f h = subst (λ x. signal_bits flip_flop (if x then step_start (end_state (machine flip_flop) steady_start steady_events) else steady_start).values s ≡ signal_bits flip_flop (if nat_le 10 t then flip_flop_values Zero One One else (if x then flip_flop_values One One One else flip_flop_values Zero One X)) s) (sym e) (subst (λ y. signal_bits flip_flop (if b then step_start (end_state (machine flip_flop) steady_start steady_events) else steady_start).values s ≡ signal_bits flip_flop (if y then flip_flop_values Zero One One else (if b then flip_flop_values One One One else flip_flop_values Zero One X)) s) (sym f) (push_values b h))
  where
    push_values : (b : Bool) → signal_bits flip_flop (if b then (end_state (machine flip_flop) steady_start steady_events).values else steady_start.values) s ≡ signal_bits flip_flop (if c then flip_flop_values Zero One One else (if b then flip_flop_values One One One else flip_flop_values Zero One X)) s → signal_bits flip_flop (if b then step_start (end_state (machine flip_flop) steady_start steady_events) else steady_start).values s ≡ signal_bits flip_flop (if c then flip_flop_values Zero One One else (if b then flip_flop_values One One One else flip_flop_values Zero One X)) s
    push_values true h = h
    push_values false h = h

shows_at : (t s : ℕ) → (t < 5) ⊎ (5 ≤ t) → IsShown steady_dump t → signal_bits flip_flop (settled flip_flop steady_run t) s ≡ signal_bits flip_flop (steady_dump.values t) s
shows_at t s (inl before) in_dump = settled_by false false t s (lt-leb 5 t before) (lt-leb 10 t (omega arith)) refl
shows_at t s (inr later) in_dump = settled_by true false t s (le-leb 5 t later) (lt-leb 10 t in_dump.1) (same_at_5 s)

-- it shows the dump
pub shows : Shows flip_flop steady_dump steady_run
shows = record { starts = refl; shows = λ t in_dump s bound. shows_at t s (cases_lt t 5) in_dump }

-- and line 2 is hit in it
pub hit_2 : IsHit flip_flop steady_dump steady_run line_two
unfolding put
hit_2 = inl (record { before = []; step = record { time = 5; events = steady_events }; later = []; splits = refl }, (lit< tt, lit< tt), (_, inl refl, inr (inr (inr (inl refl)))))
