-- From one time to the next a run makes one step or none.
use Rattle.std.proofs.Common.{◌≡◌, ◌⊎◌, inl, inr, ⊎_elim, ℕ, suc, ◌<◌, ◌≤◌, List, [], ◌∷◌, refl, sym, ap, ◌∙◌, arith, if◌then◌else◌}
use Rattle.std.proofs.lemmas.Bool.{cases_lt, lt-leb, le-leb}
use Rattle.event_machine.specs.Cell.{Values}
use Rattle.event_machine.specs.Machine.{Machine}
use Rattle.event_machine.specs.State.{State}
use Rattle.event_machine.specs.Event.{Event, end_state}
use Rattle.event_machine.specs.Habit.{Habit}
use Rattle.event_machine.specs.Step.{IsStep}
use Rattle.event_machine.specs.Run.{AreSteps, Timed, state_at, step_start}

-- a step that takes the settled values of t to those of the next time
pub record StepTo {V : Type 0} (m : Machine V) (h : Habit) (before later : Values V) : Type 0 where
  pub start : State V
  pub events : List (Event V)
  pub is_step : IsStep m h start events
  pub starts : start.values ≡ before
  pub ends : (end_state m start events).values ≡ later

module _ {V : Type 0} (m : Machine V) (h : Habit) where
  pub passed : (t : ℕ) (s : State V) (x : Timed V) (xs : List (Timed V)) → x.time ≤ t → state_at m t s (x ∷ xs) ≡ state_at m t (step_start (end_state m s x.events)) xs
  passed t s x xs le = ap (λ b. if b then state_at m t (step_start (end_state m s x.events)) xs else s) (le-leb x.time t le)

  pub waiting : (t : ℕ) (s : State V) (x : Timed V) (xs : List (Timed V)) → t < x.time → state_at m t s (x ∷ xs) ≡ s
  waiting t s x xs lt = ap (λ b. if b then state_at m t (step_start (end_state m s x.events)) xs else s) (lt-leb x.time t lt)

  -- before its first step a run is at its start
  pub still_there : (now t : ℕ) (s : State V) (xs : List (Timed V)) → AreSteps m h now s xs → t ≤ now → state_at m t s xs ≡ s
  still_there now t s [] steps le = refl
  still_there now t s (x ∷ xs) steps le = waiting t s x xs (omega (arith, le, steps.0))

  pub next_time : (now t : ℕ) (s : State V) (xs : List (Timed V)) → AreSteps m h now s xs → ((state_at m (suc t) s xs).values ≡ (state_at m t s xs).values) ⊎ StepTo m h (state_at m t s xs).values (state_at m (suc t) s xs).values
  next_time now t s [] steps = inl refl
  next_time now t s (x ∷ xs) steps =
      ⊎_elim
      (λ later. ⊎_elim (λ far. inl (ap (λ y. y.values) (waiting (suc t) s x xs far ∙ sym (waiting t s x xs later)))) (λ here. inr (at_once later here)) (cases_lt (suc t) x.time))
      (λ past. carry past (next_time x.time t (step_start (end_state m s x.events)) xs steps.2))
      (cases_lt t x.time)
    where
      at_once : t < x.time → x.time ≤ suc t → StepTo m h (state_at m t s (x ∷ xs)).values (state_at m (suc t) s (x ∷ xs)).values
      at_once later here =
          record {
            start = s;
            events = x.events;
            is_step = steps.1;
            starts = ap (λ y. y.values) (sym (waiting t s x xs later));
            ends = ap (λ y. y.values) (sym (passed (suc t) s x xs here ∙ still_there x.time (suc t) (step_start (end_state m s x.events)) xs steps.2 (omega (arith, later))));
          }

      carry : x.time ≤ t → ((state_at m (suc t) (step_start (end_state m s x.events)) xs).values ≡ (state_at m t (step_start (end_state m s x.events)) xs).values) ⊎ StepTo m h (state_at m t (step_start (end_state m s x.events)) xs).values (state_at m (suc t) (step_start (end_state m s x.events)) xs).values → ((state_at m (suc t) s (x ∷ xs)).values ≡ (state_at m t s (x ∷ xs)).values) ⊎ StepTo m h (state_at m t s (x ∷ xs)).values (state_at m (suc t) s (x ∷ xs)).values
      carry past (inl same) = inl (ap (λ y. y.values) (passed (suc t) s x xs (omega (arith, past))) ∙ same ∙ ap (λ y. y.values) (sym (passed t s x xs past)))
      carry past (inr step) =
          inr
          (record {
            start = step.start;
            events = step.events;
            is_step = step.is_step;
            starts = step.starts ∙ ap (λ y. y.values) (sym (passed t s x xs past));
            ends = step.ends ∙ ap (λ y. y.values) (sym (passed (suc t) s x xs (omega (arith, past))));
          })
