-- Some run of a design without processes gives its inputs any values from one time to another.
use Rattle.std.proofs.Common.{◌≡◌, ◌⊎◌, inl, inr, ⊎_elim, ℕ, zero, suc, ◌+◌, ◌<◌, ◌≤◌, true, false, nat_lt, ◌&&◌, List, [], ◌∷◌, length, refl, sym, ap, ◌∙◌, arith}
use Rattle.std.proofs.lemmas.Bool.{cases_lt, false≢true}
use Rattle.std.proofs.lemmas.List.{get_or_past}
use Rattle.event_machine.specs.Cell.{Cell, Values}
use Rattle.event_machine.specs.State.{State, IsSettled}
use Rattle.event_machine.specs.Event.{end_state}
use Rattle.event_machine.specs.Habit.{Free}
use Rattle.event_machine.specs.Run.{AreSteps, Timed, state_at, step_start}
use Rattle.four_state.specs.declared.bit.Bit.{Bit}
use Rattle.design_model.specs.Design.{Design, In, is_assign, no_signal}
use Rattle.design_model.specs.Machine.{is_input_cell, machine}
use Rattle.design_model.specs.Run.{IsRun, Run, settled}
use Rattle.design_model.proofs.Times.{passed, waiting}
use Rattle.input_laws.proofs.Cells.{cells_are_inputs, input_cells, inputs_are_cells}
use Rattle.input_laws.proofs.Moves.{events_of, is_step, moves, moves_reach, no_process_at, settled_after, values_after}

-- the settled state with these values
abbrev start_with : Values Bit → State Bit
start_with v = record { values = v; woken = λ p. false; active = []; queued = []; moved = λ c. false }

settled_start : (v : Values Bit) → IsSettled (start_with v)
settled_start v = record { none_woken = λ p. refl; none_active = refl; none_queued = refl }

module _ (d : Design) (none : d.processes ≡ []) (cs : List Cell) (inputs : (c : Cell) → In c cs → (machine d).is_input c ≡ true) (to : ℕ → Values Bit) where
  -- the state after the cells were given the values of a time
  abbrev next_state : State Bit → ℕ → State Bit
  next_state s t = step_start (end_state (machine d) s (events_of (moves s.values (to t) cs)))

  -- a step to the values of each of so many times after this one
  abbrev steps_after : State Bit → ℕ → ℕ → List (Timed Bit)
  steps_after s t zero = []
  steps_after s t (suc n) = record { time = suc t; events = events_of (moves s.values (to (suc t)) cs) } ∷ steps_after (next_state s (suc t)) (suc t) n

  settled_next : (s : State Bit) (t : ℕ) → IsSettled s → IsSettled (next_state s t)
  settled_next s t is_settled =
      let ends = settled_after d none s (moves s.values (to t) cs) is_settled in
      record { none_woken = ends.none_woken; none_active = ends.none_active; none_queued = ends.none_queued }

  are_steps : (s : State Bit) (t n : ℕ) → IsSettled s → ((c : Cell) → s.moved c ≡ false) → AreSteps (machine d) Free t s (steps_after s t n)
  are_steps s t zero is_settled unmoved = tt
  are_steps s t (suc n) is_settled unmoved =
      (omega arith, is_step d none s cs (to (suc t)) is_settled unmoved inputs, are_steps (next_state s (suc t)) (suc t) n (settled_next s (suc t) is_settled) (λ c. refl))

  -- the values of a listed cell after a step are those of its time
  next_value : (s : State Bit) (t : ℕ) (c : Cell) → In c cs → (next_state s t).values c ≡ to t c
  next_value s t c inside = ap (λ (v : Values Bit). v c) (values_after d none s (moves s.values (to t) cs)) ∙ moves_reach cs s.values (to t) c inside

  values_reach : (s : State Bit) (t n u : ℕ) (c : Cell) → In c cs → s.values c ≡ to t c → t ≤ u → u ≤ t + n → (state_at (machine d) u s (steps_after s t n)).values c ≡ to u c
  values_reach s t zero u c inside here from until = let same : t ≡ u = omega (arith, from, until) in here ∙ ap (λ x. to x c) same
  values_reach s t (suc n) u c inside here from until = go (cases_lt t u) (λ later. values_reach (next_state s (suc t)) (suc t) n u c inside (next_value s (suc t) c inside) later (omega (arith, until)))
    where
      first : Timed Bit
      first = record { time = suc t; events = events_of (moves s.values (to (suc t)) cs) }

      go : (t < u) ⊎ (u ≤ t) → (t < u → (state_at (machine d) u (next_state s (suc t)) (steps_after (next_state s (suc t)) (suc t) n)).values c ≡ to u c) → (state_at (machine d) u s (steps_after s t (suc n))).values c ≡ to u c
      go (inl later) rest = ap (λ (z : State Bit). z.values c) (passed (machine d) Free u s first (steps_after (next_state s (suc t)) (suc t) n) later) ∙ rest later
      go (inr now) rest =
          let same : t ≡ u = omega (arith, now, from) in
          ap (λ (z : State Bit). z.values c) (waiting (machine d) Free u s first (steps_after (next_state s (suc t)) (suc t) n) (omega (arith, now))) ∙ here ∙ ap (λ x. to x c) same

-- a number that no signal has is no input's
input_below : (d : Design) (c : Cell) → is_input_cell d c ≡ true → c.thing < length d.signals
input_below d c is =
    ⊎_elim (λ below. below) (λ past. absurd (false≢true (sym (ap (λ x. x.input && nat_lt c.place x.width) (get_or_past d.signals c.thing no_signal past)) ∙ is))) (cases_lt c.thing (length d.signals))

-- a run from a time on, in which each input bit has settled to the given values up to another time
pub record RunsFrom (d : Design) (to : ℕ → Values Bit) (begin span : ℕ) : Type 0 where
  pub run : Run
  pub is_run : IsRun d Free run
  pub begins : run.begins ≡ begin
  pub takes : (t : ℕ) → begin ≤ t → t ≤ begin + span → (c : Cell) → (machine d).is_input c ≡ true → settled d run t c ≡ to t c

pub some_run : (d : Design) → d.processes ≡ [] → (to : ℕ → Values Bit) (begin span : ℕ) → RunsFrom d to begin span
some_run d none to begin span = record { run = the_run; is_run = is_run; begins = refl; takes = takes }
  where
    cs : List Cell
    cs = input_cells d (length d.signals)

    inputs : (c : Cell) → In c cs → (machine d).is_input c ≡ true
    inputs = cells_are_inputs d (length d.signals)

    the_run : Run
    the_run = record { begins = begin; start = start_with (to begin); steps = steps_after d none cs inputs to (start_with (to begin)) begin span }

    is_run : IsRun d Free the_run
    is_run = record {
      starts = settled_start (to begin);
      unmoved = λ c. refl;
      nets = λ p c assign target. absurd (false≢true (sym (ap is_assign (no_process_at d none p)) ∙ assign));
      steps = are_steps d none cs inputs to (start_with (to begin)) begin span (settled_start (to begin)) (λ c. refl);
    }

    takes : (t : ℕ) → begin ≤ t → t ≤ begin + span → (c : Cell) → (machine d).is_input c ≡ true → settled d the_run t c ≡ to t c
    takes t from until c is = values_reach d none cs inputs to (start_with (to begin)) begin span t c (inputs_are_cells d (length d.signals) c (input_below d c is) is) refl from until
