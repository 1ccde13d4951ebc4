-- A run of one step at 5, the dump that it shows, and processes that nothing wakes.
use Rattle.std.proofs.Common.{◌≡◌, ⊎_elim, refl, sym, ap, ◌∙◌, ℕ, ◌<◌, ◌≤◌, not, ◌||◌, Bool, false, [], ◌∷◌, List, arith, if◌then◌else◌}
use Rattle.std.specs.Prelude.{nat_le}
use Rattle.std.proofs.lemmas.Bool.{and_right, cases_lt, le-leb, lt-leb}
use Rattle.event_machine.specs.Cell.{Values, Write}
use Rattle.event_machine.specs.Machine.{Machine, wakes}
use Rattle.event_machine.specs.State.{State}
use Rattle.event_machine.specs.Event.{Event, end_state, is_evaluation, state_after, event_writes}
use Rattle.event_machine.specs.Run.{step_start}
use Rattle.four_state.specs.declared.bit.Bit.{Bit}
use Rattle.design_model.specs.Design.{Design, signal_bits}
use Rattle.design_model.specs.Machine.{machine}
use Rattle.design_model.specs.Run.{Run, settled}
use Rattle.design_model.specs.Shows.{BoundDump, Shows}

module _ (d : Design) (bound : ℕ → Bool) (round : ℕ → ℕ) (a b c : Values Bit) (s : State Bit) (es : List (Event Bit)) where
  abbrev dump : BoundDump
  dump = record { stretches = (0 ∷ 5 ∷ 10 ∷ []) ∷ []; bound = bound; round = round; values = λ t. if nat_le 10 t then c else (if nat_le 5 t then b else a) }

  abbrev run : Run
  run = record { begins = 0; start = s; steps = record { time = 5; events = es } ∷ [] }

  values_before : (t : ℕ) → t < 5 → (x : ℕ) → signal_bits d s.values x ≡ signal_bits d a x → signal_bits d (settled d run t) x ≡ signal_bits d (dump.values t) x
  values_before t h x old =
      ap (λ q. signal_bits d (if q then step_start (end_state (machine d) s es) else s).values x) (lt-leb 5 t h)
      ∙ old
      ∙ sym (ap (λ q. signal_bits d (if q then c else (if nat_le 5 t then b else a)) x) (lt-leb 10 t (omega (arith, h))) ∙ ap (λ q. signal_bits d (if q then b else a) x) (lt-leb 5 t h))

  values_after : (t : ℕ) → 5 ≤ t → t < 10 → (x : ℕ) → signal_bits d (end_state (machine d) s es).values x ≡ signal_bits d b x → signal_bits d (settled d run t) x ≡ signal_bits d (dump.values t) x
  values_after t h g x new =
      ap (λ q. signal_bits d (if q then step_start (end_state (machine d) s es) else s).values x) (le-leb 5 t h)
      ∙ new
      ∙ sym (ap (λ q. signal_bits d (if q then c else (if nat_le 5 t then b else a)) x) (lt-leb 10 t g) ∙ ap (λ q. signal_bits d (if q then b else a) x) (le-leb 5 t h))

  -- the run shows the dump where the values at the ends of its step are the dump's
  pub shows_step : ((x : ℕ) → signal_bits d s.values x ≡ signal_bits d a x) → ((x : ℕ) → signal_bits d (end_state (machine d) s es).values x ≡ signal_bits d b x) → Shows d dump run
  shows_step old new = record { starts = refl; shows = λ t in_dump x is_bound. ⊎_elim (λ before. values_before t before x (old x)) (λ later. values_after t later in_dump.1 x (new x)) (cases_lt t 5) }

-- a process that no write wakes is not woken
pub never_woken : (m : Machine Bit) (p : ℕ) → ((v : Values Bit) (ws : List (Write Bit)) → wakes m p v ws ≡ false) → (es : List (Event Bit)) (s : State Bit) → s.woken p ≡ false → (end_state m s es).woken p ≡ false
never_woken m p deaf [] s is = is
never_woken m p deaf (e ∷ es) s is = never_woken m p deaf es (state_after m s e) (and_right (not (is_evaluation p e)) (s.woken p || wakes m p s.values (event_writes m s e)) (rw is (deaf s.values (event_writes m s e))))
