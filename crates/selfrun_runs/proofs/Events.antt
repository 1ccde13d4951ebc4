-- The two steps of the machine: the inputs move while the clock falls, and the clock rises, after which the block runs.
use Rattle.std.proofs.Common.{◌≡◌, ◌≢◌, ℕ, zero, suc, Bool, true, false, not, ◌==◌, ◌||◌, List, [], ◌∷◌, ◌++◌, refl, sym, ap, subst, ◌∙◌}
use Rattle.std.proofs.lemmas.Bool.{and_right, false≢true, or_from, or_right}
use Rattle.event_machine.specs.Cell.{Cell, Update, Values, Write, put, put_all}
use Rattle.event_machine.specs.Machine.{wakes}
use Rattle.event_machine.specs.State.{IsSettled, State}
use Rattle.event_machine.specs.Event.{Activate, Apply, CanMove, Evaluate, Event, IsLegal, Move, end_state, state_after}
use Rattle.event_machine.specs.Habit.{Free}
use Rattle.event_machine.specs.Step.{IsStep}
use Rattle.four_state.specs.declared.bit.Bit.{Bit}
use Rattle.four_state.specs.declared.bit.Bit.TheVariants.{One, Zero}
use Rattle.design_model.specs.Design.{In, body_at, cell}
use Rattle.design_model.specs.Execution.{Visit, execution}
use Rattle.design_model.specs.Machine.{machine}
use Rattle.selfrun_design.specs.Selfrun.{selfrun}
use Rattle.selfrun_runs.proofs.Body.{Evaluation}
use Rattle.selfrun_runs.proofs.Moves.{can_move, events_of, moves}
use Rattle.selfrun_runs.proofs.Quiet.{AreQuiet, no_wakes, other_insensitive, quiet_moves, rise, woken_by_rise}

-- ---- the inputs move

settled_after : (s : State Bit) (ws : List (Write Bit)) → AreQuiet ws → IsSettled s → IsSettled (end_state (machine selfrun) s (events_of ws))
settled_after s [] quiet settled = settled
settled_after s (w ∷ ws) quiet settled = record {
  none_woken = λ p. or_from (s.woken p) (wakes (machine selfrun) p s.values (w ∷ ws)) (settled.none_woken p) (no_wakes p s.values (w ∷ ws) quiet);
  none_active = settled.none_active;
  none_queued = settled.none_queued;
}

legal_of : (s : State Bit) (ws : List (Write Bit)) → CanMove (machine selfrun) s.moved s.values ws → IsLegal (machine selfrun) s (events_of ws)
legal_of s [] can = tt
legal_of s (w ∷ ws) can = ((λ e. cc, can), tt)

-- the values after the moves
pub moved_values : (s : State Bit) (ws : List (Write Bit)) → (end_state (machine selfrun) s (events_of ws)).values ≡ put_all s.values ws
moved_values s [] = refl
moved_values s (w ∷ ws) = refl

-- the cells of the inputs move to values with the clock at 0
pub move_step : (s : State Bit) (cs : List Cell) (to : Values Bit) → IsSettled s → ((c : Cell) → s.moved c ≡ false) → ((c : Cell) → In c cs → (machine selfrun).is_input c ≡ true) → to (cell 0 0) ≡ Zero
    → IsStep (machine selfrun) Free s (events_of (moves s.values to cs))
move_step s cs to settled unmoved inputs low = record {
  starts = settled;
  unmoved = unmoved;
  legal = legal_of s (moves s.values to cs) (can_move (machine selfrun) cs s.moved s.values to inputs (λ b moved. absurd (false≢true (sym (unmoved b) ∙ moved))));
  habit = λ before ws after split c writes not_free. absurd (false≢true (sym not_free));
  ends = settled_after s (moves s.values to cs) (quiet_moves cs s.values to low) settled;
}

-- ---- the clock rises

-- after the evaluation
abbrev last_events : List (Event Bit)
last_events = Activate ∷ Apply ∷ Apply ∷ []

-- the events of the step
abbrev pub rise_events : List (Event Bit)
rise_events = Move (rise ∷ []) ∷ Evaluate 0 ∷ Activate ∷ Apply ∷ Apply ∷ []

-- the updates are applied, and the step ends with these values
record Ends (s : State Bit) (values : Values Bit) : Type 0 where
  pub legal : IsLegal (machine selfrun) s last_events
  pub settled : IsSettled (end_state (machine selfrun) s last_events)
  pub values_are : (end_state (machine selfrun) s last_events).values ≡ values

-- a state in which only these two updates are queued
abbrev queued_state : Values Bit → (ℕ → Bool) → List (Update Bit) → List (Update Bit) → (Cell → Bool) → State Bit
queued_state values woken active queued moved = record { values = values; woken = woken; active = active; queued = queued; moved = moved }

module _ (first second : List (Write Bit)) (first_quiet : AreQuiet first) (second_quiet : AreQuiet second) where
  two_end : (values : Values Bit) (woken : ℕ → Bool) (moved : Cell → Bool) → ((p : ℕ) → woken p ≡ false)
      → Ends (queued_state values woken [] (first ∷ second ∷ []) moved) (put_all (put_all values first) second)
  two_end values woken moved none = record {
    legal = (((none, refl), λ e. cc), ((λ e. cc), ((λ e. cc), tt)));
    settled = record {
      none_woken = λ p.
          or_from ((woken p || false) || wakes (machine selfrun) p values first) (wakes (machine selfrun) p (put_all values first) second)
          (or_from (woken p || false) (wakes (machine selfrun) p values first) (or_from (woken p) false (none p) refl) (no_wakes p values first first_quiet))
          (no_wakes p (put_all values first) second second_quiet);
      none_active = refl;
      none_queued = refl;
    };
    values_are = refl;
  }

  queued_end : (values : Values Bit) (woken : ℕ → Bool) (active queued : List (Update Bit)) (moved : Cell → Bool) → ((p : ℕ) → woken p ≡ false) → active ≡ [] → queued ≡ first ∷ second ∷ []
      → Ends (queued_state values woken active queued moved) (put_all (put_all values first) second)
  queued_end values woken active queued moved none no_active are =
      subst (λ a. Ends (queued_state values woken a queued moved) (put_all (put_all values first) second)) (sym no_active)
      (subst (λ q. Ends (queued_state values woken [] q moved) (put_all (put_all values first) second)) (sym are) (two_end values woken moved none))

  module _ (s : State Bit) (settled : IsSettled s) (unmoved : (c : Cell) → s.moved c ≡ false) (low : s.values (cell 0 0) ≡ Zero) (visits : List Visit)
      (evaluates : Evaluation (put s.values rise) (first ∷ second ∷ []) visits) where
    abbrev evaluated : State Bit
    evaluated = state_after (machine selfrun) (state_after (machine selfrun) s (Move (rise ∷ []))) (Evaluate 0)

    none_woken : (p : ℕ) → evaluated.woken p ≡ false
    none_woken zero = refl
    none_woken (suc p) =
        and_right (not (0 == suc p)) _
        (or_from (s.woken (suc p) || wakes (machine selfrun) (suc p) s.values (rise ∷ [])) _
        (or_from (s.woken (suc p)) (wakes (machine selfrun) (suc p) s.values (rise ∷ [])) (settled.none_woken (suc p)) (or_from _ false (other_insensitive p (cell 0 0) (s.values (cell 0 0)) One) refl))
        (ap (wakes (machine selfrun) (suc p) (put s.values rise)) evaluates.blocking))

    ending : Ends evaluated (put_all (put_all (put_all (put s.values rise) (execution selfrun (body_at selfrun 0) (put s.values rise)).blocking) first) second)
    ending =
        queued_end evaluated.values evaluated.woken evaluated.active evaluated.queued evaluated.moved none_woken settled.none_active
        (ap (λ q. q ++ (execution selfrun (body_at selfrun 0) (put s.values rise)).nonblocking) settled.none_queued ∙ evaluates.nonblocking)

    -- the clock rises, the block is evaluated, and its two updates are applied
    pub rise_step : IsStep (machine selfrun) Free s rise_events
    rise_step = record {
      starts = settled;
      unmoved = unmoved;
      legal = (((λ e. cc), (refl, unmoved (cell 0 0), (λ e. zero_one (sym low ∙ e)), tt)), (or_right (s.woken 0) (wakes (machine selfrun) 0 s.values (rise ∷ [])) (woken_by_rise s.values low), ending.legal));
      habit = λ before ws after split c writes not_free. absurd (false≢true (sym not_free));
      ends = ending.settled;
    }
      where
        zero_one : Zero ≢ One
        zero_one e = cc

    pub rise_values : (end_state (machine selfrun) s rise_events).values ≡ put_all (put_all (put s.values rise) first) second
    rise_values = ending.values_are ∙ ap (λ ws. put_all (put_all (put_all (put s.values rise) ws) first) second) evaluates.blocking
