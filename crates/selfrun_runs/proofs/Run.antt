-- A run of the design that shows what the dump of a selfrun says.
use Rattle.std.proofs.Common.{◌≡◌, inl, inr, ⊎_elim, ℕ, zero, suc, ◌+◌, ◌-◌, ◌*◌, ◌/◌, ◌%◌, ◌<◌, ◌≤◌, ◌==◌, Bool, true, false, List, [], ◌∷◌, ◌++◌, refl, sym, ap, subst, ◌∙◌, arith, if◌then◌else◌}
use Rattle.std.specs.Prelude.{slice_index_or}
use Rattle.std.proofs.lemmas.Bool.{cases_lt, false≢true, ltb-true}
use Rattle.event_machine.specs.Cell.{Cell, Values, Write, WritesCell, put, put_all}
use Rattle.event_machine.specs.Event.{end_state}
use Rattle.event_machine.specs.Habit.{Free}
use Rattle.event_machine.specs.Run.{AreSteps, Timed, state_at, step_start}
use Rattle.event_machine.specs.Step.{IsStep}
use Rattle.event_machine.specs.State.{IsSettled, State}
use Rattle.four_state.specs.Arithmetic.{low_bits}
use Rattle.four_state.specs.Vector.{bit_of, fill}
use Rattle.four_state.specs.declared.bit.Bit.{Bit}
use Rattle.four_state.specs.declared.bit.Bit.TheVariants.{One, X, Zero}
use Rattle.design_model.specs.Design.{In, cell, signal_bits, signal_cells}
use Rattle.design_model.specs.Machine.{machine}
use Rattle.design_model.specs.Run.{IsRun, Run, settled}
use Rattle.design_model.specs.Shows.{BoundDump, Shows}
use Rattle.design_model.proofs.Times.{passed, waiting}
use Rattle.selfrun_design.specs.Selfrun.{selfrun}
use Rattle.selfrun_files.specs.Moments.{inputs_in}
use Rattle.selfrun_runs.specs.Says.{SaysSelfrun}
use Rattle.selfrun_runs.specs.Shown.{SelfrunShownLaw}
use Rattle.selfrun_runs.specs.Signals.{HasSignals, IsAt}
use Rattle.selfrun_runs.proofs.Body.{p_update}
use Rattle.selfrun_runs.proofs.Cells.{map_same, signal_kept, word_kept}
use Rattle.selfrun_runs.proofs.Events.{move_step, moved_values, rise_events, rise_step, rise_values}
use Rattle.selfrun_runs.proofs.Held.{Holds, low, risen}
use Rattle.selfrun_runs.proofs.Moves.{events_of, moves, moves_in, moves_reach}
use Rattle.selfrun_runs.proofs.Quiet.{rise}
use Rattle.selfrun_runs.proofs.Registers.{no_words}

-- ---- the cells of the inputs

abbrev cells_from_2 : List Cell
cells_from_2 = signal_cells selfrun 2 ++ signal_cells selfrun 3

abbrev cells_from_1 : List Cell
cells_from_1 = signal_cells selfrun 1 ++ cells_from_2

abbrev input_cells : List Cell
input_cells = signal_cells selfrun 0 ++ cells_from_1

In-left : (x : Cell) (xs ys : List Cell) → In x xs → In x (xs ++ ys)
In-left x [] ys h = absurd h
In-left x (y ∷ xs) ys (inl e) = inl e
In-left x (y ∷ xs) ys (inr h) = inr (In-left x xs ys h)

In-right : (x : Cell) (xs ys : List Cell) → In x ys → In x (xs ++ ys)
In-right x [] ys h = h
In-right x (y ∷ xs) ys h = inr (In-right x xs ys h)

-- a cell of an input, whose number is below 4
abbrev IsInput : Cell → Type 0
IsInput c = ((machine selfrun).is_input c ≡ true) × (c.thing < 4)

abbrev AllInputs : List Cell → Type 0
AllInputs [] = Unit {0}
AllInputs (c ∷ cs) = IsInput c × AllInputs cs

one_of : (c : Cell) (cs : List Cell) → In c cs → AllInputs cs → IsInput c
one_of c [] none each = absurd none
one_of c (d ∷ cs) (inl e) each = subst IsInput e each.0
one_of c (d ∷ cs) (inr there) each = one_of c cs there each.1

an_input : (s k : ℕ) → s < 4 → (machine selfrun).is_input (cell s k) ≡ true → IsInput (cell s k)
an_input s k below is = (is, below)

all_inputs : AllInputs input_cells
all_inputs = (
  an_input 0 0 (omega arith) refl,
  (
    an_input 1 0 (omega arith) refl,
    (
      an_input 2 0 (omega arith) refl,
      (
        an_input 2 1 (omega arith) refl,
        (
          an_input 2 2 (omega arith) refl,
          (
            an_input 2 3 (omega arith) refl,
            (
              an_input 3 0 (omega arith) refl,
              (
                an_input 3 1 (omega arith) refl,
                (
                  an_input 3 2 (omega arith) refl,
                  (
                    an_input 3 3 (omega arith) refl,
                    (an_input 3 4 (omega arith) refl, (an_input 3 5 (omega arith) refl, (an_input 3 6 (omega arith) refl, (an_input 3 7 (omega arith) refl, tt)))),
                  ),
                ),
              ),
            ),
          ),
        ),
      ),
    ),
  ),
)

are_inputs : (c : Cell) → In c input_cells → IsInput c
are_inputs c h = one_of c input_cells h all_inputs

-- ---- the inputs of a step, and what the design contains at first

-- the values of the signals by their numbers
abbrev valued : List (List Bit) → Values Bit
valued bits c = slice_index_or (slice_index_or bits c.thing []) c.place X

-- the clock is 0, and the inputs are those of the step
abbrev inputs_values : ℕ → ℕ → Values Bit
inputs_values number k = valued ((Zero ∷ []) ∷ (bit_of (inputs_in number k).we ∷ []) ∷ low_bits 4 (inputs_in number k).a ∷ low_bits 8 (inputs_in number k).d ∷ [])

-- the clock, the registers and the words are 0, and the inputs are those of the first step
abbrev first_values : ℕ → Values Bit
first_values number c =
    if c.thing == 6 then Zero
    else valued ((Zero ∷ []) ∷ (bit_of (inputs_in number 0).we ∷ []) ∷ low_bits 4 (inputs_in number 0).a ∷ low_bits 8 (inputs_in number 0).d ∷ fill 8 Zero ∷ fill 8 Zero ∷ []) c

first_holds : (number : ℕ) → Holds number (first_values number) Zero 0 0
first_holds number = record {
  signals = record { is_clk = refl; is_we = refl; is_a = refl; is_d = refl; is_q = refl; is_p = refl };
  words = λ i below. ap (low_bits 8) (sym (no_words number i));
}

-- ---- the steps

module _ (number : ℕ) where
  -- a settled state at the first time of step k
  record IsLow (s : State Bit) (k : ℕ) : Type 0 where
    pub settled : IsSettled s
    pub unmoved : (c : Cell) → s.moved c ≡ false
    pub holds : Holds number s.values Zero k k

  -- a settled state at the second time of step k
  record IsHigh (s : State Bit) (k : ℕ) : Type 0 where
    pub settled : IsSettled s
    pub unmoved : (c : Cell) → s.moved c ≡ false
    pub holds : Holds number s.values One k (suc k)

  -- the state after the clock rose
  abbrev high_state : State Bit → State Bit
  high_state s = step_start (end_state (machine selfrun) s rise_events)

  -- the state after the inputs moved to those of step k
  abbrev low_state : State Bit → ℕ → State Bit
  low_state s k = step_start (end_state (machine selfrun) s (events_of (moves s.values (inputs_values number k) input_cells)))

  high_step : (s : State Bit) (k : ℕ) → IsLow s k → IsStep (machine selfrun) Free s rise_events
  high_step s k is =
      let r = risen number k s.values is.holds in
      rise_step (p_update (put s.values rise)) r.0 r.1.first_quiet r.1.second_quiet s is.settled is.unmoved (low number k s.values is.holds) r.1.visits r.1.evaluates

  is_high : (s : State Bit) (k : ℕ) → IsLow s k → IsHigh (high_state s) k
  is_high s k is =
      let r = risen number k s.values is.holds in
      let ends = (high_step s k is).ends in
      record {
        settled = record { none_woken = ends.none_woken; none_active = ends.none_active; none_queued = ends.none_queued };
        unmoved = λ c. refl;
        holds = subst (λ v. Holds number v One k (suc k))
            (sym (rise_values (p_update (put s.values rise)) r.0 r.1.first_quiet r.1.second_quiet s is.settled is.unmoved (low number k s.values is.holds) r.1.visits r.1.evaluates)) r.1.holds;
      }

  -- the moves to the inputs of step k
  abbrev moves_to : Values Bit → ℕ → List (Write Bit)
  moves_to v k = moves v (inputs_values number k) input_cells

  moved_other : (v : Values Bit) (k s : ℕ) → 4 ≤ s → (c : Cell) → WritesCell (moves_to v k) c → c.thing ≡ s → ⊥
  moved_other v k s above c w e = omega (arith, above, e, (are_inputs c (moves_in input_cells v (inputs_values number k) c w)).1)

  moved_holds : (v : Values Bit) (k : ℕ) → Holds number v One k (suc k) → Holds number (put_all v (moves_to v (suc k))) Zero (suc k) (suc k)
  moved_holds v k holds = record {
    signals = record {
      is_clk = taken 0 (λ c h. In-left c (signal_cells selfrun 0) cells_from_1 h);
      is_we = taken 1 (λ c h. In-right c (signal_cells selfrun 0) cells_from_1 (In-left c (signal_cells selfrun 1) cells_from_2 h));
      is_a = taken 2 (λ c h. In-right c (signal_cells selfrun 0) cells_from_1 (In-right c (signal_cells selfrun 1) cells_from_2 (In-left c (signal_cells selfrun 2) (signal_cells selfrun 3) h)));
      is_d = taken 3 (λ c h. In-right c (signal_cells selfrun 0) cells_from_1 (In-right c (signal_cells selfrun 1) cells_from_2 (In-right c (signal_cells selfrun 2) (signal_cells selfrun 3) h)));
      is_q = signal_kept selfrun v (moves_to v (suc k)) 4 (moved_other v (suc k) 4 (omega arith)) ∙ holds.signals.is_q;
      is_p = signal_kept selfrun v (moves_to v (suc k)) 5 (moved_other v (suc k) 5 (omega arith)) ∙ holds.signals.is_p;
    };
    words = λ i below. word_kept selfrun v (moves_to v (suc k)) 6 i (moved_other v (suc k) 6 (omega arith)) ∙ holds.words i below;
  }
    where
      taken : (s : ℕ) → ((c : Cell) → In c (signal_cells selfrun s) → In c input_cells) → signal_bits selfrun (put_all v (moves_to v (suc k))) s ≡ signal_bits selfrun (inputs_values number (suc k)) s
      taken s inside = map_same (put_all v (moves_to v (suc k))) (inputs_values number (suc k)) (signal_cells selfrun s) (λ c h. moves_reach input_cells v (inputs_values number (suc k)) c (inside c h))

  low_step : (s : State Bit) (k : ℕ) → IsHigh s k → IsStep (machine selfrun) Free s (events_of (moves_to s.values (suc k)))
  low_step s k is = move_step s input_cells (inputs_values number (suc k)) is.settled is.unmoved (λ c h. (are_inputs c h).0) refl

  is_low : (s : State Bit) (k : ℕ) → IsHigh s k → IsLow (low_state s (suc k)) (suc k)
  is_low s k is =
      let ends = (low_step s k is).ends in
      record {
        settled = record { none_woken = ends.none_woken; none_active = ends.none_active; none_queued = ends.none_queued };
        unmoved = λ c. refl;
        holds = subst (λ v. Holds number v Zero (suc k) (suc k)) (sym (moved_values s (moves_to s.values (suc k)))) (moved_holds s.values k is.holds);
      }

  -- so many steps from step k on
  abbrev steps_from : State Bit → ℕ → ℕ → List (Timed Bit)
  steps_from s k zero = []
  steps_from s k (suc n) =
      record { time = 10 * k + 5; events = rise_events } ∷ record { time = 10 * suc k; events = events_of (moves_to (high_state s).values (suc k)) }
      ∷ steps_from (low_state (high_state s) (suc k)) (suc k) n

  are_steps : (s : State Bit) (k n : ℕ) → IsLow s k → AreSteps (machine selfrun) Free (10 * k) s (steps_from s k n)
  are_steps s k zero is = tt
  are_steps s k (suc n) is =
      (omega arith, high_step s k is, (omega arith, low_step (high_state s) k (is_high s k is), are_steps (low_state (high_state s) (suc k)) (suc k) n (is_low (high_state s) k (is_high s k is))))

  -- the two steps of step k, and the later ones
  abbrev first_of : ℕ → Timed Bit
  first_of k = record { time = 10 * k + 5; events = rise_events }

  abbrev second_of : State Bit → ℕ → Timed Bit
  second_of s k = record { time = 10 * suc k; events = events_of (moves_to (high_state s).values (suc k)) }

  abbrev later_of : State Bit → ℕ → ℕ → List (Timed Bit)
  later_of s k n = steps_from (low_state (high_state s) (suc k)) (suc k) n

  past : (s : State Bit) (k n t : ℕ) → 10 * suc k ≤ t → state_at (machine selfrun) t s (steps_from s k (suc n)) ≡ state_at (machine selfrun) t (low_state (high_state s) (suc k)) (later_of s k n)
  past s k n t from =
      passed (machine selfrun) Free t s (first_of k) (second_of s k ∷ later_of s k n) (omega (arith, from))
      ∙ passed (machine selfrun) Free t (high_state s) (second_of s k) (later_of s k n) from

  at_low : (s : State Bit) (k n i j : ℕ) → IsLow s k → k ≤ i → i < k + n → j < 5 → IsAt number (state_at (machine selfrun) (10 * i + j) s (steps_from s k n)).values Zero i i
  at_low s k zero i j is from until below = absurd (omega (arith, from, until))
  at_low s k (suc n) i j is from until below =
      ⊎_elim
      (λ more. subst (λ (z : State Bit). IsAt number z.values Zero i i) (sym (past s k n (10 * i + j) (omega (arith, more))))
      (at_low (low_state (high_state s) (suc k)) (suc k) n i j (is_low (high_state s) k (is_high s k is)) (omega (arith, more)) (omega (arith, until)) below))
      here (cases_lt k i)
    where
      here : i ≤ k → IsAt number (state_at (machine selfrun) (10 * i + j) s (steps_from s k (suc n))).values Zero i i
      here less =
          let same : k ≡ i = omega (arith, from, less) in
          subst (λ (z : State Bit). IsAt number z.values Zero i i) (sym (waiting (machine selfrun) Free (10 * i + j) s (first_of k) (second_of s k ∷ later_of s k n) (omega (arith, less, below))))
          (subst (λ x. IsAt number s.values Zero x x) same is.holds.signals)

  at_high : (s : State Bit) (k n i j : ℕ) → IsLow s k → k ≤ i → i < k + n → j < 5 → IsAt number (state_at (machine selfrun) (10 * i + 5 + j) s (steps_from s k n)).values One i (suc i)
  at_high s k zero i j is from until below = absurd (omega (arith, from, until))
  at_high s k (suc n) i j is from until below =
      ⊎_elim
      (λ more. subst (λ (z : State Bit). IsAt number z.values One i (suc i)) (sym (past s k n (10 * i + 5 + j) (omega (arith, more))))
      (at_high (low_state (high_state s) (suc k)) (suc k) n i j (is_low (high_state s) k (is_high s k is)) (omega (arith, more)) (omega (arith, until)) below))
      here (cases_lt k i)
    where
      here : i ≤ k → IsAt number (state_at (machine selfrun) (10 * i + 5 + j) s (steps_from s k (suc n))).values One i (suc i)
      here less =
          let same : k ≡ i = omega (arith, from, less) in
          subst (λ (z : State Bit). IsAt number z.values One i (suc i))
          (sym (passed (machine selfrun) Free (10 * i + 5 + j) s (first_of k) (second_of s k ∷ later_of s k n) (omega (arith, same))
          ∙ waiting (machine selfrun) Free (10 * i + 5 + j) (high_state s) (second_of s k) (later_of s k n) (omega (arith, less, below))))
          (subst (λ x. IsAt number (high_state s).values One x (suc x)) same (is_high s k is).holds.signals)

  -- ---- the run

  abbrev first_state : State Bit
  first_state = record { values = first_values number; woken = λ p. false; active = []; queued = []; moved = λ c. false }

  first_low : IsLow first_state 0
  first_low = record { settled = record { none_woken = λ p. refl; none_active = refl; none_queued = refl }; unmoved = λ c. refl; holds = first_holds number }

  abbrev the_run : ℕ → Run
  the_run steps = record { begins = 0; start = first_state; steps = steps_from first_state 0 steps }

  no_assign : (p : ℕ) → (machine selfrun).is_assign p ≡ true → ⊥
  no_assign zero h = false≢true h
  no_assign (suc p) h = false≢true h

  is_run : (steps : ℕ) → IsRun selfrun Free (the_run steps)
  is_run steps = record { starts = first_low.settled; unmoved = λ c. refl; nets = λ p c assign target. absurd (no_assign p assign); steps = are_steps first_state 0 steps first_low }

-- ---- it shows the dump

same_signals : (u v : Values Bit) (clk : Bit) (we : Bool) (a d q p : ℕ) → HasSignals u clk we a d q p → HasSignals v clk we a d q p → (s : ℕ) → s < 6 → signal_bits selfrun u s ≡ signal_bits selfrun v s
same_signals u v clk we a d q p x y zero below = x.is_clk ∙ sym y.is_clk
same_signals u v clk we a d q p x y (suc zero) below = x.is_we ∙ sym y.is_we
same_signals u v clk we a d q p x y (suc (suc zero)) below = x.is_a ∙ sym y.is_a
same_signals u v clk we a d q p x y (suc (suc (suc zero))) below = x.is_d ∙ sym y.is_d
same_signals u v clk we a d q p x y (suc (suc (suc (suc zero)))) below = x.is_q ∙ sym y.is_q
same_signals u v clk we a d q p x y (suc (suc (suc (suc (suc zero))))) below = x.is_p ∙ sym y.is_p
same_signals u v clk we a d q p x y (suc (suc (suc (suc (suc (suc s)))))) below = absurd (omega (arith, below))

module _ (number steps : ℕ) (dump : BoundDump) (says : SaysSelfrun number steps dump) where
  abbrev SameAt : ℕ → ℕ → Type 0
  SameAt s t = signal_bits selfrun (settled selfrun (the_run number steps) t) s ≡ signal_bits selfrun (dump.values t) s

  same_at : (t s : ℕ) → t < 10 * steps → s < 6 → SameAt s t
  same_at t s until below = ⊎_elim early late (cases_lt (t % 10) 5)
    where
      early : t % 10 < 5 → SameAt s t
      early less =
          let at : 10 * (t / 10) + t % 10 ≡ t = omega arith in
          let inside : t / 10 < steps = omega (arith, until, at) in
          subst (SameAt s) at (same_signals _ _ _ _ _ _ _ _ (at_low number (first_state number) 0 steps (t / 10) (t % 10) (first_low number) (omega arith) (omega (arith, inside)) less) (says.low (t / 10) (t % 10) inside less) s below)

      late : 5 ≤ t % 10 → SameAt s t
      late more =
          let at : 10 * (t / 10) + 5 + (t % 10 - 5) ≡ t = omega arith in
          let inside : t / 10 < steps = omega (arith, until, at) in
          let less : t % 10 - 5 < 5 = omega arith in
          subst (SameAt s) at (same_signals _ _ _ _ _ _ _ _ (at_high number (first_state number) 0 steps (t / 10) (t % 10 - 5) (first_low number) (omega arith) (omega (arith, inside)) less) (says.high (t / 10) (t % 10 - 5) inside less) s below)

  shows : Shows selfrun dump (the_run number steps)
  shows = record {
    starts = says.starts;
    shows = λ t is_shown s bound. same_at t s ((says.shown t).0 is_shown) (ltb-true s 6 (sym (says.bound s) ∙ bound));
  }

pub shown_law : SelfrunShownLaw
shown_law number steps dump says = (the_run number steps, is_run number steps, shows number steps dump says)
