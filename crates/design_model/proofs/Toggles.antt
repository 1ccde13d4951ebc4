-- A toggle point of a bound signal is hit where the dump toggles its bit.
use Rattle.std.proofs.Common.{◌≡◌, ◌⊎◌, inl, inr, ℕ, zero, suc, ◌-◌, ◌<◌, Bool, true, false, List, [], ◌∷◌, ◌++◌, refl, sym, ap, subst, ◌∙◌, arith, if◌then◌else◌, pos, negsuc, None, Some, nat_lt, ℤ}
use Rattle.std.proofs.lemmas.Bool.{ltb-true}
use Rattle.event_machine.specs.State.{State}
use Rattle.event_machine.specs.Event.{end_state}
use Rattle.event_machine.specs.Habit.{Habit}
use Rattle.event_machine.specs.Run.{AreSteps, Timed, state_at, step_start}
use Rattle.four_state.specs.Parts.{within}
use Rattle.four_state.specs.declared.bit.Bit.{Bit}
use Rattle.four_state.specs.declared.bit.Bit.TheVariants.{One, Zero}
use Rattle.design_model.specs.Design.{Design, cell, signal_at}
use Rattle.design_model.specs.Machine.{machine}
use Rattle.design_model.specs.Run.{IsRun, Run, StepOf, end_of, settled, start_of, state_after_steps}
use Rattle.design_model.specs.Shows.{BoundDump, InWindow, IsShown, IsWindow, Shows}
use Rattle.design_model.specs.Points.{IsHit, StandAtEnds, TogglesIn, indexed_cell, toggle_cell, toggle_point}
use Rattle.design_model.specs.ToggleLaw.{ToggleLaw, TogglesAt}
use Rattle.design_model.specs.Value.{offset}
use Rattle.design_model.specs.Assignment.{signal_range}
use Rattle.design_model.proofs.Stretches.{no_window_at, window_shown_at}
use Rattle.design_model.proofs.Sound.{pick_cell}
use Rattle.design_model.proofs.Hits.{StepHere, step_here}
use Rattle.design_model.proofs.Times.{passed, still_there, waiting}

module _ (d : Design) (h : Habit) where
  -- a later step has a later time
  pub later_time : (now : ℕ) (s : State Bit) (before : List (Timed Bit)) (x : Timed Bit) (later : List (Timed Bit)) → AreSteps (machine d) h now s (before ++ x ∷ later) → now < x.time
  later_time now s [] x later steps = steps.0
  later_time now s (y ∷ before) x later steps = omega (arith, steps.0, later_time y.time (step_start (end_state (machine d) s y.events)) before x later steps.2)

  -- a step begins with the settled values of the time before it
  values_at_start : (now t : ℕ) (s : State Bit) (before : List (Timed Bit)) (x : Timed Bit) (later : List (Timed Bit)) → AreSteps (machine d) h now s (before ++ x ∷ later) → x.time ≡ suc t → (state_after_steps d s before).values ≡ (state_at (machine d) t s (before ++ x ∷ later)).values
  values_at_start now t s [] x later steps at = ap (λ y. y.values) (sym (waiting (machine d) h t s x later (omega (arith, at))))
  values_at_start now t s (y ∷ before) x later steps at =
      let next = step_start (end_state (machine d) s y.events) in
      values_at_start y.time t next before x later steps.2 at
      ∙ ap (λ z. z.values) (sym (passed (machine d) h t s y (before ++ x ∷ later) (omega (arith, at, later_time y.time next before x later steps.2))))

  -- and ends with those of its own time
  values_at_end : (now t : ℕ) (s : State Bit) (before : List (Timed Bit)) (x : Timed Bit) (later : List (Timed Bit)) → AreSteps (machine d) h now s (before ++ x ∷ later) → x.time ≡ t → (end_state (machine d) (state_after_steps d s before) x.events).values ≡ (state_at (machine d) t s (before ++ x ∷ later)).values
  values_at_end now t s [] x later steps at =
      let next = step_start (end_state (machine d) s x.events) in
      ap (λ y. y.values) (sym (passed (machine d) h t s x later (omega (arith, at)) ∙ still_there (machine d) h x.time t next later steps.2 (omega (arith, at))))
  values_at_end now t s (y ∷ before) x later steps at =
      let next = step_start (end_state (machine d) s y.events) in
      values_at_end y.time t next before x later steps.2 at
      ∙ ap (λ z. z.values) (sym (passed (machine d) h t s y (before ++ x ∷ later) (omega (arith, at, later_time y.time next before x later steps.2))))

  module _ (r : Run) (is_run : IsRun d h r) where
    pub split_steps : (k : StepOf r) → AreSteps (machine d) h r.begins r.start (k.before ++ k.step ∷ k.later)
    split_steps k = subst (AreSteps (machine d) h r.begins r.start) k.splits is_run.steps

    pub start_values : (k : StepOf r) (t : ℕ) → k.step.time ≡ suc t → (start_of d r k).values ≡ settled d r t
    start_values k t at = values_at_start r.begins t r.start k.before k.step k.later (split_steps k) at ∙ ap (λ xs. (state_at (machine d) t r.start xs).values) (sym k.splits)

    pub end_values : (k : StepOf r) (t : ℕ) → k.step.time ≡ t → (end_of d r k).values ≡ settled d r t
    end_values k t at = values_at_end r.begins t r.start k.before k.step k.later (split_steps k) at ∙ ap (λ xs. (state_at (machine d) t r.start xs).values) (sym k.splits)

-- the cell of a toggle point is one of its signal's
indexed_in : (s width : ℕ) (index : ℤ) → 0 < width → ((indexed_cell s (within width index)).thing ≡ s) × ((indexed_cell s (within width index)).place < width)
indexed_in s width (negsuc k) some = (refl, some)
indexed_in s width (pos k) some = go (nat_lt k width) refl
  where
    go : (b : Bool) → nat_lt k width ≡ b → ((indexed_cell s (if b then Some k else None)).thing ≡ s) × ((indexed_cell s (if b then Some k else None)).place < width)
    go true is = (refl, ltb-true k width is)
    go false is = (refl, some)

pub toggle_cell_in : (d : Design) (s i : ℕ) → 0 < (signal_at d s).width → ((toggle_cell d s i).thing ≡ s) × ((toggle_cell d s i).place < (signal_at d s).width)
toggle_cell_in d s i some = go (signal_at d s).ranged
  where
    go : (b : Bool) → ((if b then indexed_cell s (within (signal_at d s).width (offset (signal_range d s) (pos i))) else cell s 0).thing ≡ s) × ((if b then indexed_cell s (within (signal_at d s).width (offset (signal_range d s) (pos i))) else cell s 0).place < (signal_at d s).width)
    go true = indexed_in s (signal_at d s).width (offset (signal_range d s) (pos i)) some
    go false = (refl, some)

module _ (d : Design) (h : Habit) (dump : BoundDump) (r : Run) (s i : ℕ) (is_run : IsRun d h r) (shows : Shows d dump r) (bound : dump.bound s ≡ true) (some : 0 < (signal_at d s).width) where
  shown_value : (t : ℕ) → IsShown dump t → settled d r t (toggle_cell d s i) ≡ dump.values t (toggle_cell d s i)
  shown_value t shown =
      let inside = toggle_cell_in d s i some in
      let of_signal = subst (λ y. dump.bound y ≡ true) (sym inside.0) bound in
      pick_cell d (settled d r t) (dump.values t) (toggle_cell d s i) (shows.shows t shown (toggle_cell d s i).thing of_signal) (subst (λ y. (toggle_cell d s i).place < (signal_at d y).width) (sym inside.0) inside.1)

  to_dump : (k : StepOf r) (x y : Bit) (t : ℕ) → k.step.time ≡ suc t → IsWindow dump (suc t) → StandAtEnds d r k (toggle_cell d s i) x y → (dump.values t (toggle_cell d s i) ≡ x) × (dump.values (suc t) (toggle_cell d s i) ≡ y)
  to_dump k x y t at window ends =
      let shown = window_shown_at dump.stretches t window in (
        sym (shown_value t shown.0) ∙ ap (λ v. v (toggle_cell d s i)) (sym (start_values d h r is_run k t at)) ∙ ends.0,
        sym (shown_value (suc t) shown.1) ∙ ap (λ v. v (toggle_cell d s i)) (sym (end_values d h r is_run k (suc t) at)) ∙ ends.1,
      )

  -- where the dump changes the bit, the run has a step with these values at its ends
  to_run : (x y : Bit) (t : ℕ) → (x ≡ y → ⊥) → IsWindow dump (suc t) → dump.values t (toggle_cell d s i) ≡ x → dump.values (suc t) (toggle_cell d s i) ≡ y → (k : StepOf r) × InWindow dump r k × StandAtEnds d r k (toggle_cell d s i) x y
  to_run x y t apart window before after = go (step_here d h r is_run t)
    where
      shown : IsShown dump t × IsShown dump (suc t)
      shown = window_shown_at dump.stretches t window

      old : settled d r t (toggle_cell d s i) ≡ x
      old = shown_value t shown.0 ∙ before

      new : settled d r (suc t) (toggle_cell d s i) ≡ y
      new = shown_value (suc t) shown.1 ∙ after

      go : (settled d r (suc t) ≡ settled d r t) ⊎ StepHere d h r t → (k : StepOf r) × InWindow dump r k × StandAtEnds d r k (toggle_cell d s i) x y
      go (inl same) = absurd (apart (sym old ∙ ap (λ v. v (toggle_cell d s i)) (sym same) ∙ new))
      go (inr here) = (
        here.step,
        subst (IsWindow dump) (sym here.at) window,
        (
          ap (λ v. v (toggle_cell d s i)) (start_values d h r is_run here.step t here.at) ∙ old,
          ap (λ v. v (toggle_cell d s i)) (end_values d h r is_run here.step (suc t) here.at) ∙ new,
        ),
      )

  zero_one : Zero ≡ One → ⊥
  zero_one e = cc

  one_zero : One ≡ Zero → ⊥
  one_zero e = cc

  hit_toggles_at : (rise : Bool) (k : StepOf r) (t : ℕ) → k.step.time ≡ t → IsWindow dump t → TogglesIn d r k (toggle_cell d s i) rise → TogglesAt dump (toggle_cell d s i) t rise
  hit_toggles_at rise k zero at window ends = absurd (no_window_at dump.stretches window)
  hit_toggles_at true k (suc t) at window ends = let both = to_dump k Zero One t at window ends in (subst (λ u. dump.values u (toggle_cell d s i) ≡ Zero) (before_is t) both.0, both.1)
    where
      before_is : (t : ℕ) → t ≡ suc t - 1
      before_is t = omega arith
  hit_toggles_at false k (suc t) at window ends = let both = to_dump k One Zero t at window ends in (subst (λ u. dump.values u (toggle_cell d s i) ≡ One) (before_is t) both.0, both.1)
    where
      before_is : (t : ℕ) → t ≡ suc t - 1
      before_is t = omega arith

  hit_toggles : (rise : Bool) → IsHit d dump r (toggle_point s i rise) → (t : ℕ) × IsWindow dump t × TogglesAt dump (toggle_cell d s i) t rise
  hit_toggles rise (inl hit) = (hit.0.step.time, hit.1, hit_toggles_at rise hit.0 hit.0.step.time refl hit.1 hit.2)
  hit_toggles rise (inr at) = absurd at.3

  toggles_hit : (rise : Bool) (t : ℕ) → IsWindow dump t → TogglesAt dump (toggle_cell d s i) t rise → IsHit d dump r (toggle_point s i rise)
  toggles_hit rise zero window toggles = absurd (no_window_at dump.stretches window)
  toggles_hit true (suc t) window toggles = inl (to_run Zero One t zero_one window (subst (λ u. dump.values u (toggle_cell d s i) ≡ Zero) (after_is t) toggles.0) toggles.1)
    where
      after_is : (t : ℕ) → suc t - 1 ≡ t
      after_is t = omega arith
  toggles_hit false (suc t) window toggles = inl (to_run One Zero t one_zero window (subst (λ u. dump.values u (toggle_cell d s i) ≡ One) (after_is t) toggles.0) toggles.1)
    where
      after_is : (t : ℕ) → suc t - 1 ≡ t
      after_is t = omega arith

pub toggle_law : (d : Design) (h : Habit) → ToggleLaw d h
toggle_law d h dump r s i rise is_run shows bound some =
    (hit_toggles d h dump r s i is_run shows bound some rise, λ at. toggles_hit d h dump r s i is_run shows bound some rise at.0 at.1 at.2)
