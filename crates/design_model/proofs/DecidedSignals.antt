-- A toggle, state or arc point for which nothing is in doubt is hit in each run that shows the dump, or in none.
use Rattle.std.proofs.Common.{◌≡◌, ◌≢◌, inl, inr, ⊎_elim, ℕ, zero, suc, ◌-◌, ◌<◌, true, false, [], append-nil, refl, sym, ap, subst, ◌∙◌, arith}
use Rattle.event_machine.specs.Cell.{Cell, Values}
use Rattle.event_machine.specs.Habit.{Habit}
use Rattle.four_state.specs.declared.bit.Bit.{Bit}
use Rattle.four_state.specs.declared.bit.Bit.TheVariants.{One, Zero}
use Rattle.design_model.specs.Design.{Design, a_signal, signal_at, signal_bits}
use Rattle.design_model.specs.Reads.{HasValue}
use Rattle.design_model.specs.Machine.{machine}
use Rattle.design_model.specs.Run.{IsRun, Run, StepOf, settled}
use Rattle.design_model.specs.Shows.{BoundDump, IsDumpOf, IsShown, IsWindow, Shows, ShowsUpTo}
use Rattle.design_model.specs.Points.{HitAt, HitIn, IsHitAt, Point, arc_point, line_point, logic_point, state_point, toggle_cell, toggle_point, word_point}
use Rattle.design_model.specs.MayMove.{MayMoveAt, told_at}
use Rattle.design_model.specs.Clear.{clear, clear_before}
use Rattle.design_model.specs.Doubt.{IsInDoubt, IsPointOn, IsUnclear, MayMoveUnlisted, of_signal}
use Rattle.design_model.specs.Lawful.{IsLawfulDesign}
use Rattle.design_model.specs.DecidedLaw.{IsSignalPoint, SignalDecidedLaw}
use Rattle.design_model.proofs.ForcedSound.{clear_at}
use Rattle.design_model.proofs.Hits.{step_here}
use Rattle.design_model.proofs.Sound.{IsSeen, cells_eq, pick_cell, step_or, told_step}
use Rattle.design_model.proofs.StepLaws.{StepLaws}
use Rattle.design_model.proofs.Times.{StepTo}
use Rattle.design_model.proofs.Stretches.{no_window_at, window_shown_at}
use Rattle.design_model.proofs.Toggles.{end_values, start_values, toggle_cell_in}

zero_one : Zero ≡ One → ⊥
zero_one e = cc

one_zero : One ≡ Zero → ⊥
one_zero e = cc

-- a run that shows the dump, over a window time
module _ (d : Design) (lawful : IsLawfulDesign d) (h : Habit) (laws : StepLaws (machine d) h) (dump : BoundDump) (fits : IsDumpOf d dump) (t : ℕ) (window : IsWindow dump (suc t)) (r : Run) (is_run : IsRun d h r) (shows : Shows d dump r) where
  shown : IsShown dump t × IsShown dump (suc t)
  shown = window_shown_at dump.stretches t window

  up_to : ShowsUpTo d dump r (suc t)
  up_to = record { starts = shows.starts; shows = λ u seen before. shows.shows u seen }

  now : IsSeen dump (suc t) t
  now = (shown.0, omega arith)

  next : IsSeen dump (suc t) (suc t)
  next = (shown.1, omega arith)

  -- what may not move does not change
  pub stays : (c : Cell) → (MayMoveAt d dump (suc t) c.thing → ⊥) → settled d r (suc t) c ≡ settled d r t c
  stays c still = ⊎_elim (λ same. ap (λ f. f c) same) over (step_or d lawful h dump fits.signals r is_run (suc t) up_to laws.net laws.no_wake laws.write laws.edge t)
    where
      over : StepTo (machine d) h (settled d r t) (settled d r (suc t)) → settled d r (suc t) c ≡ settled d r t c
      over s =
          ap (λ f. f c) (sym s.ends)
          ∙ laws.unchanged (dump.round (suc t)) h (told_at dump (suc t)) (told_step d lawful h dump fits.signals r is_run (suc t) up_to laws.net laws.no_wake laws.write laws.edge t now next s) c still s.events [] (sym (append-nil s.events))
          ∙ ap (λ f. f c) s.starts

  pub bits_stay : (s : ℕ) → (MayMoveAt d dump (suc t) s → ⊥) → signal_bits d (settled d r (suc t)) s ≡ signal_bits d (settled d r t) s
  bits_stay s still = cells_eq d (settled d r (suc t)) (settled d r t) (a_signal s) (λ c at. stays c (subst (λ y. MayMoveAt d dump (suc t) y → ⊥) (sym at) still))

  -- what is clear has its value at the start and at the end
  pub clear_start_bits : (s : ℕ) (has : HasValue (clear_before d h dump (suc t)) (a_signal s)) → signal_bits d (settled d r t) s ≡ has.0
  clear_start_bits s has =
      let last : suc t - 1 ≡ t = omega arith in
      clear_at d lawful h laws dump r fits.signals is_run (suc t) up_to t now (a_signal s) has.0 (subst (λ u. clear d h dump u (a_signal s) has.0) last has.1)

  pub clear_end_bits : (s : ℕ) (has : HasValue (clear d h dump (suc t)) (a_signal s)) → signal_bits d (settled d r (suc t)) s ≡ has.0
  clear_end_bits s has = clear_at d lawful h laws dump r fits.signals is_run (suc t) up_to (suc t) next (a_signal s) has.0 has.1

-- how the point looks at the values at the two ends of a step
abbrev LooksAt : Design → Point → Values Bit → Values Bit → Type 0
LooksAt d (toggle_point s i true) u w = (u (toggle_cell d s i) ≡ Zero) × (w (toggle_cell d s i) ≡ One)
LooksAt d (toggle_point s i false) u w = (u (toggle_cell d s i) ≡ One) × (w (toggle_cell d s i) ≡ Zero)
LooksAt d (state_point i name s state x) u w = (signal_bits d u s ≢ signal_bits d w s) × (signal_bits d w s ≡ x.bits)
LooksAt d (arc_point i name s from to x y) u w = (signal_bits d u s ≡ x.bits) × (signal_bits d w s ≡ y.bits)
LooksAt d _ u w = ⊥

-- which signal it is on
abbrev signal_of : Point → ℕ
signal_of (toggle_point s i rise) = s
signal_of (state_point i name s state x) = s
signal_of (arc_point i name s from to x y) = s
signal_of _ = 0

is_on : (d : Design) (x : Point) → IsSignalPoint d x → IsPointOn x (signal_of x)
is_on d (toggle_point s i rise) is = refl
is_on d (state_point i name s state x) is = refl
is_on d (arc_point i name s from to x y) is = refl
is_on d (line_point p n at w) is = absurd is
is_on d (logic_point p n at op c) is = absurd is
is_on d (word_point m i w) is = absurd is

cell_same : (d : Design) (s i : ℕ) (u v : Values Bit) → 0 < (signal_at d s).width → signal_bits d u s ≡ signal_bits d v s → u (toggle_cell d s i) ≡ v (toggle_cell d s i)
cell_same d s i u v some e =
    let inside = toggle_cell_in d s i some in
    pick_cell d u v (toggle_cell d s i) (subst (λ y. signal_bits d u y ≡ signal_bits d v y) (sym inside.0) e) (subst (λ y. (toggle_cell d s i).place < (signal_at d y).width) (sym inside.0) inside.1)

looks_same : (d : Design) (x : Point) → IsSignalPoint d x → (u w u' w' : Values Bit) → signal_bits d u (signal_of x) ≡ signal_bits d u' (signal_of x) → signal_bits d w (signal_of x) ≡ signal_bits d w' (signal_of x) → LooksAt d x u w → LooksAt d x u' w'
looks_same d (toggle_point s i true) is u w u' w' a b l = (sym (cell_same d s i u u' is a) ∙ l.0, sym (cell_same d s i w w' is b) ∙ l.1)
looks_same d (toggle_point s i false) is u w u' w' a b l = (sym (cell_same d s i u u' is a) ∙ l.0, sym (cell_same d s i w w' is b) ∙ l.1)
looks_same d (state_point i name s state x) is u w u' w' a b l = ((λ e. l.0 (a ∙ e ∙ sym b)), sym b ∙ l.1)
looks_same d (arc_point i name s from to x y) is u w u' w' a b l = (sym a ∙ l.0, sym b ∙ l.1)
looks_same d (line_point p n at w0) is u w u' w' a b l = absurd is
looks_same d (logic_point p n at op c) is u w u' w' a b l = absurd is
looks_same d (word_point m i w0) is u w u' w' a b l = absurd is

-- over equal values there is no such change
looks_changed : (d : Design) (x : Point) → IsSignalPoint d x → (u w : Values Bit) → signal_bits d w (signal_of x) ≡ signal_bits d u (signal_of x) → LooksAt d x u w → ⊥
looks_changed d (toggle_point s i true) is u w e l = zero_one (sym l.0 ∙ sym (cell_same d s i w u is e) ∙ l.1)
looks_changed d (toggle_point s i false) is u w e l = one_zero (sym l.0 ∙ sym (cell_same d s i w u is e) ∙ l.1)
looks_changed d (state_point i name s state x) is u w e l = l.0 (sym e)
looks_changed d (arc_point i name s from to x y) is u w e l = is (sym l.0 ∙ sym e ∙ l.1)
looks_changed d (line_point p n at w0) is u w e l = absurd is
looks_changed d (logic_point p n at op c) is u w e l = absurd is
looks_changed d (word_point m i w0) is u w e l = absurd is

same_bits : (d : Design) (u w : Values Bit) (s : ℕ) → w ≡ u → signal_bits d w s ≡ signal_bits d u s
same_bits d u w s e = ap (λ f. signal_bits d f s) e

module _ (d : Design) (h : Habit) (r : Run) (is_run : IsRun d h r) (t : ℕ) where
  -- a hit in the step is such a change of the settled values
  hit_looks : (x : Point) → IsSignalPoint d x → (k : StepOf r) → k.step.time ≡ suc t → HitIn d r k x → LooksAt d x (settled d r t) (settled d r (suc t))
  hit_looks (toggle_point s i true) is k at hit = (ap (λ f. f (toggle_cell d s i)) (sym (start_values d h r is_run k t at)) ∙ hit.0, ap (λ f. f (toggle_cell d s i)) (sym (end_values d h r is_run k (suc t) at)) ∙ hit.1)
  hit_looks (toggle_point s i false) is k at hit = (ap (λ f. f (toggle_cell d s i)) (sym (start_values d h r is_run k t at)) ∙ hit.0, ap (λ f. f (toggle_cell d s i)) (sym (end_values d h r is_run k (suc t) at)) ∙ hit.1)
  hit_looks (state_point i name s state x) is k at hit = (
    (λ e. hit.0 (ap (λ f. signal_bits d f s) (start_values d h r is_run k t at) ∙ e ∙ ap (λ f. signal_bits d f s) (sym (end_values d h r is_run k (suc t) at)))),
    ap (λ f. signal_bits d f s) (sym (end_values d h r is_run k (suc t) at)) ∙ hit.1,
  )
  hit_looks (arc_point i name s from to x y) is k at hit = (ap (λ f. signal_bits d f s) (sym (start_values d h r is_run k t at)) ∙ hit.0, ap (λ f. signal_bits d f s) (sym (end_values d h r is_run k (suc t) at)) ∙ hit.1)
  hit_looks (line_point p n at' w0) is k at hit = absurd is
  hit_looks (logic_point p n at' op c) is k at hit = absurd is
  hit_looks (word_point m i w0) is k at hit = absurd is

  looks_hit_in : (x : Point) → IsSignalPoint d x → (k : StepOf r) → k.step.time ≡ suc t → LooksAt d x (settled d r t) (settled d r (suc t)) → HitIn d r k x
  looks_hit_in (toggle_point s i true) is k at l = (ap (λ f. f (toggle_cell d s i)) (start_values d h r is_run k t at) ∙ l.0, ap (λ f. f (toggle_cell d s i)) (end_values d h r is_run k (suc t) at) ∙ l.1)
  looks_hit_in (toggle_point s i false) is k at l = (ap (λ f. f (toggle_cell d s i)) (start_values d h r is_run k t at) ∙ l.0, ap (λ f. f (toggle_cell d s i)) (end_values d h r is_run k (suc t) at) ∙ l.1)
  looks_hit_in (state_point i name s state x) is k at l = (
    (λ e. l.0 (ap (λ f. signal_bits d f s) (sym (start_values d h r is_run k t at)) ∙ e ∙ ap (λ f. signal_bits d f s) (end_values d h r is_run k (suc t) at))),
    ap (λ f. signal_bits d f s) (end_values d h r is_run k (suc t) at) ∙ l.1,
  )
  looks_hit_in (arc_point i name s from to x y) is k at l = (ap (λ f. signal_bits d f s) (start_values d h r is_run k t at) ∙ l.0, ap (λ f. signal_bits d f s) (end_values d h r is_run k (suc t) at) ∙ l.1)
  looks_hit_in (line_point p n at' w0) is k at l = absurd is
  looks_hit_in (logic_point p n at' op c) is k at l = absurd is
  looks_hit_in (word_point m i w0) is k at l = absurd is

  looks_hit : (dump : BoundDump) (x : Point) → IsSignalPoint d x → LooksAt d x (settled d r t) (settled d r (suc t)) → IsHitAt d dump r x (suc t)
  looks_hit dump x is l =
      ⊎_elim
      (λ same. absurd (looks_changed d x is (settled d r t) (settled d r (suc t)) (same_bits d (settled d r t) (settled d r (suc t)) (signal_of x) same) l))
      (λ here. inl (here.step, here.at, looks_hit_in x is here.step here.at l))
      (step_here d h r is_run t)

-- a hit at a listed time, by the settled values
at_same : (d : Design) (x : Point) → IsSignalPoint d x → (r q : Run) (t : ℕ) → signal_bits d (settled d r t) (signal_of x) ≡ signal_bits d (settled d q t) (signal_of x) → HitAt d r t x → HitAt d q t x
at_same d (toggle_point s i rise) is r q t e hit = absurd hit
at_same d (state_point i name s state x) is r q t e hit = sym e ∙ hit
at_same d (arc_point i name s from to x y) is r q t e hit = absurd hit
at_same d (line_point p n at w0) is r q t e hit = absurd is
at_same d (logic_point p n at op c) is r q t e hit = absurd is
at_same d (word_point m i w0) is r q t e hit = absurd is

module _ (d : Design) (lawful : IsLawfulDesign d) (h : Habit) (laws : StepLaws (machine d) h) (x : Point) (is : IsSignalPoint d x) (dump : BoundDump) (r q : Run) (fits : IsDumpOf d dump) (r_run : IsRun d h r) (q_run : IsRun d h q) (r_shows : Shows d dump r) (q_shows : Shows d dump q) where
  decided : (t : ℕ) → IsWindow dump (suc t) → ((s : ℕ) → IsInDoubt d h dump x (suc t) s → ⊥) → IsHitAt d dump r x (suc t) → (IsHitAt d dump q x (suc t) → ⊥) → ⊥
  decided t window none hit other = unmoved hit
    where
      s : ℕ
      s = signal_of x

      -- where s is clear at both ends the runs have the same values of it
      both_clear : HasValue (clear_before d h dump (suc t)) (a_signal (signal_of x)) → HasValue (clear d h dump (suc t)) (a_signal (signal_of x)) → ⊥
      both_clear first last =
          let old : signal_bits d (settled d r t) (signal_of x) ≡ signal_bits d (settled d q t) (signal_of x) = clear_start_bits d lawful h laws dump fits t window r r_run r_shows (signal_of x) first ∙ sym (clear_start_bits d lawful h laws dump fits t window q q_run q_shows (signal_of x) first) in
          let new : signal_bits d (settled d r (suc t)) (signal_of x) ≡ signal_bits d (settled d q (suc t)) (signal_of x) = clear_end_bits d lawful h laws dump fits t window r r_run r_shows (signal_of x) last ∙ sym (clear_end_bits d lawful h laws dump fits t window q q_run q_shows (signal_of x) last) in
          ⊎_elim
          (λ k. other (looks_hit d h q q_run t dump x is (looks_same d x is _ _ _ _ old new (hit_looks d h r r_run t x is k.0 k.1 k.2))))
          (λ a. other (inr (a.0, at_same d x is r q (suc t) new a.1)))
          hit

      -- so s is at no listed time, and may not move
      not_may : MayMoveUnlisted d dump (suc t) (signal_of x) → ⊥
      not_may may =
          let unclear : IsUnclear d h dump (suc t) (a_signal (signal_of x)) → ⊥ = λ u. none (signal_of x) (of_signal window (is_on d x is) may u) in
          unclear (inl (λ first. unclear (inr (λ last. both_clear first last))))

      unmoved : IsHitAt d dump r x (suc t) → ⊥
      unmoved (inl k) =
          looks_changed d x is (settled d r t) (settled d r (suc t)) (bits_stay d lawful h laws dump fits t window r r_run r_shows (signal_of x) (λ m. not_may (inr m))) (hit_looks d h r r_run t x is k.0 k.1 k.2)
      unmoved (inr a) = not_may (inl a.0)

  pub decided_at : (t : ℕ) → IsWindow dump t → ((s : ℕ) → IsInDoubt d h dump x t s → ⊥) → IsHitAt d dump r x t → (IsHitAt d dump q x t → ⊥) → ⊥
  decided_at zero window none hit other = no_window_at dump.stretches window
  decided_at (suc t) window none hit other = decided t window none hit other

pub signal_decided_law : (d : Design) (h : Habit) → IsLawfulDesign d → StepLaws (machine d) h → SignalDecidedLaw d h
signal_decided_law d h lawful laws x is dump r q fits r_run q_run r_shows q_shows t window none hit other =
    decided_at d lawful h laws x is dump r q fits r_run q_run r_shows q_shows t window none hit other
