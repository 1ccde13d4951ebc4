-- What a clean block visits, from what it knows, up to its first read outside, is hit in every run that shows the dump.
use Rattle.std.proofs.Common.{◌≡◌, ◌⊎◌, inl, inr, ⊎_elim, ℕ, zero, suc, ◌-◌, ◌<◌, ◌≤◌, true, false, List, [], ◌∷◌, ◌++◌, append_assoc, refl, sym, ap, subst, ◌∙◌, arith, if◌then◌else◌}
use Rattle.event_machine.specs.Machine.{Edge as MachineEdge}
use Rattle.std.proofs.lemmas.Bool.{cases_lt, lt-leb, le-leb, false≢true}
use Rattle.event_machine.specs.Cell.{Cell, Values}
use Rattle.event_machine.specs.State.{State}
use Rattle.event_machine.specs.Event.{end_state}
use Rattle.event_machine.specs.Habit.{Habit}
use Rattle.event_machine.specs.Step.{IsStep, evaluations}
use Rattle.event_machine.specs.Run.{AreSteps, Timed, state_at, step_start}
use Rattle.event_machine.specs.Laws.{EvaluatesOnce}
use Rattle.four_state.specs.declared.bit.Bit.{Bit}
use Rattle.design_model.specs.Tree.{Process, assign, clocked, comb}
use Rattle.design_model.specs.Design.{Design, In, body_at, process_at}
use Rattle.design_model.specs.Execution.{Visit, at_line, at_node}
use Rattle.design_model.specs.Reads.{Agrees, PartialMap, UpToOutside, VisitsFrom}
use Rattle.design_model.specs.Machine.{lists_edge, machine}
use Rattle.design_model.specs.Run.{IsRun, Run, StepOf, evaluations_of, settled, start_of, state_after_steps}
use Rattle.design_model.specs.Shows.{BindsSignals, BoundDump, InWindow, IsWindow, ShowsUpTo}
use Rattle.design_model.specs.Scored.{IsScored, IsScoredOf, VisitsIn}
use Rattle.design_model.specs.Points.{IsBlock, IsHit, Point, arc_point, line_point, logic_point, state_point, toggle_point, word_point}
use Rattle.design_model.specs.MayMove.{IsCleanAt, IsSingleAt, told_at}
use Rattle.design_model.specs.Clear.{EntryFrom, clear, clear_before}
use Rattle.design_model.specs.Open.{IsVisitOf, KnownOnEntry}
use Rattle.design_model.specs.Lawful.{IsLawfulDesign}
use Rattle.design_model.proofs.ForcedSound.{clear_at}
use Rattle.design_model.proofs.Prefix.{visits_on_all}
use Rattle.design_model.proofs.Sound.{IsSeen, told_step, clean_moves, entry_agrees, no_window, window_shown}
use Rattle.design_model.proofs.StepLaws.{StepLaws}
use Rattle.design_model.proofs.Times.{StepTo}

after_append : (d : Design) (s : State Bit) (xs ys : List (Timed Bit)) → state_after_steps d s (xs ++ ys) ≡ state_after_steps d (state_after_steps d s xs) ys
after_append d s [] ys = refl
after_append d s (x ∷ xs) ys = after_append d (step_start (end_state (machine d) s x.events)) xs ys

-- a step of the run at the next time, between the settled values
pub record StepHere (d : Design) (h : Habit) (r : Run) (t : ℕ) : Type 0 where
  pub step : StepOf r
  pub at : step.step.time ≡ suc t
  pub to : StepTo (machine d) h (settled d r t) (settled d r (suc t))
  pub start : to.start ≡ start_of d r step
  pub events : to.events ≡ step.step.events

module _ (d : Design) (h : Habit) (r : Run) (is_run : IsRun d h r) where
  -- the steps from xs on, after those before; the settled values by them
  find : (before xs : List (Timed Bit)) (now t : ℕ) (s : State Bit) → r.steps ≡ before ++ xs → s ≡ state_after_steps d r.start before → AreSteps (machine d) h now s xs → ((state_at (machine d) (suc t) s xs).values ≡ (state_at (machine d) t s xs).values) ⊎ ((x : StepOf r) × (x.step.time ≡ suc t) × (s' : State Bit) × (s' ≡ start_of d r x) × IsStep (machine d) h s' x.step.events × (s'.values ≡ (state_at (machine d) t s xs).values) × ((end_state (machine d) s' x.step.events).values ≡ (state_at (machine d) (suc t) s xs).values))
  find before [] now t s split is steps = inl refl
  find before (x ∷ xs) now t s split is steps =
      ⊎_elim
      (λ later. ⊎_elim (λ far. inl (ap (λ y. y.values) (waits (suc t) far ∙ sym (waits t later)))) (λ here. inr (at_once later here)) (cases_lt (suc t) x.time))
      (λ past. carry past (find (before ++ x ∷ []) xs x.time t (step_start (end_state (machine d) s x.events)) (split ∙ sym (append_assoc before (x ∷ []) xs)) (ap (λ y. step_start (end_state (machine d) y x.events)) is ∙ sym (after_append d r.start before (x ∷ []))) steps.2))
      (cases_lt t x.time)
    where
      waits : (u : ℕ) → u < x.time → state_at (machine d) u s (x ∷ xs) ≡ s
      waits u lt = ap (λ b. if b then state_at (machine d) u (step_start (end_state (machine d) s x.events)) xs else s) (lt-leb x.time u lt)

      passes : (u : ℕ) → x.time ≤ u → state_at (machine d) u s (x ∷ xs) ≡ state_at (machine d) u (step_start (end_state (machine d) s x.events)) xs
      passes u le = ap (λ b. if b then state_at (machine d) u (step_start (end_state (machine d) s x.events)) xs else s) (le-leb x.time u le)

      stands : (u : ℕ) (s2 : State Bit) (ys : List (Timed Bit)) → AreSteps (machine d) h x.time s2 ys → u ≤ x.time → state_at (machine d) u s2 ys ≡ s2
      stands u s2 [] st le = refl
      stands u s2 (y ∷ ys) st le = ap (λ b. if b then state_at (machine d) u (step_start (end_state (machine d) s2 y.events)) ys else s2) (lt-leb y.time u (omega (arith, le, st.0)))

      at_once : t < x.time → x.time ≤ suc t → (k : StepOf r) × (k.step.time ≡ suc t) × (s' : State Bit) × (s' ≡ start_of d r k) × IsStep (machine d) h s' k.step.events × (s'.values ≡ (state_at (machine d) t s (x ∷ xs)).values) × ((end_state (machine d) s' k.step.events).values ≡ (state_at (machine d) (suc t) s (x ∷ xs)).values)
      at_once later here =
          (record { before = before; step = x; later = xs; splits = split }, omega (arith, later, here), s, is, steps.1, ap (λ y. y.values) (sym (waits t later)), ap (λ y. y.values) (sym (passes (suc t) here ∙ stands (suc t) (step_start (end_state (machine d) s x.events)) xs steps.2 (omega (arith, later)))))

      carry : x.time ≤ t → ((state_at (machine d) (suc t) (step_start (end_state (machine d) s x.events)) xs).values ≡ (state_at (machine d) t (step_start (end_state (machine d) s x.events)) xs).values) ⊎ ((k : StepOf r) × (k.step.time ≡ suc t) × (s' : State Bit) × (s' ≡ start_of d r k) × IsStep (machine d) h s' k.step.events × (s'.values ≡ (state_at (machine d) t (step_start (end_state (machine d) s x.events)) xs).values) × ((end_state (machine d) s' k.step.events).values ≡ (state_at (machine d) (suc t) (step_start (end_state (machine d) s x.events)) xs).values)) → ((state_at (machine d) (suc t) s (x ∷ xs)).values ≡ (state_at (machine d) t s (x ∷ xs)).values) ⊎ ((k : StepOf r) × (k.step.time ≡ suc t) × (s' : State Bit) × (s' ≡ start_of d r k) × IsStep (machine d) h s' k.step.events × (s'.values ≡ (state_at (machine d) t s (x ∷ xs)).values) × ((end_state (machine d) s' k.step.events).values ≡ (state_at (machine d) (suc t) s (x ∷ xs)).values))
      carry past (inl same) = inl (ap (λ y. y.values) (passes (suc t) (omega (arith, past))) ∙ same ∙ ap (λ y. y.values) (sym (passes t past)))
      carry past (inr k) = inr (k.0, k.1, k.2, k.3, k.4, k.5 ∙ ap (λ y. y.values) (sym (passes t past)), k.6 ∙ ap (λ y. y.values) (sym (passes (suc t) (omega (arith, past)))))

  pub step_here : (t : ℕ) → (settled d r (suc t) ≡ settled d r t) ⊎ StepHere d h r t
  step_here t = go (find [] r.steps r.begins t r.start refl refl is_run.steps)
    where
      go : ((state_at (machine d) (suc t) r.start r.steps).values ≡ (state_at (machine d) t r.start r.steps).values) ⊎ ((x : StepOf r) × (x.step.time ≡ suc t) × (s' : State Bit) × (s' ≡ start_of d r x) × IsStep (machine d) h s' x.step.events × (s'.values ≡ (state_at (machine d) t r.start r.steps).values) × ((end_state (machine d) s' x.step.events).values ≡ (state_at (machine d) (suc t) r.start r.steps).values)) → (settled d r (suc t) ≡ settled d r t) ⊎ StepHere d h r t
      go (inl same) = inl same
      go (inr k) = inr (record { step = k.0; at = k.1; to = record { start = k.2; events = k.0.step.events; is_step = k.4; starts = k.5; ends = k.6 }; start = k.3; events = refl })

pub upto_in : (K : PartialMap) (y : Visit) (xs : List Visit) → UpToOutside K y xs → In y xs
upto_in K y [] h = h
upto_in K y (x ∷ xs) (inl e) = inl e
upto_in K y (x ∷ xs) (inr h) = inr (upto_in K y xs h.1)

-- each execution of a process with an edge counts
scored : (x : Process) (e : MachineEdge) (c : Cell) (d : Design) (r : Run) (k : StepOf r) (p : ℕ) (v : Values Bit) → lists_edge x e c ≡ true → In v (evaluations_of d r k p) → IsScoredOf x d r k p v
scored (assign i x t counted) e c d r k p v edge h = absurd (false≢true edge)
scored (comb i wakes s) e c d r k p v edge h = absurd (false≢true edge)
scored (clocked i events s) e c d r k p v edge h = h

-- a visit of a point is a hit
pub hit_of : (d : Design) (dump : BoundDump) (r : Run) (x : Point) (p : ℕ) (y : Visit) (k : StepOf r) → InWindow dump r k → IsBlock d x p → IsVisitOf x y → VisitsIn d r k p y → IsHit d dump r x
hit_of d dump r (line_point q n at w) p y k window is_block is visits = inl (k, window, subst (λ z. VisitsIn d r k z (at_line n)) is_block (subst (VisitsIn d r k p) is visits))
hit_of d dump r (logic_point q n at op c) p y k window is_block is visits = inl (k, window, subst (λ z. VisitsIn d r k z (at_node n c)) is_block (subst (VisitsIn d r k p) is visits))
hit_of d dump r (toggle_point s i rise) p y k window is_block is visits = absurd is_block
hit_of d dump r (state_point i name s state bits) p y k window is_block is visits = absurd is_block
hit_of d dump r (arc_point i name s from to old new) p y k window is_block is visits = absurd is_block
hit_of d dump r (word_point m i true) p y k window is_block is visits = inl (k, window, (p, subst (VisitsIn d r k p) is visits))
hit_of d dump r (word_point m i false) p y k window is_block is visits = inl (k, window, (p, is.0, subst (VisitsIn d r k p) is.1 visits))

module _ (d : Design) (lawful : IsLawfulDesign d) (h : Habit) (laws : StepLaws (machine d) h) (dump : BoundDump) (r : Run) (binds : BindsSignals d dump) (is_run : IsRun d h r) (end : ℕ) (shows : ShowsUpTo d dump r end) where
  -- a clean block acts in the step, on values that agree with what it knows
  pub clean_acts : (t p : ℕ) (c : Cell) → IsWindow dump (suc t) → suc t ≤ end → IsCleanAt d dump (suc t) p c → (k : StepOf r) × InWindow dump r k × (entry : Values Bit) × IsScored d r k p entry × Agrees d (KnownOnEntry d h dump (suc t) p) entry
  clean_acts t p c window le clean = go (step_here d h r is_run t)
    where
      both : IsSeen dump end t × IsSeen dump end (suc t)
      both = window_shown d lawful h dump binds r is_run end shows laws.net laws.no_wake laws.write laws.edge t window le

      evaluated : (s : StepHere d h r t) → EvaluatesOnce (machine d) (told_at dump (suc t)) (IsSingleAt d dump (suc t)) h p c s.to.start s.to.events
      evaluated s = laws.edge (dump.round (suc t)) (told_at dump (suc t)) (told_step d lawful h dump binds r is_run end shows laws.net laws.no_wake laws.write laws.edge t both.0 both.1 s.to) p c clean

      knows : (s : StepHere d h r t) → Agrees d (KnownOnEntry d h dump (suc t) p) (evaluated s).entry
      knows s x bits k = entry_agrees d lawful h dump binds r is_run end shows laws.net laws.no_wake laws.write laws.edge t p c s.to (clear_at d lawful h laws dump r binds is_run end shows t both.0) clean (evaluated s) x bits at_start
        where
          at_c : EntryFrom d h dump (suc t) (clear_before d h dump (suc t)) p c x bits
          at_c = subst (λ b. EntryFrom d h dump (suc t) (clear_before d h dump (suc t)) p b x bits) (clean.alone k.0 k.1.can_wake) k.2

          last : suc t - 1 ≡ t
          last = omega arith

          at_start : EntryFrom d h dump (suc t) (clear d h dump t) p c x bits
          at_start = subst (λ u. EntryFrom d h dump (suc t) (clear d h dump u) p c x bits) last at_c

      go : (settled d r (suc t) ≡ settled d r t) ⊎ StepHere d h r t → (k : StepOf r) × InWindow dump r k × (entry : Values Bit) × IsScored d r k p entry × Agrees d (KnownOnEntry d h dump (suc t) p) entry
      go (inl same) = absurd (clean_moves d lawful h dump binds r is_run end shows laws.net laws.no_wake laws.write laws.edge t p c both.0 both.1 clean same)
      go (inr s) =
          let one : evaluations (machine d) p (start_of d r s.step) s.step.step.events ≡ (evaluated s).entry ∷ [] = ap (λ es. evaluations (machine d) p (start_of d r s.step) es) (sym s.events) ∙ ap (λ u. evaluations (machine d) p u s.to.events) (sym s.start) ∙ (evaluated s).evaluated in
          (s.step, subst (IsWindow dump) (sym s.at) window, (evaluated s).entry, scored (process_at d p) clean.can_wake.0.0 c d r s.step p (evaluated s).entry clean.can_wake.0.1 (subst (In (evaluated s).entry) (sym one) (inl refl)), knows s)

  -- what a clean block visits from what it knows, it visits in the step
  clean_visits : (t p : ℕ) (c : Cell) (y : Visit) → IsWindow dump (suc t) → suc t ≤ end → IsCleanAt d dump (suc t) p c → VisitsFrom d (KnownOnEntry d h dump (suc t) p) (body_at d p) y → (k : StepOf r) × InWindow dump r k × VisitsIn d r k p y
  clean_visits t p c y window le clean from =
      let a = clean_acts t p c window le clean in
      (a.0, a.1, (a.2, a.3, upto_in (KnownOnEntry d h dump (suc t) p) y _ (visits_on_all d (KnownOnEntry d h dump (suc t) p) (body_at d p) y from a.2 a.4)))

  -- so the points that a clean block visits up to its first read outside are hit
  pub clean_hits : (t p : ℕ) (c : Cell) (x : Point) (y : Visit) → IsWindow dump t → t ≤ end → IsBlock d x p → IsCleanAt d dump t p c → IsVisitOf x y → VisitsFrom d (KnownOnEntry d h dump t p) (body_at d p) y → IsHit d dump r x
  clean_hits zero p c x y window le is_block clean is from = absurd (no_window d lawful h dump binds r is_run end shows laws.net laws.no_wake laws.write laws.edge window)
  clean_hits (suc t) p c x y window le is_block clean is from = let v = clean_visits t p c y window le clean from in hit_of d dump r x p y v.0 v.1 is_block is v.2
