-- The laws of the machine, joined to the steps of a run that shows the dump up to a time.
use Rattle.std.proofs.Common.{◌≡◌, ◌⊎◌, inl, inr, ⊎_elim, ℕ, suc, ◌-◌, ◌<◌, true, List, [], ◌∷◌, ◌++◌, append-nil, refl, sym, ap, subst, ◌∙◌, arith}
use Rattle.std.proofs.lemmas.Bool.{and_parts, ltb-true, both_ways}
use Rattle.event_machine.specs.Cell.{Cell, Values, put_all}
use Rattle.event_machine.specs.Machine.{Edge as MachineEdge, IsTarget, output}
use Rattle.event_machine.specs.State.{State}
use Rattle.event_machine.specs.Event.{Event, end_state}
use Rattle.event_machine.specs.Habit.{Habit}
use Rattle.event_machine.specs.Run.{AreSteps, Timed, step_start}
use Rattle.event_machine.specs.Step.{IsStep, evaluations, outputs}
use Rattle.event_machine.specs.Told.{IsAsTold, IsToldCell}
use Rattle.event_machine.specs.ToldStep.{ToldStep}
use Rattle.event_machine.specs.Laws.{EvaluatesOnce, EvaluatesSettled, IsIdle}
use Rattle.event_machine.proofs.Rest.{no_event_law}  -- #keep
use Rattle.event_machine.proofs.Rounds.{single_told}  -- #keep
use Rattle.four_state.specs.declared.bit.Bit.{Bit}
use Rattle.design_model.specs.Design.{Design, IsClocked, body_at, process_at, signal_at}
use Rattle.design_model.specs.Mentions.{may_write}
use Rattle.design_model.specs.Reads.{Agrees}
use Rattle.design_model.specs.Machine.{machine}
use Rattle.design_model.specs.Run.{IsRun, Run, StepOf, settled, start_of, state_after_steps}
use Rattle.design_model.specs.Shows.{BindsSignals, BoundDump, IsDumpOf, IsListed, IsShowing, IsShown, IsWindow, SameBound}
use Rattle.design_model.specs.MayMove.{CanWakeSome, IsCleanAt, IsSingleAt, MayMoveAt, told_at}
use Rattle.design_model.specs.Clear.{EntryFrom, clear, clear_before}
use Rattle.design_model.specs.Open.{KnownOnEntry}
use Rattle.design_model.specs.Lawful.{IsLawfulDesign}
use Rattle.design_model.specs.StepLaws.{AreKept, AssignQueuesLaw, CleanEvaluation, CleanStepLaw, EventFacts, EventFactsLaw, IsLeft, StepFacts, StepFactsLaw, UnlistedLaw}
use Rattle.design_model.proofs.Assigns.{machine_lawful}
use Rattle.design_model.proofs.ForcedSound.{clear_at}
use Rattle.design_model.proofs.Hits.{step_here}
use Rattle.design_model.proofs.Lawful.{any_gives, may_any, place_from}
use Rattle.design_model.proofs.Sound.{entry_agrees, no_level, no_queue, pick_cell}
use Rattle.design_model.proofs.StepLaws.{StepLaws}
use Rattle.design_model.proofs.Times.{StepTo}
use Rattle.design_model.proofs.Stretches.{window_shown_at}
use Rattle.design_model.proofs.Toggles.{end_values, split_steps, start_values}
use Rattle.design_model.proofs.Untouched.{untouched}

module _ (d : Design) (h : Habit) where
  pub is_step_at : (now : ℕ) (s : State Bit) (before : List (Timed Bit)) (x : Timed Bit) (later : List (Timed Bit)) → AreSteps (machine d) h now s (before ++ x ∷ later) → IsStep (machine d) h (state_after_steps d s before) x.events
  is_step_at now s [] x later steps = steps.1
  is_step_at now s (y ∷ before) x later steps = is_step_at y.time (step_start (end_state (machine d) s y.events)) before x later steps.2

  -- a step at suc t takes the settled values of t to those of suc t
  abbrev pub step_to : (r : Run) → IsRun d h r → (k : StepOf r) (t : ℕ) → k.step.time ≡ suc t → StepTo (machine d) h (settled d r t) (settled d r (suc t))
  step_to r is_run k t at =
      record {
        start = start_of d r k;
        events = k.step.events;
        is_step = is_step_at r.begins r.start k.before k.step k.later (split_steps d h r is_run k);
        starts = start_values d h r is_run k t at;
        ends = end_values d h r is_run k (suc t) at;
      }

module _ (d : Design) (lawful : IsLawfulDesign d) (h : Habit) (laws : StepLaws (machine d) h) (dump : BoundDump) (binds : BindsSignals d dump) (r : Run) (is_run : IsRun d h r) (t : ℕ) (old : SameBound d dump (settled d r t) t) (new : SameBound d dump (settled d r (suc t)) (suc t)) where
  old_at : (c : Cell) → dump.bound c.thing ≡ true → c.place < (signal_at d c.thing).width → settled d r t c ≡ dump.values t c
  old_at c bound range = pick_cell d (settled d r t) (dump.values t) c (old c.thing bound) range

  new_at : (c : Cell) → dump.bound c.thing ≡ true → c.place < (signal_at d c.thing).width → settled d r (suc t) c ≡ dump.values (suc t) c
  new_at c bound range = pick_cell d (settled d r (suc t)) (dump.values (suc t)) c (new c.thing bound) range

  back : suc t - 1 ≡ t
  back = omega arith

  told_range : (c : Cell) → IsToldCell (machine d) (told_at dump (suc t)) c → c.place < (signal_at d c.thing).width
  told_range c told =
      ⊎_elim (λ input. ltb-true _ _ (and_parts (signal_at d c.thing).input _ input).1)
      (λ target. any_gives (λ x y w. may_write d y c) _ (λ x y w e. place_from d y c (binds c.thing told.0) e) (body_at d target.0) (may_any d (body_at d target.0) c target.1)) told.1

  -- the step has the values that the dump gives
  pub as_told : (s : StepTo (machine d) h (settled d r t) (settled d r (suc t))) → IsAsTold (machine d) (told_at dump (suc t)) s.start s.events
  as_told s c told =
      (ap (λ f. f c) s.starts ∙ old_at c told.0 (told_range c told) ∙ ap (λ y. dump.values y c) (sym back), ap (λ f. f c) s.ends ∙ new_at c told.0 (told_range c told))

  abbrev pub told_step : StepTo (machine d) h (settled d r t) (settled d r (suc t)) → ToldStep (machine d) h (told_at dump (suc t))
  told_step s = record { start = s.start; events = s.events; is_step = s.is_step; as_told = as_told s }

  -- over a time at which a block is clean the settled values change
  pub clean_moves : (p : ℕ) (c : Cell) → IsCleanAt d dump (suc t) p c → settled d r (suc t) ≡ settled d r t → ⊥
  clean_moves p c clean same =
      let is_told : IsToldCell (machine d) (told_at dump (suc t)) c = single_told (machine d) (told_at dump (suc t)) (dump.round (suc t)) c clean.is_single in
      let range : c.place < (signal_at d c.thing).width = told_range c is_told in
      let e : MachineEdge = clean.can_wake.0.0 in
      let same_bits : (told_at dump (suc t)).old c ≡ (told_at dump (suc t)).new c = ap (λ y. dump.values y c) back ∙ sym (old_at c is_told.0 range) ∙ ap (λ f. f c) (sym same) ∙ new_at c is_told.0 range in
      let goes : (machine d).is_edge e ((told_at dump (suc t)).old c) ((told_at dump (suc t)).new c) ≡ true = clean.can_wake.0.2 clean.is_single in
      both_ways _ ((machine_lawful d lawful).edge_changes e ((told_at dump (suc t)).new c)) (subst (λ b. (machine d).is_edge e b ((told_at dump (suc t)).new c) ≡ true) same_bits goes)

  -- with a step
  module _ (s : StepTo (machine d) h (settled d r t) (settled d r (suc t))) where
    from : (c : Cell) → s.start.values c ≡ settled d r t c
    from c = ap (λ f. f c) s.starts

    to : (c : Cell) → (end_state (machine d) s.start s.events).values c ≡ settled d r (suc t) c
    to c = ap (λ f. f c) s.ends

    pub unmoved_events : (c : Cell) → (MayMoveAt d dump (suc t) c.thing → ⊥) → (before after : List (Event Bit)) → s.events ≡ before ++ after → (end_state (machine d) s.start before).values c ≡ settled d r t c
    unmoved_events c never before after splits = laws.unchanged (dump.round (suc t)) h (told_at dump (suc t)) (told_step s) c never before after splits ∙ from c

    step_unmoved : (c : Cell) → (MayMoveAt d dump (suc t) c.thing → ⊥) → settled d r (suc t) c ≡ settled d r t c
    step_unmoved c never = sym (to c) ∙ unmoved_events c never s.events [] (sym (append-nil s.events))

    pub once : (p : ℕ) (c : Cell) → IsCleanAt d dump (suc t) p c → EvaluatesOnce (machine d) (told_at dump (suc t)) (IsSingleAt d dump (suc t)) h p c s.start s.events
    once p c clean = laws.edge (dump.round (suc t)) (told_at dump (suc t)) (told_step s) p c clean

    pub step_clean : (p : ℕ) (c : Cell) → IsCleanAt d dump (suc t) p c → CleanEvaluation d h dump t (settled d r t) (settled d r (suc t)) p c
    step_clean p c clean =
        let one = once p c clean in
        record {
          entry = one.entry;
          trigger = one.trigger;
          inputs = λ b input bound. ⊎_elim (λ e. inl (e ∙ ap (λ y. dump.values y b) back)) (λ e. inr e) (one.inputs b (input, bound));
          others = λ b apart late. one.others b apart late ∙ from b;
          leaves = λ b target. sym (to b) ∙ one.leaves b target ∙ ap (λ f. put_all f (output (machine d) p one.entry) b) s.starts;
        }

    -- the same, as the one evaluation of the block
    pub step_entry : (p : ℕ) (c : Cell) → IsCleanAt d dump (suc t) p c → (o : CleanEvaluation d h dump t (settled d r t) (settled d r (suc t)) p c) × (evaluations (machine d) p s.start s.events ≡ o.entry ∷ [])
    unfolding step_clean once
    step_entry p c clean = (step_clean p c clean, (once p c clean).evaluated)

    pub step_asleep : (p : ℕ) → IsClocked (process_at d p) → (CanWakeSome d dump (suc t) p → ⊥) → evaluations (machine d) p s.start s.events ≡ []
    step_asleep p is_clocked never =
        laws.no_wake (dump.round (suc t)) h (told_at dump (suc t)) (told_step s) p (no_level (process_at d p) is_clocked) (λ b can. never (b, can))

    -- what a process writes, by its evaluations
    written : (p : ℕ) (vs : List (Values Bit)) → evaluations (machine d) p s.start s.events ≡ vs → (c : Cell) → IsTarget (machine d) p c → settled d r (suc t) c ≡ put_all (settled d r t) (outputs (machine d) p vs) c
    written p vs are c target =
        sym (to c) ∙ laws.write h s.start s.events s.is_step p c target ∙ ap (λ xs. put_all s.start.values (outputs (machine d) p xs) c) are ∙ ap (λ f. put_all f (outputs (machine d) p vs) c) s.starts

    step_settles : (p : ℕ) → IsLeft d p (settled d r (suc t)) ⊎ AreKept d p (settled d r t) (settled d r (suc t))
    step_settles p = ⊎_elim left idle (laws.idle h s.start s.events s.is_step p)
      where
        left : EvaluatesSettled (machine d) p s.start s.events → IsLeft d p (settled d r (suc t)) ⊎ AreKept d p (settled d r t) (settled d r (suc t))
        left e = inl (record { entry = e.entry; wakes = λ c wake. e.settled c wake ∙ to c; leaves = λ c target. sym (to c) ∙ e.leaves c target })

        idle : IsIdle (machine d) p s.start s.events → IsLeft d p (settled d r (suc t)) ⊎ AreKept d p (settled d r t) (settled d r (suc t))
        idle e = inr (record { sensitive = λ c level. sym (to c) ∙ e.kept c level ∙ from c; targets = λ c target. written p [] e.not_evaluated c (inl target) })

    step_facts : StepFacts d h dump t (settled d r t) (settled d r (suc t))
    step_facts =
        record {
          old = old_at;
          new = new_at;
          unmoved = step_unmoved;
          clean = step_clean;
          evaluated = λ p. (evaluations (machine d) p s.start s.events, written p (evaluations (machine d) p s.start s.events) refl);
          asleep = λ p is_clocked never. written p [] (step_asleep p is_clocked never);
          unwritten = λ c outside nobody. sym (to c) ∙ untouched (machine d) (machine_lawful d lawful) c outside nobody h s.start s.events s.is_step ∙ from c;
          settles = step_settles;
        }

  -- without one
  still_facts : settled d r (suc t) ≡ settled d r t → StepFacts d h dump t (settled d r t) (settled d r (suc t))
  still_facts same =
      record {
        old = old_at;
        new = new_at;
        unmoved = λ c never. ap (λ f. f c) same;
        clean = λ p c clean. absurd (clean_moves p c clean same);
        evaluated = λ p. ([], λ c target. ap (λ f. f c) same);
        asleep = λ p is_clocked never c target. ap (λ f. f c) same;
        unwritten = λ c outside nobody. ap (λ f. f c) same;
        settles = λ p. inr (record { sensitive = λ c level. ap (λ f. f c) same; targets = λ c target. ap (λ f. f c) same });
      }

  pub facts : StepFacts d h dump t (settled d r t) (settled d r (suc t))
  facts = ⊎_elim still_facts (λ s. step_facts s.to) (step_here d h r is_run t)

module _ (d : Design) (lawful : IsLawfulDesign d) (h : Habit) (laws : StepLaws (machine d) h) where
  module _ (dump : BoundDump) (r : Run) (t : ℕ) (binds : BindsSignals d dump) (showing : IsShowing d h dump (suc t) r) (window : IsWindow dump (suc t)) where
    shown : IsShown dump t × IsShown dump (suc t)
    shown = window_shown_at dump.stretches t window

    old : SameBound d dump (settled d r t) t
    old = showing.shows.shows t shown.0 (omega arith)

    new : SameBound d dump (settled d r (suc t)) (suc t)
    new = showing.shows.shows (suc t) shown.1 (omega arith)

    module _ (k : StepOf r) (at : k.step.time ≡ suc t) where
      abbrev s : StepTo (machine d) h (settled d r t) (settled d r (suc t))
      s = step_to d h r showing.is_run k t at

      knows : (p : ℕ) (c : Cell) → IsCleanAt d dump (suc t) p c → (evaluated : EvaluatesOnce (machine d) (told_at dump (suc t)) (IsSingleAt d dump (suc t)) h p c (start_of d r k) k.step.events) → Agrees d (KnownOnEntry d h dump (suc t) p) evaluated.entry
      knows p c clean evaluated x bits known =
          entry_agrees d lawful h dump binds r showing.is_run (suc t) showing.shows laws.net laws.no_wake laws.write laws.edge t p c s (clear_at d lawful h laws dump r binds showing.is_run (suc t) showing.shows t (shown.0, omega arith)) clean evaluated x bits at_start
        where
          at_c : EntryFrom d h dump (suc t) (clear_before d h dump (suc t)) p c x bits
          at_c = subst (λ b. EntryFrom d h dump (suc t) (clear_before d h dump (suc t)) p b x bits) (clean.alone known.0 known.1.can_wake) known.2

          last : suc t - 1 ≡ t
          last = omega arith

          at_start : EntryFrom d h dump (suc t) (clear d h dump t) p c x bits
          at_start = subst (λ u. EntryFrom d h dump (suc t) (clear d h dump u) p c x bits) last at_c

      event_facts : EventFacts d h dump r t k
      unfolding step_clean once
      event_facts =
          record {
            start = s.starts;
            ends = s.ends;
            unmoved = unmoved_events d lawful h laws dump binds r showing.is_run t old new s;
            clean = λ p c clean.
                let one = once d lawful h laws dump binds r showing.is_run t old new s p c clean in
                record { once = step_clean d lawful h laws dump binds r showing.is_run t old new s p c clean; evaluated = one.evaluated; knows = knows p c clean one };
            asleep = step_asleep d lawful h laws dump binds r showing.is_run t old new s;
            settles = laws.idle h s.start s.events s.is_step;
            woken = λ p c wake changes. laws.settled h s.start s.events s.is_step p c wake (λ e. changes (sym (ap (λ f. f c) s.ends) ∙ e ∙ ap (λ f. f c) s.starts));
          }

  pub facts_law : StepFactsLaw d h
  facts_law dump r t binds showing window = facts d lawful h laws dump binds r showing.is_run t (old dump r t binds showing window) (new dump r t binds showing window)

  pub event_law : EventFactsLaw d h
  event_law dump r t binds showing window k at = event_facts dump r t binds showing window k at

  pub clean_step_law : CleanStepLaw d h
  clean_step_law dump r t binds showing window p c clean =
      ⊎_elim
      (λ same. absurd (clean_moves d lawful h laws dump binds r showing.is_run t (old dump r t binds showing window) (new dump r t binds showing window) p c clean same))
      (λ s. (s.step, s.at))
      (step_here d h r showing.is_run t)

  -- a step at a time that the dump does not list has no events
  no_events : (dump : BoundDump) (r : Run) (t : ℕ) → IsDumpOf d dump → IsShowing d h dump (suc t) r → IsWindow dump (suc t) → (IsListed dump (suc t) → ⊥) → (s : StepTo (machine d) h (settled d r t) (settled d r (suc t))) → s.events ≡ []
  no_events dump r t fits showing window unlisted s =
      no_event_law (machine d) (machine_lawful d lawful) h (told_at dump (suc t))
      (told_step d lawful h laws dump fits.signals r showing.is_run t (old dump r t fits.signals showing window) (new dump r t fits.signals showing window) s)
      (λ c input. (fits.inputs c input, ap (λ y. dump.values y c) back_one ∙ ap (λ f. f c) (sym (fits.stays t unlisted))))
    where
      back_one : suc t - 1 ≡ t
      back_one = omega arith

  pub unlisted_law : UnlistedLaw d h
  unlisted_law dump r t fits showing window unlisted =
      (⊎_elim (λ same. same) (λ s. over s.to (no_events dump r t fits showing window unlisted s.to)) (step_here d h r showing.is_run t), λ k at. no_events dump r t fits showing window unlisted (step_to d h r showing.is_run k t at))
    where
      over : (s : StepTo (machine d) h (settled d r t) (settled d r (suc t))) → s.events ≡ [] → settled d r (suc t) ≡ settled d r t
      over s none = sym s.ends ∙ ap (λ es. (end_state (machine d) s.start es).values) none ∙ s.starts

pub assign_queues_law : (d : Design) → AssignQueuesLaw d
assign_queues_law d p v assign = no_queue d (process_at d p) v assign
