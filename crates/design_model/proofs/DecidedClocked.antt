-- A point of Clocked blocks for which nothing is in doubt is hit in each run that shows the dump, or in none.
use Rattle.std.proofs.Common.{◌≡◌, ◌≢◌, inl, inr, ⊎_elim, ℕ, zero, suc, ◌-◌, false, List, [], ◌∷◌, ◌++◌, refl, sym, subst, arith}
use Rattle.event_machine.specs.Cell.{Cell, Values}
use Rattle.event_machine.specs.State.{State}
use Rattle.event_machine.specs.Event.{end_state}
use Rattle.event_machine.specs.Habit.{Habit}
use Rattle.event_machine.specs.Step.{IsStep}
use Rattle.event_machine.specs.Run.{AreSteps, Timed, step_start}
use Rattle.event_machine.specs.Laws.{EvaluatesOnce}
use Rattle.four_state.specs.declared.bit.Bit.{Bit}
use Rattle.design_model.specs.Tree.{Process, Stmt, assign, clocked, comb}
use Rattle.design_model.specs.Design.{Design, In, IsClocked, IsThing, Thing, a_signal, body_at, owner, process_at, thing_bits}
use Rattle.design_model.specs.Execution.{Visit, execution, execution_start, reads}
use Rattle.design_model.specs.Reads.{Agrees, HasValue, PartialMap, ReadsFrom, UpToOutside}
use Rattle.design_model.specs.Machine.{is_level, machine}
use Rattle.design_model.specs.Run.{IsRun, Run, StepOf, evaluations_of, settled, start_of, state_after_steps}
use Rattle.design_model.specs.Shows.{BoundDump, IsDumpOf, IsShown, IsWindow, Shows, ShowsUpTo}
use Rattle.design_model.specs.Scored.{IsScoredOf, VisitsIn}
use Rattle.design_model.specs.Points.{HitAt, IsBlock, Point, arc_point, line_point, logic_point, state_point, toggle_point, word_point}
use Rattle.design_model.specs.MayMove.{CanWakeSome, IsCleanAt, IsSingleAt, told_at}
use Rattle.design_model.specs.Clear.{EntryFrom, clear, clear_before}
use Rattle.design_model.specs.Open.{IsNotClean, IsOpenFor, IsVisitOf, KnownOnEntry}
use Rattle.design_model.specs.Doubt.{BlockDoubt, IsInDoubt, read_early, not_clean, of_block, unclear_at_start}
use Rattle.design_model.specs.Lawful.{IsLawfulDesign}
use Rattle.design_model.specs.DecidedLaw.{ClockedDecidedLaw, IsBlockPoint}
use Rattle.design_model.proofs.BlockVisits.{all_inside, hit_visit, same_visit, upto_thing, visit_hit}
use Rattle.design_model.proofs.ForcedSound.{clear_at}
use Rattle.design_model.proofs.Hits.{step_here}
use Rattle.design_model.proofs.ReadThings.{execute_things}
use Rattle.design_model.proofs.Sound.{IsSeen, clean_moves, entry_agrees, told_step}
use Rattle.design_model.proofs.StepLaws.{StepLaws}
use Rattle.design_model.proofs.Times.{StepTo}
use Rattle.design_model.proofs.Stretches.{no_window_at, window_shown_at}
use Rattle.design_model.proofs.Toggles.{end_values, split_steps, start_values}
use Rattle.design_model.proofs.VisitedOpen.{visited_open}

no_level : (x : Process) → IsClocked x → (y : ℕ) → is_level x y ≡ false
no_level (assign i t v c) h y = absurd h
no_level (comb i wakes s) h y = absurd h
no_level (clocked i events s) h y = refl

to_scored : (x : Process) (d : Design) (r : Run) (k : StepOf r) (p : ℕ) (v : Values Bit) → IsClocked x → In v (evaluations_of d r k p) → IsScoredOf x d r k p v
to_scored (assign i t y c) d r k p v is h = absurd is
to_scored (comb i wakes s) d r k p v is h = absurd is
to_scored (clocked i events s) d r k p v is h = h

from_scored : (x : Process) (d : Design) (r : Run) (k : StepOf r) (p : ℕ) (v : Values Bit) → IsClocked x → IsScoredOf x d r k p v → In v (evaluations_of d r k p)
from_scored (assign i t y c) d r k p v is h = absurd is
from_scored (comb i wakes s) d r k p v is h = absurd is
from_scored (clocked i events s) d r k p v is h = h

-- a step of a run is one of the machine
pub step_of : (d : Design) (h : Habit) (now : ℕ) (s : State Bit) (before : List (Timed Bit)) (x : Timed Bit) (later : List (Timed Bit)) → AreSteps (machine d) h now s (before ++ x ∷ later) → IsStep (machine d) h (state_after_steps d s before) x.events
step_of d h now s [] x later steps = steps.1
step_of d h now s (y ∷ before) x later steps = step_of d h y.time (step_start (end_state (machine d) s y.events)) before x later steps.2

module _ (d : Design) (lawful : IsLawfulDesign d) (h : Habit) (laws : StepLaws (machine d) h) (dump : BoundDump) (fits : IsDumpOf d dump) (t : ℕ) (window : IsWindow dump (suc t)) (r : Run) (is_run : IsRun d h r) (shows : Shows d dump r) where
  shown : IsShown dump t × IsShown dump (suc t)
  shown = window_shown_at dump.stretches t window

  up_to : ShowsUpTo d dump r (suc t)
  up_to = record { starts = shows.starts; shows = λ u seen before. shows.shows u seen }

  now : IsSeen dump (suc t) t
  now = (shown.0, omega arith)

  next : IsSeen dump (suc t) (suc t)
  next = (shown.1, omega arith)

  abbrev step_to : (k : StepOf r) → k.step.time ≡ suc t → StepTo (machine d) h (settled d r t) (settled d r (suc t))
  step_to k at =
      record {
        start = start_of d r k;
        events = k.step.events;
        is_step = step_of d h r.begins r.start k.before k.step k.later (split_steps d h r is_run k);
        starts = start_values d h r is_run k t at;
        ends = end_values d h r is_run k (suc t) at;
      }

  -- a Clocked that cannot wake has no evaluation
  pub none_unwoken : (k : StepOf r) → k.step.time ≡ suc t → (p : ℕ) → IsClocked (process_at d p) → (CanWakeSome d dump (suc t) p → ⊥) → evaluations_of d r k p ≡ []
  none_unwoken k at p is_clocked never =
      let s : StepTo (machine d) h (settled d r t) (settled d r (suc t)) = step_to k at in
      laws.no_wake (dump.round (suc t)) h (told_at dump (suc t)) (told_step d lawful h dump fits.signals r is_run (suc t) up_to laws.net laws.no_wake laws.write laws.edge t now next s) p (no_level (process_at d p) is_clocked) (λ b wakes. never (b, wakes))

  module _ (p : ℕ) (c : Cell) (clean : IsCleanAt d dump (suc t) p c) where
    pub once : (k : StepOf r) (at : k.step.time ≡ suc t) → EvaluatesOnce (machine d) (told_at dump (suc t)) (IsSingleAt d dump (suc t)) h p c (start_of d r k) k.step.events
    once k at =
        let s : StepTo (machine d) h (settled d r t) (settled d r (suc t)) = step_to k at in
        laws.edge (dump.round (suc t)) (told_at dump (suc t)) (told_step d lawful h dump fits.signals r is_run (suc t) up_to laws.net laws.no_wake laws.write laws.edge t now next s) p c clean

    -- on entry it has what it knows
    pub knows : (k : StepOf r) (at : k.step.time ≡ suc t) → Agrees d (KnownOnEntry d h dump (suc t) p) (once k at).entry
    knows k at x bits known = entry_agrees d lawful h dump fits.signals r is_run (suc t) up_to laws.net laws.no_wake laws.write laws.edge t p c (step_to k at) (clear_at d lawful h laws dump r fits.signals is_run (suc t) up_to t now) clean (once k at) x bits at_start
      where
        at_c : EntryFrom d h dump (suc t) (clear_before d h dump (suc t)) p c x bits
        at_c = subst (λ b. EntryFrom d h dump (suc t) (clear_before d h dump (suc t)) p b x bits) (clean.alone known.0 known.1.can_wake) known.2

        last : suc t - 1 ≡ t
        last = omega arith

        at_start : EntryFrom d h dump (suc t) (clear d h dump t) p c x bits
        at_start = subst (λ u. EntryFrom d h dump (suc t) (clear d h dump u) p c x bits) last at_c

    -- it has a step
    pub a_step : (k : StepOf r) × (k.step.time ≡ suc t)
    a_step =
        ⊎_elim
        (λ same. absurd (clean_moves d lawful h dump fits.signals r is_run (suc t) up_to laws.net laws.no_wake laws.write laws.edge t p c now next clean same))
        (λ s. (s.step, s.at))
        (step_here d h r is_run t)

pub no_time_hit : (d : Design) (x : Point) → IsBlockPoint d x → (r : Run) (t : ℕ) → HitAt d r t x → ⊥
no_time_hit d (line_point p n at w) is r t hit = hit
no_time_hit d (logic_point p n at op c) is r t hit = hit
no_time_hit d (word_point m i w) is r t hit = hit
no_time_hit d (toggle_point s i rise) is r t hit = is
no_time_hit d (state_point i name s state y) is r t hit = is
no_time_hit d (arc_point i name s from to y z) is r t hit = is

module _ (d : Design) (lawful : IsLawfulDesign d) (h : Habit) (laws : StepLaws (machine d) h) (x : Point) (dump : BoundDump) (fits : IsDumpOf d dump) (t : ℕ) (window : IsWindow dump (suc t)) (none : (s : ℕ) → IsInDoubt d h dump x (suc t) s → ⊥) (r q : Run) (r_run : IsRun d h r) (q_run : IsRun d h q) (r_shows : Shows d dump r) (q_shows : Shows d dump q) (p : ℕ) (is_clocked : IsClocked (process_at d p)) (is_block : IsBlock d x p) (k : StepOf r) (at : k.step.time ≡ suc t) (y : Visit) (is : IsVisitOf x y) (visits : VisitsIn d r k p y) (other : (kq : StepOf q) → kq.step.time ≡ suc t → VisitsIn d q kq p y → ⊥) where
  abbrev v : Values Bit
  v = visits.0

  abbrev b : Stmt
  b = body_at d p

  abbrev K : PartialMap
  K = KnownOnEntry d h dump (suc t) p

  evaluated : In visits.0 (evaluations_of d r k p)
  evaluated = from_scored (process_at d p) d r k p visits.0 is_clocked visits.1

  module _ (wakes : CanWakeSome d dump (suc t) p) (c : Cell) (clean : IsCleanAt d dump (suc t) p c) where
    is_entry : (once d lawful h laws dump fits t window r r_run r_shows p c clean k at).entry ≡ visits.0
    is_entry =
        ⊎_elim (λ e. e) (λ n. absurd n) (subst (In visits.0) (once d lawful h laws dump fits t window r r_run r_shows p c clean k at).evaluated evaluated)

    agrees : Agrees d (KnownOnEntry d h dump (suc t) p) visits.0
    agrees = subst (Agrees d (KnownOnEntry d h dump (suc t) p)) is_entry (knows d lawful h laws dump fits t window r r_run r_shows p c clean k at)

    open_for : IsOpenFor d h dump (suc t) p x
    open_for = inl (wakes, inr (visited_open d (KnownOnEntry d h dump (suc t) p) (body_at d p) visits.0 agrees x y is visits.2))

    doubt : (s : ℕ) → BlockDoubt d h dump (suc t) s p → ⊥
    doubt s why = none s (of_block p window is_block open_for why)

    -- what it reads from outside would be in doubt
    outside : (z : Thing) → UpToOutside (KnownOnEntry d h dump (suc t) p) (reads z false) (execution d (body_at d p) visits.0).visits → (HasValue (KnownOnEntry d h dump (suc t) p) z → ⊥) → ⊥
    outside z upto unknown = unclear (λ has. unknown (has.0, (c, clean, inr (apart c clean, (λ e. doubt (owner z) (read_early (record { thing = z; trigger = c; of_owner = refl; is_clean = clean; is_read = from; is_early = e }))), has.1))))
      where
        from : ReadsFrom d (KnownOnEntry d h dump (suc t) p) (body_at d p) z
        from = inl (visits.0, agrees, upto)

        thing : IsThing d z
        thing = upto_thing d (KnownOnEntry d h dump (suc t) p) z (execution d (body_at d p) visits.0).visits (execute_things d (body_at d p) (lawful.bodies p) (execution_start visits.0) tt) upto

        apart : (e : Cell) → IsCleanAt d dump (suc t) p e → z ≢ a_signal e.thing
        apart e clean_e same = unknown (thing_bits d (dump.values (suc t)) z, (e, clean_e, inl (same, refl)))

        unclear : (HasValue (clear_before d h dump (suc t)) z → ⊥) → ⊥
        unclear u = doubt (owner z) (unclear_at_start (record { thing = z; is_thing = thing; of_owner = refl; can_wake = wakes; is_read = from; no_trigger = apart; unclear = u }))

    pub differ : ⊥
    differ =
        let s = a_step d lawful h laws dump fits t window q q_run q_shows p c clean in
        let o = once d lawful h laws dump fits t window q q_run q_shows p c clean s.0 s.1 in
        all_inside (KnownOnEntry d h dump (suc t) p) (execution d (body_at d p) visits.0).visits outside
        (λ inside. other s.0 s.1 (
          o.entry,
          to_scored (process_at d p) d q s.0 p o.entry is_clocked (subst (In o.entry) (sym o.evaluated) (inl refl)),
          same_visit d (KnownOnEntry d h dump (suc t) p) (body_at d p) visits.0 o.entry agrees (knows d lawful h laws dump fits t window q q_run q_shows p c clean s.0 s.1) inside y visits.2,
        ))

  pub decided_block : ⊥
  decided_block = woken (λ wakes. is_not_clean wakes (λ c clean. differ wakes c clean))
    where
      woken : (CanWakeSome d dump (suc t) p → ⊥) → ⊥
      woken never = subst (In visits.0) (none_unwoken d lawful h laws dump fits t window r r_run r_shows k at p is_clocked never) evaluated

      is_not_clean : CanWakeSome d dump (suc t) p → IsNotClean d dump (suc t) p → ⊥
      is_not_clean wakes unclean = none wakes.0.thing (of_block p window is_block (inl (wakes, inl unclean)) (not_clean (record { event = wakes.0; of_signal = refl; can_wake = wakes.1; not_clean = unclean })))

pub clocked_decided_law : (d : Design) (h : Habit) → IsLawfulDesign d → StepLaws (machine d) h → ClockedDecidedLaw d h
clocked_decided_law d h lawful laws x point blocks dump r q fits r_run q_run r_shows q_shows zero window none hit other = no_window_at dump.stretches window
clocked_decided_law d h lawful laws x point blocks dump r q fits r_run q_run r_shows q_shows (suc t) window none (inr a) other = no_time_hit d x point r (suc t) a.1
clocked_decided_law d h lawful laws x point blocks dump r q fits r_run q_run r_shows q_shows (suc t) window none (inl k) other =
    let o = hit_visit d r k.0 x point k.2 in
    decided_block d lawful h laws x dump fits t window none r q r_run q_run r_shows q_shows o.process (blocks o.process o.is_block) o.is_block k.0 k.1 o.visit o.is o.visits (λ kq at visits. other (inl (kq, at, visit_hit d q kq x o.process o.visit o.is_block o.is visits)))
