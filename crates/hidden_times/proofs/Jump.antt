-- Over a window time and the hidden times that are the same time the settled values change as over one step.
use Rattle.std.proofs.Common.{◌≡◌, ◌⊎◌, inl, inr, ⊎_elim, ℕ, zero, suc, ◌+◌, ◌-◌, ◌≤◌, List, [], ◌∷◌, ◌++◌, append_assoc, refl, sym, ap, subst, ◌∙◌, arith}
use Rattle.event_machine.specs.Cell.{Cell, Values, put_all}
use Rattle.event_machine.specs.Habit.{Habit}
use Rattle.event_machine.specs.Machine.{Machine, output}
use Rattle.event_machine.specs.Step.{outputs}
use Rattle.design_model.specs.four_state.declared.bit.Bit.{Bit}
use Rattle.design_model.specs.Design.{Design}
use Rattle.design_model.specs.Lawful.{IsLawfulDesign}
use Rattle.design_model.specs.Machine.{machine}
use Rattle.design_model.specs.MayMove.{AreLastRounds}
use Rattle.design_model.specs.Run.{Run, settled}
use Rattle.design_model.specs.Shows.{BoundDump, IsShowing, IsWindow}
use Rattle.design_model.specs.StepLaws.{AreKept, IsLeft, StepFacts}
use Rattle.design_model.proofs.Assigns.{machine_lawful}
use Rattle.design_model.proofs.StepFacts.{facts_law}
use Rattle.design_model.proofs.StepLaws.{step_laws}
use Rattle.design_model.proofs.WithinMap.{put_append, put_same}
use Rattle.hidden_times.specs.Hidden.{IsAnyDumpOf, IsHiddenOn, IsSameTime}
use Rattle.hidden_times.specs.Laws.{AreSameSets, JumpLaw}
use Rattle.hidden_times.proofs.Clear.{hidden_to, window_of}
use Rattle.hidden_times.proofs.Quiet.{no_clean_law}
use Rattle.hidden_times.proofs.Sets.{same_sets}
use Rattle.hidden_times.proofs.Values.{at_last}

outputs_append : {V : Type 0} (m : Machine V) (p : ℕ) (us vs : List (Values V)) → outputs m p (us ++ vs) ≡ outputs m p us ++ outputs m p vs
outputs_append m p [] vs = refl
outputs_append m p (u ∷ us) vs = ap (λ ws. output m p u ++ ws) (outputs_append m p us vs) ∙ sym (append_assoc (output m p u) (outputs m p us) (outputs m p vs))

-- a run that shows the dump up to a time shows it up to an earlier one
pub shows_before : (d : Design) (h : Habit) (dump : BoundDump) (u v : ℕ) (r : Run) → u ≤ v → IsShowing d h dump v r → IsShowing d h dump u r
shows_before d h dump u v r le showing =
    record { is_run = showing.is_run; shows = record { starts = showing.shows.starts; shows = λ s shown before. showing.shows.shows s shown (omega (arith, before, le)) } }

module _ (d : Design) (p : ℕ) (u m w : Values Bit) where
  left_on : AreKept d p m w → IsLeft d p m → IsLeft d p w
  left_on kept left =
      record {
        entry = left.entry;
        wakes = λ c wake. left.wakes c wake ∙ sym (kept.sensitive c wake.0);
        leaves = λ c target. kept.targets c target ∙ left.leaves c target;
      }

  kept_on : AreKept d p u m → AreKept d p m w → AreKept d p u w
  kept_on first second =
      record { sensitive = λ c level. second.sensitive c level ∙ first.sensitive c level; targets = λ c target. second.targets c target ∙ first.targets c target }

  -- each left or kept over two steps, so is it over both
  settles_on : IsLeft d p m ⊎ AreKept d p u m → IsLeft d p w ⊎ AreKept d p m w → IsLeft d p w ⊎ AreKept d p u w
  settles_on first second = ⊎_elim (λ left. inl left) (λ kept. ⊎_elim (λ left. inl (left_on kept left)) (λ before. inr (kept_on before kept)) first) second

  -- what evaluations in a first step, and then in a second, leave of a cell
  written_on : (us vs : List (Values Bit)) (c : Cell) → m c ≡ put_all u (outputs (machine d) p us) c → w c ≡ put_all m (outputs (machine d) p vs) c → w c ≡ put_all u (outputs (machine d) p (us ++ vs)) c
  written_on us vs c first second =
      second
      ∙ put_same m (put_all u (outputs (machine d) p us)) (outputs (machine d) p vs) c first
      ∙ ap (λ f. f c) (sym (put_append u (outputs (machine d) p us) (outputs (machine d) p vs)))
      ∙ ap (λ ws. put_all u ws c) (sym (outputs_append (machine d) p us vs))

module _ (d : Design) (h : Habit) (lawful : IsLawfulDesign d) (dump : BoundDump) (any : IsAnyDumpOf d dump) (rounds : AreLastRounds d dump) (r : Run) (t : ℕ) where
  -- one hidden step more
  join_facts : (v : ℕ) → IsHiddenOn dump (suc t) (suc v) → StepFacts d h dump t (settled d r t) (settled d r v) → StepFacts d h dump v (settled d r v) (settled d r (suc v)) → StepFacts d h dump t (settled d r t) (settled d r (suc v))
  join_facts v hidden a b =
      let sets : AreSameSets d dump (suc t) (suc v) = same_sets d dump any rounds (suc t) (suc v) hidden in
      record {
        old = a.old;
        new = λ c bound below. b.new c bound below ∙ ap (λ f. f c) (at_last dump any.stays (suc t) (suc v) hidden);
        unmoved = λ c still. b.unmoved c (λ moves. still ((sets.may_move c.thing).0 moves)) ∙ a.unmoved c still;
        clean = λ p c is. absurd (no_clean_law d lawful dump any (suc t) hidden.first (hidden.none (suc t) (omega arith) hidden.later) p c is);
        evaluated = λ p. (
          (a.evaluated p).0 ++ (b.evaluated p).0,
          λ c target. written_on d p (settled d r t) (settled d r v) (settled d r (suc v)) (a.evaluated p).0 (b.evaluated p).0 c ((a.evaluated p).1 c target) ((b.evaluated p).1 c target),
        );
        asleep = λ p clocked cannot c target. b.asleep p clocked (λ wakes. cannot (wakes.0, (sets.can_wake wakes.0 p).0 wakes.1)) c target ∙ a.asleep p clocked cannot c target;
        unwritten = λ c outside never. b.unwritten c outside never ∙ a.unwritten c outside never;
        settles = λ p. settles_on d p (settled d r t) (settled d r v) (settled d r (suc v)) (a.settles p) (b.settles p);
      }

  abbrev Facts : ℕ → Type 0
  Facts v = StepFacts d h dump t (settled d r t) (settled d r v)

  step_facts : (v : ℕ) → IsWindow dump (suc v) → IsShowing d h dump (suc v) r → StepFacts d h dump v (settled d r v) (settled d r (suc v))
  step_facts v window showing = facts_law d lawful h (step_laws (machine d) (machine_lawful d lawful) h) dump r v any.signals showing window

  -- after so many times more
  jump_by : (n v : ℕ) → v ≡ n + suc t → IsHiddenOn dump (suc t) v → IsShowing d h dump v r → Facts v
  jump_by zero v is hidden showing =
      let e : v ≡ suc t = omega (arith, is) in
      subst Facts (sym e) (step_facts t hidden.first (subst (λ u. IsShowing d h dump u r) e showing))
  jump_by (suc n) v is hidden showing =
      let e : v ≡ suc (n + suc t) = omega (arith, is) in
      let le : suc t ≤ n + suc t = omega arith in
      let on : IsHiddenOn dump (suc t) (suc (n + suc t)) = subst (IsHiddenOn dump (suc t)) e hidden in
      let now : IsShowing d h dump (suc (n + suc t)) r = subst (λ u. IsShowing d h dump u r) e showing in
      let before : Facts (n + suc t) = jump_by n (n + suc t) refl (hidden_to dump (suc t) (n + suc t) le on (window_of dump any.rising (suc t) (n + suc t) le on)) (shows_before d h dump (n + suc t) (suc (n + suc t)) r (omega arith) now) in
      subst Facts (sym e) (join_facts (n + suc t) on before (step_facts (n + suc t) on.last now))

  jump : (v : ℕ) → IsWindow dump (suc t) → IsSameTime dump (suc t) v → IsShowing d h dump v r → Facts v
  jump v window (inl e) showing = subst Facts (sym e) (step_facts t window (subst (λ u. IsShowing d h dump u r) e showing))
  jump v window (inr hidden) showing =
      let n : ℕ = v - suc t in
      let is : v ≡ n + suc t = omega (arith, hidden.later) in
      jump_by n v is hidden showing

pub jump_law : (d : Design) (h : Habit) → IsLawfulDesign d → JumpLaw d h
jump_law d h lawful dump any rounds r t v window same showing = jump d h lawful dump any rounds r t v window same showing
