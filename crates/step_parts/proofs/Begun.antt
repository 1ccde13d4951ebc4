-- What follows of a step that is due once its sets are found, and once its Clocked have run.
use Rattle.std.proofs.Common.{◌≡◌, ℕ, suc, true, List, Option, refl, sym, subst, ◌∙◌}
use Rattle.std.specs.Prelude.{is_some}
use Rattle.clocked_laws.proofs.Kept.{targets_move as clocked_move}
use Rattle.clocked_laws.proofs.Order.{running}
use Rattle.clocked_laws.specs.Clocked.{is_running}
use Rattle.step_changes.proofs.early_sets.Membership.{is_in_from, is_in_gives}
use Rattle.step_changes.proofs.process_order.Distinct.{contains_in, filter_in, in_contains, in_filter}
use Rattle.step_changes.proofs.replay_steps.Settling.{targets_move as settling_move}
use Rattle.step_changes.proofs.Woken.{woken_are}
use Rattle.step_changes.specs.Changes.{AreWoken}
use Rattle.step_changes.specs.body_store.declared.store.Store.{Store}
use Rattle.step_changes.specs.code_values.Values.{Values}
use Rattle.signal_marks.specs.design_model.Design.{In}
use Rattle.step_changes.specs.early_sets.Has.{is_in}
use Rattle.step_changes.specs.early_sets.WakeState.{WakeState, waker_of}
use Rattle.step_changes.specs.replay_sets.SetsOf.{sets_of}
use Rattle.step_changes.specs.step_values.Vectors.{StepVectors}
use Rattle.step_changes.specs.wake_laws.Laws.{habit_of}
use Rattle.step_parts.specs.Due.{Due, HasFound, IsDueStep, step_of}
use Rattle.step_parts.specs.Laws.{BegunLaw, ListedLaw, TouchedLaw}
use Rattle.step_parts.proofs.Parts.{starts}

module _ (due : Due) (codes ranks clocked_ranks : List (Option ℕ)) (before wakes : WakeState) (values : Values) (store : Store) (early : ℕ → List ℕ) (listed : List ℕ) (v : StepVectors) (is : IsDueStep due codes ranks clocked_ranks before values store) (found : HasFound due wakes early listed v) where
  woken : AreWoken due.tables wakes
  woken = woken_are due.design (habit_of due.habit) due.dump (suc due.time) due.tables wakes early found.tables.tables is.tabled found.sets found.moves

  runs : (p : ℕ) → is_running (step_of due wakes early) p ≡ is_some (waker_of wakes p)
  runs p = running due.design (habit_of due.habit) due.dump due.run due.tables (sets_of wakes early) due.time due.replay found.sets p

  to : (p : ℕ) → In p listed → In p due.tables.clocked × (is_running (step_of due wakes early) p ≡ true)
  to p i =
      let f = in_filter (is_in wakes.woken) p due.tables.clocked (subst (λ xs. In p xs) found.listed i) in
      (f.0, runs p ∙ (woken.clocked p f.0).0 (contains_in p wakes.woken (is_in_gives wakes.woken p f.1)))

  from : (p : ℕ) → In p due.tables.clocked × (is_running (step_of due wakes early) p ≡ true) → In p listed
  from p r =
      let c = in_contains p wakes.woken ((woken.clocked p r.0).1 (sym (runs p) ∙ r.1)) in
      subst (λ xs. In p xs) (sym found.listed) (filter_in (is_in wakes.woken) p due.tables.clocked r.0 (is_in_from wakes.woken p c.0 c.1 c.2))

pub listed_are : ListedLaw
listed_are due codes ranks clocked_ranks before wakes values store early listed v is found p =
    (to due codes ranks clocked_ranks before wakes values store early listed v is found p, from due codes ranks clocked_ranks before wakes values store early listed v is found p)

pub touched_are : TouchedLaw
touched_are due codes ranks clocked_ranks before wakes values store early listed v is found p i = (woken due codes ranks clocked_ranks before wakes values store early listed v is found).settling p i

pub begun : BegunLaw
begun due codes ranks clocked_ranks before wakes values first left store early clocked ran listed found v marks is has have still agree list vectors =
    let st = step_of due wakes early in
    let sets = has.sets in
    let moving = clocked_move due.design (habit_of due.habit) due.dump due.run due.tables (sets_of wakes early) due.time due.replay sets in
    let settling = settling_move due.design (habit_of due.habit) due.dump due.run due.tables (sets_of wakes early) due.time due.replay is.tabled sets in
    record {
      sets = has.sets;
      still = still;
      list = list;
      parts = starts st due.points store v wakes due.acted marks is.runs moving settling still (λ s. refl) is.rest.acted have.points have.marks vectors;
      agree = agree;
    }
