-- The runs of the processes of a list, in order, are those of the step.
use Rattle.std.proofs.Common.{◌≡◌, ℕ, true, List, [], ◌∷◌, ◌++◌, Option, Some, None, sym, ap, ap₂, subst, ◌∙◌}
use Rattle.std.specs.Prelude.{is_none, is_some}
use Rattle.std.specs.List.{filter}
use Rattle.std.proofs.lemmas.Bool.{and_parts}
use Rattle.code_values.specs.Values.{Values}
use Rattle.design_model.specs.Design.{In}
use Rattle.clocked_marks.specs.AtClocked.{AtClocked}
use Rattle.clocked_marks.specs.chosen_runs.Chosen.{IsDumpedStep, IsEarlyIn}
use Rattle.clocked_marks.specs.chosen_runs.chosen_early.Shared.{IsSameButEarly}
use Rattle.clocked_marks.specs.chosen_runs.chosen_early.early_sets.WakeState.{WakeState, trigger_of, waker_of}
use Rattle.clocked_marks.specs.chosen_runs.chosen_early.early_sets.Has.{is_in}
use Rattle.clocked_marks.specs.chosen_runs.chosen_early.early_sets.declared.habit.Habit.{Habit}
use Rattle.clocked_marks.specs.chosen_runs.clocked_block.clocked_runs.run_views.body_store.declared.store.Store.{Store}
use Rattle.clocked_marks.specs.run_marks.declared.notes.MarkNotes.{MarkNotes}
use Rattle.clocked_marks.specs.chosen_runs.clocked_block.OneRun.{IsRunBy}
use Rattle.clocked_marks.specs.run_marks.cover_points.Visits.{AreApart, AreOnce}
use Rattle.clocked_marks.specs.run_marks.cover_points.declared.listing.Points.{Points}
use Rattle.replay_sets.specs.replay_model.Sets.{Sets}
use Rattle.replay_sets.specs.replay_model.Step.{Closing, Working, clocked_run, in_rounds, opened, run_all_clean, run_all_weak, run_clean, run_weak}
use Rattle.replay_sets.proofs.wake_laws.early_sets.Membership.{is_in_from, is_in_gives}
use Rattle.clocked_laws.proofs.Order.{clean_ordered, clocked_filtered, weak_filtered}
use Rattle.clocked_laws.specs.Clocked.{is_clean, is_weak}
use Rattle.step_clocked.specs.Runs.{AreClockedOf, IsClockedStep, clean_in_rounds, is_unclean, runs_clean}
use Rattle.step_clocked.proofs.Rooms.{at_left_out}
use Rattle.step_clocked.proofs.Sets.{early_same}

-- ---- what the step says of its processes

module _ (st : Closing) (ps : Points) (w : WakeState) (h : Habit) (codes : List (Option ℕ)) (values : Values) (time : ℕ) (is : IsClockedStep st ps w h codes values time) where
  pub step_trigger : (p : ℕ) → st.sets.trigger p ≡ trigger_of w p
  step_trigger p = ap (λ (s : Sets). s.trigger p) is.sets

  pub step_waker : (p : ℕ) → st.sets.wakes p ≡ waker_of w p
  step_waker p = ap (λ (s : Sets). s.wakes p) is.sets

  -- what is early for a clean one
  pub step_early : (v : WakeState) → IsSameButEarly w v → (p s : ℕ) → trigger_of w p ≡ Some s → IsEarlyIn st v h p s
  step_early v same p s trigger x =
      let test : st.sets.early p x ≡ is_in (is.early p) x = ap (λ (s : Sets). s.early p x) is.sets in
      let set = is.chosen p s trigger x in
      let law = early_same w v same h p s x in (
        λ e. law.0 (set.0 (is_in_gives (is.early p) x (sym test ∙ e))),
        λ e. test ∙ (let c = set.1 (law.1 e) in is_in_from (is.early p) x c.0 c.1 c.2),
      )

-- ---- the clean ones

-- the runs so far have led here, and those of the rest of the list lead to the end of the clean ones; those of `later` can run too
pub record HasCleaned (st : Closing) (ps : Points) (rest later all : List ℕ) (start : Working) (x : Store) (m : MarkNotes) : Type 0 where
  pub working : Working
  pub at : AtClocked st ps working (rest ++ later) x m
  pub leads : run_all_clean st rest working ≡ run_all_clean st all start

module _ (st : Closing) (ps : Points) (later all : List ℕ) (start : Working) where
  -- one run more
  pub cleaned_more : (p : ℕ) (rest : List ℕ) (x y : Store) (m n : MarkNotes) → ((w : Working) → AtClocked st ps w (p ∷ (rest ++ later)) x m → AtClocked st ps (run_clean st (st.sets.trigger p) p w) (rest ++ later) y n)
      → HasCleaned st ps (p ∷ rest) later all start x m → HasCleaned st ps rest later all start y n
  cleaned_more p rest x y m n step h = record { working = run_clean st (st.sets.trigger p) p h.working; at = step h.working h.at; leads = h.leads }

  -- by what the run of a clean process promises
  pub cleaned_run : (w v : WakeState) (t : ℕ) (h : Habit) (codes : List (Option ℕ)) (values : Values) (time : ℕ) → IsClockedStep st ps w h codes values time → IsSameButEarly w v
      → (p : ℕ) (rest : List ℕ) (qs : Points) → qs ≡ ps → trigger_of w p ≡ Some t → (x y : Store) (m n : MarkNotes)
      → ((u : Working) → AreApart qs → AreOnce qs → IsRunBy st time → IsDumpedStep st codes values → IsEarlyIn st v h p t → AtClocked st qs u (p ∷ (rest ++ later)) x m → AtClocked st qs (run_clean st (Some t) p u) (rest ++ later) y n)
      → HasCleaned st ps (p ∷ rest) later all start x m → HasCleaned st ps rest later all start y n
  cleaned_run w v t h codes values time is same p rest qs points has x y m n run =
      cleaned_more p rest x y m n (λ u at.
      subst (λ o. AtClocked st ps (run_clean st o p u) (rest ++ later) y n) (sym (step_trigger st ps w h codes values time is p ∙ has))
      (subst (λ os. AtClocked st os (run_clean st (Some t) p u) (rest ++ later) y n) points
      (run u (subst AreApart (sym points) is.apart) (subst AreOnce (sym points) is.once) is.by is.dumped (step_early st ps w h codes values time is v same p t has) (subst (λ os. AtClocked st os u (p ∷ (rest ++ later)) x m) (sym points) at))))

  -- none is left
  pub cleaned_end : (rest : List ℕ) (x : Store) (m : MarkNotes) → rest ≡ [] → HasCleaned st ps rest later all start x m → AtClocked st ps (run_all_clean st all start) later x m
  cleaned_end rest x m none h =
      subst (λ w. AtClocked st ps w later x m) (ap (λ qs. run_all_clean st qs h.working) (sym none) ∙ h.leads) (subst (λ qs. AtClocked st ps h.working (qs ++ later) x m) none h.at)

-- ---- the others

-- the runs so far have led here, and those of the rest of the list lead to the end
pub record HasWeakened (st : Closing) (ps : Points) (rest all : List ℕ) (start : Working) (x : Store) (m : MarkNotes) : Type 0 where
  pub working : Working
  pub at : AtClocked st ps working rest x m
  pub leads : run_all_weak st rest working ≡ run_all_weak st all start

module _ (st : Closing) (ps : Points) (all : List ℕ) (start : Working) where
  -- one run more
  pub weakened_more : (p s : ℕ) (rest : List ℕ) (x y : Store) (m n : MarkNotes) → st.sets.trigger p ≡ None → st.sets.wakes p ≡ Some s
      → ((w : Working) → AtClocked st ps w (p ∷ rest) x m → AtClocked st ps (run_weak st None (Some s) p w) rest y n)
      → HasWeakened st ps (p ∷ rest) all start x m → HasWeakened st ps rest all start y n
  weakened_more p s rest x y m n none some step h = record {
    working = run_weak st None (Some s) p h.working;
    at = step h.working h.at;
    leads = ap₂ (λ o q. run_all_weak st rest (run_weak st o q p h.working)) (sym none) (sym some) ∙ h.leads;
  }

  -- by what the run of such a process promises
  pub weakened_run : (time p s : ℕ) (rest : List ℕ) (qs : Points) → qs ≡ ps → AreApart ps → AreOnce ps → IsRunBy st time → st.sets.trigger p ≡ None → st.sets.wakes p ≡ Some s → (x y : Store) (m n : MarkNotes)
      → ((u : Working) → AreApart qs → AreOnce qs → IsRunBy st time → AtClocked st qs u (p ∷ rest) x m → AtClocked st qs (run_weak st None (Some s) p u) rest y n)
      → HasWeakened st ps (p ∷ rest) all start x m → HasWeakened st ps rest all start y n
  weakened_run time p s rest qs points apart once by none some x y m n run =
      weakened_more p s rest x y m n none some (λ u at.
      subst (λ os. AtClocked st os (run_weak st None (Some s) p u) rest y n) points
      (run u (subst AreApart (sym points) apart) (subst AreOnce (sym points) once) by (subst (λ os. AtClocked st os u (p ∷ rest) x m) (sym points) at)))

  -- one that cannot wake
  pub weakened_past : (p : ℕ) (rest : List ℕ) (x : Store) (m : MarkNotes) → st.sets.trigger p ≡ None → st.sets.wakes p ≡ None → HasWeakened st ps (p ∷ rest) all start x m → HasWeakened st ps rest all start x m
  weakened_past p rest x m none never h = record {
    working = h.working;
    at = at_left_out st ps h.working x m p rest h.at;
    leads = ap₂ (λ o q. run_all_weak st rest (run_weak st o q p h.working)) (sym none) (sym never) ∙ h.leads;
  }

  -- none is left
  pub weakened_end : (rest : List ℕ) (x : Store) (m : MarkNotes) → rest ≡ [] → HasWeakened st ps rest all start x m → AtClocked st ps (run_all_weak st all start) [] x m
  weakened_end rest x m none h =
      subst (λ w. AtClocked st ps w [] x m) (ap (λ qs. run_all_weak st qs h.working) (sym none) ∙ h.leads) (subst (λ qs. AtClocked st ps h.working qs x m) none h.at)

-- ---- all of them

-- those that are not clean run as those of the list that do, so both lead to the end
pub weak_rest : (st : Closing) (ps : Points) (w : WakeState) (h : Habit) (codes : List (Option ℕ)) (values : Values) (time : ℕ) → IsClockedStep st ps w h codes values time
    → (listed later : List ℕ) → AreClockedOf st listed → later ≡ filter (is_unclean w) listed → run_all_weak st later (run_all_clean st (clean_in_rounds w listed) (opened st)) ≡ clocked_run st
weak_rest st ps w h codes values time is listed later of are =
    ap (λ qs. run_all_weak st qs cleaned) are ∙ sym (weak_filtered st (is_unclean w) listed cleaned unclean) ∙ whole
  where
    cleaned : Working
    cleaned = run_all_clean st (clean_in_rounds w listed) (opened st)

    unclean : (p : ℕ) → In p listed → is_weak st p ≡ true → is_unclean w p ≡ true
    unclean p i e = ap is_none (sym (step_trigger st ps w h codes values time is p)) ∙ (and_parts (is_none (st.sets.trigger p)) (is_some (st.sets.wakes p)) e).0

    clean : (p : ℕ) → In p listed → is_clean st p ≡ true → runs_clean w p ≡ true
    clean p i e = ap is_some (sym (step_trigger st ps w h codes values time is p)) ∙ e

    ordered : run_all_clean st (clean_in_rounds w listed) (opened st) ≡ run_all_clean st (in_rounds st.sets.round listed) (opened st)
    ordered =
        ap (λ r. run_all_clean st (in_rounds r (filter (runs_clean w) listed)) (opened st)) (sym (ap (λ (s : Sets). s.round) is.sets))
        ∙ sym (clean_ordered st st.sets.round (runs_clean w) listed (opened st) clean)

    whole : run_all_weak st listed cleaned ≡ clocked_run st
    whole =
        ap (λ z. run_all_weak st listed z) ordered
        ∙ ap (λ qs. run_all_weak st qs (run_all_clean st (in_rounds st.sets.round qs) (opened st))) of.filtered ∙ sym (clocked_filtered st of.test of.running)
