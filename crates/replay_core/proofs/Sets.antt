-- What was found to be early is no part of the other sets.
use Rattle.std.proofs.Common.{◌≡◌, ◌∙◌, ⊎_elim, ℕ, ◌<◌, ◌≤◌, Bool, true, false, List, Option, Some, None, ap, arith, cond, get_or, refl, sym, subst}
use Rattle.std.specs.Prelude.{is_some, slice_index_or}
use Rattle.std.specs.List.{Contains}
use Rattle.std.proofs.lemmas.Bool.{and_parts, false≢true, or_cases}
use Rattle.body_store.specs.declared.store.Store.{Store}
use Rattle.chosen_early.specs.Shared.{IsSameButEarly}
use Rattle.cover_marks.specs.declared.marks.Marks.{Marks}
use Rattle.design_model.specs.Design.{Design, signal_at}
use Rattle.early_sets.specs.Has.{is_in}
use Rattle.early_sets.specs.Rounds.{round_at, writer_at}
use Rattle.early_sets.specs.WakeState.{WakeState, is_told}
use Rattle.early_sets.proofs.Membership.{is_in_gives}
use Rattle.first_step.specs.step_values.Loose.{has_code}
use Rattle.first_step.specs.step_values.Vectors.{StepVectors}
use Rattle.first_step.specs.step_wakes.Step.{IsOfDesign}
use Rattle.step_clocked.specs.Runs.{AreStepSets}
use Rattle.step_start.specs.step_parts.Due.{Due, HasFound, HaveClockedRun}
use Rattle.wake_laws.specs.OfDesign.{AreWritersOf}
use Rattle.replay_core.specs.Codes.{flags_of}
use Rattle.replay_core.specs.Fits.{HasWriters}
use Rattle.replay_core.proofs.Codes.{flags_are}

-- only signals with a code are single
pub sets_of_step : (d : Design) (codes : List (Option ℕ)) (w : WakeState) → IsOfDesign d (flags_of codes) w → HasWriters d codes w → ((x : ℕ) → Contains w.derived x → is_some (writer_at w x) ≡ true) → ((x : ℕ) → Contains w.derived x → round_at w x ≤ w.tables.things) → ((x : ℕ) → Contains w.noted x → x < w.tables.things) → AreStepSets d codes w
sets_of_step d codes w of writers derived numbers noted = record {
  tables = of.tables;
  single = λ x l e. ⊎_elim (told x l) (written x l) (or_cases (is_told w x) (is_in w.derived x) e);
  numbers = λ x e. ⊎_elim (first x) (λ i. numbers x (is_in_gives w.derived x i)) (or_cases (is_told w x) (is_in w.derived x) e);
  noted = noted;
}
  where
    first : (x : ℕ) → is_told w x ≡ true → round_at w x ≤ w.tables.things
    first x told = subst (λ n. n ≤ w.tables.things) (sym (ap (λ b. cond b 0 (get_or w.rounds x 0)) told)) (omega arith)

    told : (x : ℕ) → x < w.tables.things → is_told w x ≡ true → has_code codes x ≡ true
    told x l e = sym (flags_are codes x) ∙ (and_parts (signal_at d x).input (slice_index_or (flags_of codes) x false) (sym (of.told x l) ∙ e)).1

    by : (x : ℕ) → x < w.tables.things → (o : Option ℕ) → writer_at w x ≡ o → is_some o ≡ true → has_code codes x ≡ true
    by x l None same some = absurd (false≢true some)
    by x l (Some p) same some = ((writers.is x p l).0 same).is_bound

    written : (x : ℕ) → x < w.tables.things → is_in w.derived x ≡ true → has_code codes x ≡ true
    written x l e = by x l (writer_at w x) refl (derived x (is_in_gives w.derived x e))

-- the writers are no part of what a step finds
pub same_writers : (d : Design) (codes : List (Option ℕ)) (v w : WakeState) → w.writers ≡ v.writers → w.tables.things ≡ v.tables.things → HasWriters d codes v → HasWriters d codes w
same_writers d codes v w same things has = subst (λ ws. AreWritersOf d (has_code codes) w.tables.things ws) (sym same) (subst (λ n. AreWritersOf d (has_code codes) n v.writers) (sym things) has)

-- what was found to be early is no part of the tables and inputs
pub of_design_early : (d : Design) (flags : List Bool) (w v : WakeState) → IsSameButEarly w v → IsOfDesign d flags w → IsOfDesign d flags v
of_design_early d flags w v same of = subst (IsOfDesign d flags) (sym same) (record { tables = of.tables; told = of.told; untold = of.untold })

-- nor of what was found of a step
pub found_early : (due : Due) (early : ℕ → List ℕ) (listed : List ℕ) (vectors : StepVectors) (w v : WakeState) → IsSameButEarly w v → HasFound due w early listed vectors → HasFound due v early listed vectors
found_early due early listed vectors w v same has = subst (λ u. HasFound due u early listed vectors) (sym same) (record {
  sets = has.sets;
  chosen = has.chosen;
  tables = record { tables = has.tables.tables; told = has.tables.told; untold = has.tables.untold };
  moves = record { moves = has.moves.moves; woken = has.moves.woken };
  listed = has.listed;
  fits = has.fits;
  before = has.before;
  made = has.made;
})

-- nor of what holds once the Clocked have run
pub run_early : (due : Due) (early : ℕ → List ℕ) (ran : List ℕ) (store : Store) (marks : Marks) (w v : WakeState) → IsSameButEarly w v → HaveClockedRun due w early ran store marks → HaveClockedRun due v early ran store marks
run_early due early ran store marks w v same have = subst (λ u. HaveClockedRun due u early ran store marks) (sym same) (record {
  running = have.running;
  clocked = have.clocked;
  knows = have.knows;
  points = have.points;
  marks = have.marks;
})
