-- What is found of a step.
use Rattle.std.proofs.Common.{◌≡◌, ◌∙◌, ℕ, suc, List, length, Option}
use Rattle.std.specs.Prelude.{filter}
use Rattle.body_replay.specs.Store.{Kept}
use Rattle.body_store.specs.declared.store.Store.{Store}
use Rattle.code_values.specs.Values.{Values}
use Rattle.design_model.specs.Design.{Design}
use Rattle.early_sets.specs.Has.{is_in}
use Rattle.early_sets.specs.Rounds.{HasMoves}
use Rattle.early_sets.specs.WakeState.{WakeState}
use Rattle.run_order.specs.Ranked.{AreRanksOf}
use Rattle.step_parts.specs.Due.{Due, HasFound, IsDueStep}
use Rattle.step_parts.specs.replay_model.Sets.{AreSets}
use Rattle.step_parts.specs.replay_sets.SetsOf.{AreChosen, sets_of}
use Rattle.step_parts.specs.step_wakes.Step.{IsOfDesign}
use Rattle.step_parts.specs.store_knowledge.Knows.{Knows}
use Rattle.step_parts.specs.wake_laws.Laws.{habit_of}
use Rattle.still_check.specs.step_values.Vectors.{AreOpened, FitsSignals, StepVectors}
use Rattle.wake_list.specs.Members.{has}
use Rattle.step_start.proofs.Members.{in_is_in, is_in_in, woken_of}

-- the lists and vectors of a step that is due are those of its sets
pub found : (due : Due) (codes ranks clocked_ranks : List (Option ℕ)) (before w : WakeState) (values : Values) (store : Store) → IsDueStep due codes ranks clocked_ranks before values store
    → (early : ℕ → List ℕ) (listed : List ℕ) (v : StepVectors) → AreChosen w due.habit early
    → AreSets due.design (habit_of due.habit) due.dump (suc due.time) (sets_of w early) → IsOfDesign due.design due.flags w → HasMoves w
    → ((order : List ℕ) → AreRanksOf order (length due.design.processes) clocked_ranks → listed ≡ filter (λ p. has p w.woken) order)
    → ((d : Design) (k : Kept) → Knows d k store → FitsSignals d v) → ((d : Design) (k : Kept) → Knows d k store → AreOpened d k w.moves v)
    → HasFound due w early listed v
found due codes ranks clocked_ranks before w values store is early listed v chosen sets of moves pairs fits opened =
    let knows = is.rest.knows in
    let bits = opened due.design due.replay.kept knows in
    record {
      sets = sets;
      chosen = chosen;
      tables = of;
      moves = moves;
      listed = pairs due.tables.clocked is.clocked ∙ woken_of (is_in w.woken) due.tables.clocked w.woken (λ p i. (in_is_in p w.woken, is_in_in p w.woken));
      fits = fits due.design due.replay.kept knows;
      before = bits.before;
      made = bits.made;
    }
