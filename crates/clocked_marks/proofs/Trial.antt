-- A step in which a store that bodies can run on is that of some state, so that what is proved of all steps can be used.
use Rattle.std.proofs.Common.{ℕ, Bool, true, false, List, [], ◌∷◌, Option, Some, None, refl, sym, subst}
use Rattle.std.proofs.lemmas.List.{append-nil}
use Rattle.event_machine.specs.Cell.{Values}
use Rattle.four_state.specs.declared.bit.Bit.{Bit}
use Rattle.body_replay.specs.Runs.{runs_of}
use Rattle.body_replay.specs.Store.{Kept, KnownWrite}
use Rattle.code_values.specs.Values.{Values as CodeValues}
use Rattle.design_model.specs.Design.{Design}
use Rattle.chosen_runs.specs.Chosen.{IsDumpedStep}
use Rattle.chosen_runs.specs.clocked_block.OneRun.{AtRuns, IsRunBy}
use Rattle.chosen_runs.specs.clocked_block.clocked_runs.CanRun.{CanRun}
use Rattle.chosen_runs.specs.clocked_block.clocked_runs.run_views.Meets.{plain_view}
use Rattle.chosen_runs.specs.clocked_block.clocked_runs.run_views.body_store.declared.store.Store.{Store}
use Rattle.chosen_runs.specs.clocked_block.clocked_runs.store_knowledge.scene_laws.At.{flat}
use Rattle.chosen_runs.specs.clocked_block.entry_values.replay_model.Step.{Closing, Working}
use Rattle.chosen_runs.specs.clocked_block.entry_values.step_values.Dumped.{AreDumped}
use Rattle.chosen_runs.specs.clocked_block.entry_values.step_values.Loose.{has_code}
use Rattle.clocked_marks.specs.AtClocked.{CanRunAll}

-- a step of the design with these codes, in which this is early
abbrev pub trial : Design → List (Option ℕ) → ℕ → Values Bit → Values Bit → (ℕ → ℕ → Bool) → Closing
trial d codes time old new early =
    record {
      design = d;
      bound = has_code codes;
      run = runs_of d;
      tables = record { watched = λ p. []; clocked = []; order = []; last = [] };
      sets = record { moves = λ x. false; trigger = λ p. None; round = λ p. 0; wakes = λ p. None; early = early };
      time = time;
      listed = true;
      new = new;
      start = record { kept = λ c. Some (old c); acted = λ p. false; notes = [] };
    }

-- a state in which this is kept and queued
abbrev pub trial_state : Kept → List KnownWrite → Working
trial_state k ws = record { kept = k; queue = ws ∷ []; made = k; acted = λ p. false; notes = [] }

module _ (d : Design) (codes : List (Option ℕ)) (time : ℕ) (old new : Values Bit) (early : ℕ → ℕ → Bool) where
  pub trial_by : IsRunBy (trial d codes time old new early) time
  trial_by = record { runs = refl; time_is = refl }

  pub trial_dumped : (values : CodeValues) → AreDumped d codes values.closed old → AreDumped d codes values.last new → IsDumpedStep (trial d codes time old new early) codes values
  trial_dumped values before after = record { bound = λ s. refl; old = old; before = before; known = λ c e. refl; after = after }

  module _ (ps : List ℕ) (x : Store) where
    pub trial_runs : (k : Kept) (ws : List KnownWrite) → CanRun d (plain_view k) ws ps x → AtRuns (trial d codes time old new early) (trial_state k ws) ps x
    trial_runs k ws h = subst (λ vs. CanRun d (plain_view k) vs ps x) (sym (append-nil ws)) h

    pub trial_can : (w : Working) → AtRuns (trial d codes time old new early) w ps x → CanRunAll d ps x
    trial_can w h = record { kept = w.kept; queue = flat w.queue; runs = h }
