-- A store between the runs of the Clocked blocks of a step.
use Rattle.std.specs.Prelude.{◌≡◌, ℕ, List}
use Rattle.clocked_runs.specs.CanRun.{CanRun}
use Rattle.clocked_runs.specs.run_views.body_replay.Runs.{runs_of}
use Rattle.clocked_runs.specs.run_views.body_store.declared.store.Store.{Store}
use Rattle.clocked_runs.specs.store_knowledge.scene_laws.At.{flat}
use Rattle.entry_values.specs.replay_model.Step.{Closing, Working, plain_store}

-- the store knows what is kept, the writes of this state are queued, and these processes can still run
abbrev pub AtRuns : Closing → Working → List ℕ → Store → Type 0
AtRuns st w ps x = CanRun st.design (plain_store w.kept) (flat w.queue) ps x

-- the runs of the step are those of its design, and it ends at this time
pub record IsRunBy (st : Closing) (time : ℕ) : Type 0 where
  pub runs : st.run ≡ runs_of st.design
  pub time_is : st.time ≡ time
