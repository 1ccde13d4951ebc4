-- The store and the vectors that are set aside, beside the replay within a step as its definition has it.
use Rattle.std.specs.Prelude.{◌≡◌, ◌↔◌, ◌<◌, ◌++◌, ℕ, true, false, if◌then◌else◌, List, length, Option, Some}
use Rattle.event_machine.specs.Cell.{Cell}
use Rattle.four_state.specs.Vector.{Vector}
use Rattle.design_model.specs.Design.{In, body_at}
use Rattle.design_model.specs.Mentions.{blocking_target}
use Rattle.process_targets.specs.Targets.{row_has}
use Rattle.process_targets.specs.declared.bits.Bits.{Bits}
use Rattle.index_sets.specs.Rows.{row_at}
use Rattle.store_knowledge.specs.body_replay.Replay.{flush}
use Rattle.store_knowledge.specs.body_replay.Store.{Kept}
use Rattle.store_knowledge.specs.body_calls.Own.{is_in}
use Rattle.store_knowledge.specs.body_store.declared.store.Store.{Store}
use Rattle.replay_steps.specs.replay_model.Step.{Closing, Working, clocked_run, is_dumped, is_touched, known_bits}
use Rattle.store_knowledge.specs.Knows.{Knows}
use Rattle.step_values.specs.Dumped.{AreDumped}
use Rattle.step_values.specs.Loose.{has_code}
use Rattle.step_values.specs.Vectors.{FitsSignals, StepVectors, vector_at}

-- the store knows what is kept, and of the signals that may move the vectors are those at the start of the step, and of the bound
-- ones those that were made
pub record HasValues (st : Closing) (w : Working) (x : Store) (v : StepVectors) : Type 0 where
  pub knows : Knows st.design w.kept x
  pub fits : FitsSignals st.design v
  pub before : (s : ℕ) → s < length st.design.signals → st.sets.moves s ≡ true → (vector_at v.before s).bits ≡ known_bits st.design st.start.kept s
  pub made : (s : ℕ) → s < length st.design.signals → st.sets.moves s ≡ true → st.bound s ≡ true → (vector_at v.made s).bits ≡ known_bits st.design w.made s

-- what is known once the Clocked have run and the queued writes are made
abbrev pub left_by_clocked : Closing → Kept
left_by_clocked st = flush (clocked_run st).kept (clocked_run st).queue

-- the vectors before the Assigns and Combs: of what may move what was known at the start of the step, and of the bound signals among it
-- what was made so far: of those that a Clocked has overwritten what is known now, and of the others what was known at the start
pub record AreTaken (st : Closing) (k : Kept) (overwritten : List ℕ) (v : StepVectors) : Type 0 where
  pub fits : FitsSignals st.design v
  pub before : (s : ℕ) → s < length st.design.signals → st.sets.moves s ≡ true → (vector_at v.before s).bits ≡ known_bits st.design st.start.kept s
  pub made : (s : ℕ) → s < length st.design.signals → st.sets.moves s ≡ true → st.bound s ≡ true
      → (vector_at v.made s).bits ≡ known_bits st.design (if is_in overwritten s then k else st.start.kept) s

-- what the lists of the code say of a step that is to be settled from this state, which the Clocked have left
pub record IsStartOf (st : Closing) (w : Working) (ps : List ℕ) (rows : List (List Bits)) (changed overwritten : List ℕ) (codes : List (Option ℕ)) (values : List (Option Vector)) : Type 0 where
  pub running : (p : ℕ) → In p ps ↔ (In p (st.tables.order ++ st.tables.last) × (is_touched st p ≡ true))
  pub targets : (p : ℕ) (c : Cell) → In p ps → c.thing < length st.design.signals → row_has (row_at rows p) c ≡ blocking_target st.design (body_at st.design p) c
  pub driven : (p : ℕ) (c : Cell) → In p ps → blocking_target st.design (body_at st.design p) c ≡ true → c.thing < length st.design.signals
  pub bound : (s : ℕ) → st.bound s ≡ has_code codes s
  pub signals : (s : ℕ) → st.bound s ≡ true → s < length st.design.signals
  pub dumped : AreDumped st.design codes values st.new
  -- the dump's value of what has not changed is what was known
  pub still : (c : Cell) → is_dumped st.design st.bound c ≡ true → is_in changed c.thing ≡ false → st.start.kept c ≡ Some (st.new c)
  -- what the Clocked have left of a bound signal that is not overwritten is what was known
  pub unwritten : (c : Cell) → st.bound c.thing ≡ true → is_in overwritten c.thing ≡ false → flush w.kept w.queue c ≡ st.start.kept c
