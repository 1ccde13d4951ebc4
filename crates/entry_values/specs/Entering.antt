-- What a block is shown of what is early.
use Rattle.std.specs.Prelude.{◌≡◌, ◌<◌, ◌≤◌, ◌+◌, ◌&&◌, ◌||◌, ℕ, Bool, List, length, Option}
use Rattle.std.specs.List.{All}
use Rattle.event_machine.specs.Cell.{Values as CellValues}
use Rattle.four_state.specs.declared.bit.Bit.{Bit}
use Rattle.code_values.specs.Values.{Values}
use Rattle.early_sets.specs.WakeState.{WakeState}
use Rattle.local_runs.specs.Narrowed.{Covers, narrowed}
use Rattle.run_views.specs.body_calls.Own.{is_in}
use Rattle.run_views.specs.body_replay.Runs.{StoreView}
use Rattle.run_views.specs.body_store.Bodies.{rooms_of}
use Rattle.run_views.specs.body_store.declared.store.Store.{Store}
use Rattle.run_views.specs.design_model.Design.{Design}
use Rattle.run_views.specs.design_model.Tree.{Stmt}
use Rattle.run_views.specs.design_model.View.{design_view}
use Rattle.run_views.specs.Meets.{Meets}
use Rattle.step_values.specs.Dumped.{AreDumped}
use Rattle.step_values.specs.replay_model.Step.{Closing, entry}
use Rattle.entry_values.specs.Entry.{IsEntryOf}

-- the store is met as this view as far as the body mentions or assigns what is hidden
pub record MeetsFor (s : Stmt) (d : Design) (v : StoreView) (x : Store) : Type 0 where
  pub test : ℕ → Bool
  pub covers : Covers test s
  pub meets : Meets d (narrowed test v) x

-- the same view, in which those of these names that are early are hidden too
abbrev pub also_early : List ℕ → List ℕ → StoreView → StoreView
also_early early names v = record v { hidden = λ x. (is_in names x && is_in early x) || v.hidden x }

-- what is early by these sets can be shown in the store
pub record IsReady (d : Design) (sets : WakeState) (codes : List (Option ℕ)) (values : Values) (x : Store) : Type 0 where
  pub same : design_view x.design.now ≡ d
  pub inside : All (λ y. y < length d.signals + length d.memories) sets.early
  pub numbers : length d.signals + length d.memories ≤ sets.tables.things
  pub old : CellValues Bit
  pub before : AreDumped d codes values.closed old
  pub new : CellValues Bit
  pub after : AreDumped d codes values.last new

-- from the one store to the other, those of these names that are early are shown or veiled, and all else stays
pub record Shows (early : List ℕ) (codes : List (Option ℕ)) (values : Values) (names : List ℕ) (x y : Store) : Type 0 where
  pub design : y.design ≡ x.design
  pub updates : y.updates ≡ x.updates
  pub rooms : rooms_of y ≡ rooms_of x
  pub meets : (st : Closing) (p trigger : ℕ) (v : StoreView) → IsEntryOf st p trigger early codes values → v.shown ≡ entry st trigger
      → Meets st.design v x → Meets st.design (also_early early names v) y

-- what a walk starts with: a store, by its name, what is early, and the codes and their values
pub record ShowStart : Type 0 where
  pub name : ℕ
  pub store : Store
  pub early : List ℕ
  pub codes : List (Option ℕ)
  pub values : Values

-- since this start those of these names that are early are shown or veiled
abbrev pub IsShownSince : ShowStart → List ℕ → ℕ → List ℕ → List (Option ℕ) → Values → Store → Type 0
IsShownSince s names name early codes values x = (name ≡ s.name) × (early ≡ s.early) × (codes ≡ s.codes) × (values ≡ s.values) × Shows s.early s.codes s.values names s.store x
