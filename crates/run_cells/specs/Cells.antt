-- Which cells the runs of bodies change.
use Rattle.std.specs.Prelude.{◌≡◌, ℕ, List}
use Rattle.std.specs.List.{All}
use Rattle.body_replay.specs.event_machine.Cell.{Cell}
use Rattle.body_replay.specs.design_model.BodyLaws.{all_cells}
use Rattle.body_replay.specs.design_model.Design.{Design, In}
use Rattle.body_replay.specs.design_model.Lawful.{IsLawfulDesign}
use Rattle.body_replay.specs.Contract.{Certainty}
use Rattle.body_replay.specs.Replay.{flush}
use Rattle.body_replay.specs.Runs.{Runs, StoreView, runs_of}
use Rattle.body_replay.specs.Store.{Kept, KnownWrite, keep_all}

-- each run of the process leaves the cell as it was, and so do the writes that it queues
pub record KeepsCell (run : Runs) (p : ℕ) (c : Cell) : Type 0 where
  pub kept : (x : StoreView) (how : Certainty) → (run p x how).kept c ≡ x.kept c
  pub queue : (x : StoreView) (how : Certainty) (k : Kept) → flush k (run p x how).queue c ≡ k c

-- the runs of the process change only cells of the design
abbrev pub StaysInside : Design → Runs → ℕ → Type 0
StaysInside d run p = (c : Cell) → (In c (all_cells d c.thing) → ⊥) → KeepsCell run p c

-- the writes are to cells of the design
abbrev pub AreInside : Design → List KnownWrite → Type 0
AreInside d ws = All (λ w. In w.cell (all_cells d w.cell.thing)) ws

-- the runs of the bodies of a lawful design change only cells of the design
abbrev pub RunsInsideLaw : Type 0
RunsInsideLaw = (d : Design) → IsLawfulDesign d → (p : ℕ) → StaysInside d (runs_of d) p

-- what they queue are writes to cells of the design
abbrev pub QueueInsideLaw : Type 0
QueueInsideLaw = (d : Design) → IsLawfulDesign d → (p : ℕ) (x : StoreView) (how : Certainty) → All (AreInside d) (runs_of d p x how).queue

-- writes to cells of the design leave each other cell as it was
abbrev pub InsideKeptLaw : Type 0
InsideKeptLaw = (d : Design) (ws : List KnownWrite) (k : Kept) (c : Cell) → AreInside d ws → (In c (all_cells d c.thing) → ⊥) → keep_all k ws c ≡ k c
