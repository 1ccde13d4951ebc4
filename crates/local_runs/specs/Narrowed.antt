-- A store as bodies meet it, in which only some of what is hidden is shown or veiled.
use Rattle.std.specs.Prelude.{◌≡◌, ◌&&◌, ◌||◌, ℕ, Bool, true}
use Rattle.design_model.specs.Design.{Design, body_at}
use Rattle.design_model.specs.Mentions.{body_assigns, body_mentions}
use Rattle.design_model.specs.Tree.{Stmt}
use Rattle.body_replay.specs.Contract.{Certainty}
use Rattle.body_replay.specs.Runs.{StoreView, runs_of}

-- the same view, in which of what is hidden only what passes the test is
abbrev pub narrowed : (ℕ → Bool) → StoreView → StoreView
narrowed m v = record v { hidden = λ x. m x && v.hidden x }

-- each signal and memory that the body mentions or assigns passes the test
abbrev pub Covers : (ℕ → Bool) → Stmt → Type 0
Covers m s = (x : ℕ) → (body_mentions x s || body_assigns x s) ≡ true → m x ≡ true

-- *narrow*: what is hidden of a thing that a body neither mentions nor assigns makes no difference to its run
abbrev pub NarrowLaw : Type 0
NarrowLaw = (d : Design) (p : ℕ) (v : StoreView) (m : ℕ → Bool) (how : Certainty) → Covers m (body_at d p) → runs_of d p (narrowed m v) how ≡ runs_of d p v how
