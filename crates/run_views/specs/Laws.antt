-- What follows for the run of a body from the view as which it meets a store.
use Rattle.std.specs.Prelude.{◌≡◌, ℕ}
use Rattle.body_store.specs.design_model.Design.{Design}
use Rattle.body_store.specs.body_replay.Contract.{Certainty}
use Rattle.body_store.specs.body_replay.Runs.{StoreView, runs_of}
use Rattle.body_store.specs.body_replay.Store.{Kept}
use Rattle.body_store.specs.body_calls.Own.{IsOwn}
use Rattle.body_store.specs.declared.store.Store.{Store}
use Rattle.body_store.specs.Views.{kept_scene, view_of}
use Rattle.run_views.specs.Meets.{Keeps, Meets}

-- the outcome of a run on the store is that on the view, whatever that shows of what is not hidden
abbrev pub RunLaw : Type 0
RunLaw = (d : Design) (v : StoreView) (x : Store) → Meets d v x → (p : ℕ) (how : Certainty) → runs_of d p (view_of x) how ≡ runs_of d p v how

-- what is kept is that of the view, and each signal and memory is to blame for itself in it
abbrev pub KeptLaw : Type 0
KeptLaw = (d : Design) (k : Kept) (x : Store) → Keeps d k x → ((kept_scene x).kept ≡ k) × IsOwn (kept_scene x)
