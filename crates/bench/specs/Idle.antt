-- A store between the runs of bodies.
use Rattle.std.specs.Prelude.{◌≡◌, ℕ, [], false}
use Rattle.design_model.specs.Design.{Design}
use Rattle.design_model.specs.View.{design_view}
use Rattle.body_calls.specs.Own.{IsOwn}
use Rattle.body_store.specs.Bodies.{around_of, rooms_of}
use Rattle.body_store.specs.Views.{hides, kept_scene, under_of}
use Rattle.body_store.specs.declared.store.Store.{Store}

-- the store is of the design, nothing is shown or veiled, each thing is to blame for itself, and no room is taken
pub record IsIdle (d : Design) (x : Store) : Type 0 where
  pub design : design_view x.design.now ≡ d
  pub around : around_of x ≡ []
  pub plain : (t : ℕ) → hides x t ≡ false
  pub own : IsOwn (kept_scene x)
  pub log : (rooms_of x).log ≡ (under_of x).log
  pub queue : (rooms_of x).queue ≡ x.updates.room
