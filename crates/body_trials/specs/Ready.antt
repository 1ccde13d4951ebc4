-- When the bodies of a design can run on a store.
use Rattle.std.specs.Prelude.{◌≡◌, ◌<◌, ℕ, [], false, length}
use Rattle.design_model.specs.declared.design.Design as m
use Rattle.design_model.specs.Design.{body_at}
use Rattle.design_model.specs.Lawful.{IsLawfulDesign}
use Rattle.design_model.specs.View.{design_view}
use Rattle.body_replay.specs.Store.{Kept}
use Rattle.body_rooms.specs.open_tests.Weights.{HasRoomFor}
use Rattle.body_store.specs.declared.store.Store.{Store}
use Rattle.body_store.specs.Bodies.{around_of, rooms_of}
use Rattle.body_store.specs.Held.{HoldsStore}
use Rattle.body_store.specs.Made.{unblamed}
use Rattle.body_store.specs.Scenes.{scene_of}
use Rattle.body_store.specs.Views.{hides}

-- the store is of this lawful design, no test is open, nothing is shown or veiled, each signal and memory is to blame for itself, and
-- there is room for the run of any body
pub record IsReady (d : m.Design) (x : Store) : Type 0 where
  pub lawful : IsLawfulDesign (design_view d)
  pub design : x.design.now ≡ d
  pub seen : (scene_of x).design ≡ design_view d
  pub around : around_of x ≡ []
  pub plain : (t : ℕ) → hides x t ≡ false
  pub known : Kept
  pub held : HoldsStore (design_view d) known unblamed x
  pub room : (p : ℕ) → p < length d.processes → HasRoomFor (body_at (design_view d) p) [] (rooms_of x)
