-- What follows for a store from what it knows.
use Rattle.std.specs.Prelude.{◌≡◌, ◌<◌, ℕ, false, [], length}
use Rattle.body_store.specs.design_model.Design.{Design, body_at}
use Rattle.body_store.specs.design_model.View.{design_view}
use Rattle.body_store.specs.body_replay.Store.{Kept}
use Rattle.open_tests.specs.Weights.{HasRoomFor}
use Rattle.body_store.specs.body_calls.Own.{IsOwn}
use Rattle.body_store.specs.declared.store.Store.{Store}
use Rattle.body_store.specs.Bodies.{around_of, queued_of, rooms_of}
use Rattle.body_store.specs.Held.{HoldsStore, ReadsStore}
use Rattle.body_store.specs.Made.{nothing, unblamed}
use Rattle.body_store.specs.Scenes.{scene_of}
use Rattle.body_store.specs.Views.{hides, kept_scene, view_of}
use Rattle.store_knowledge.specs.Knows.{Knows}

-- the run of a block meets the store as the definition has it, in which nothing is hidden
abbrev pub ViewLaw : Type 0
ViewLaw = (d : Design) (k : Kept) (x : Store) → Knows d k x → view_of x ≡ record { kept = k; hidden = λ y. false; shown = k }

-- bodies read what is known
abbrev pub ReadLaw : Type 0
ReadLaw = (d : Design) (k : Kept) (x : Store) → Knows d k x → ReadsStore d k unblamed x

-- each signal and memory is to blame for itself in what is kept and in what bodies read
abbrev pub OwnLaw : Type 0
OwnLaw = (d : Design) (k : Kept) (x : Store) → Knows d k x → IsOwn (kept_scene x) × IsOwn (scene_of x)

-- a new store knows nothing, where it has room for the run of each body
abbrev pub NewLaw : Type 0
NewLaw =
    (d : Design) (x : Store) → design_view x.design.now ≡ d → HoldsStore d nothing unblamed x → ((y : ℕ) → hides x y ≡ false) → queued_of x ≡ [] → around_of x ≡ []
    → ((p : ℕ) → p < length d.processes → HasRoomFor (body_at d p) [] (rooms_of x))
    → Knows d nothing x
