-- What a store knows of the cells of a design between the runs of blocks.
use Rattle.std.specs.Prelude.{◌≡◌, ◌<◌, ◌==◌, ℕ, false, if◌then◌else◌, [], length}
use Rattle.body_store.specs.design_model.Design.{Design, body_at}
use Rattle.body_store.specs.design_model.View.{design_view}
use Rattle.body_store.specs.body_replay.KnownBits.{KnownBits}
use Rattle.body_store.specs.body_replay.Store.{Kept}
use Rattle.open_tests.specs.Weights.{HasRoomFor}
use Rattle.body_store.specs.declared.store.Store.{Store}
use Rattle.body_store.specs.Bodies.{around_of, queued_of, rooms_of}
use Rattle.body_store.specs.Held.{HoldsStore}
use Rattle.body_store.specs.Made.{unblamed}
use Rattle.body_store.specs.Owned.{IsBlank}
use Rattle.body_store.specs.Scenes.{bit_at}
use Rattle.body_store.specs.Views.{hides}

-- the store knows this of the design, and the body of each process can run on it
pub record Knows (d : Design) (k : Kept) (x : Store) : Type 0 where
  pub design : design_view x.design.now ≡ d
  pub blank : IsBlank d k  -- of what is no cell of the design nothing is known
  pub owned : HoldsStore d k unblamed x  -- each signal and memory is to blame for itself
  pub plain : (y : ℕ) → hides x y ≡ false  -- none is shown or veiled
  pub queued : queued_of x ≡ []
  pub around : around_of x ≡ []
  pub rooms : (p : ℕ) → p < length d.processes → HasRoomFor (body_at d p) [] (rooms_of x)

-- the same, with these bits of signal s
abbrev pub with_bits : ℕ → KnownBits → Kept → Kept
with_bits s ps k c = if s == c.thing then bit_at ps c.place else k c
