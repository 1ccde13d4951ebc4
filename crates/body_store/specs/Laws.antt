-- What bodies read of a store and what is kept of it, by one another.
use Rattle.std.specs.Prelude.{◌≡◌, ℕ, false, List}
use Rattle.std.specs.List.{flat_map}
use Rattle.design_model.specs.Design.{Design}
use Rattle.body_calls.specs.body_replay.Replay.{Blames, flush}
use Rattle.body_calls.specs.body_replay.Runs.{seen_of}
use Rattle.body_calls.specs.body_replay.Store.{Kept, KnownWrite, keep_all}
use Rattle.body_calls.specs.Under.{kept_with}
use Rattle.body_store.specs.declared.store.Store.{Store}
use Rattle.body_store.specs.Held.{HoldsStore, ReadsStore}
use Rattle.body_store.specs.Scenes.{scene_of}
use Rattle.body_store.specs.Views.{hides, kept_scene, under_of, view_of}

-- the definition of a run reads of the view of a store what bodies read of the store
abbrev pub SeenLaw : Type 0
SeenLaw = (x : Store) → seen_of (view_of x) ≡ (scene_of x).kept

-- what is kept is what bodies read, and under what is shown or veiled what a run leaves
abbrev pub UnderLaw : Type 0
UnderLaw = (x : Store) → kept_with (under_of x) (scene_of x) ≡ kept_scene x

-- where nothing is shown or veiled bodies read what is kept
abbrev pub PlainLaw : Type 0
PlainLaw = (d : Design) (k : Kept) (e : Blames) (x : Store) → ((t : ℕ) → hides x t ≡ false) → HoldsStore d k e x → ReadsStore d k e x

-- the writes that are queued one list after the other are made as those of one list
abbrev pub FlushLaw : Type 0
FlushLaw = (k : Kept) (queue : List (List KnownWrite)) → flush k queue ≡ keep_all k (flat_map (λ ws. ws) queue)
