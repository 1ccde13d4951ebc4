-- What a store keeps and what bodies read of it, where each signal and memory is to blame for itself.
use Rattle.std.specs.Prelude.{◌≡◌, ◌<◌, ℕ, false, length, None}
use Rattle.design_model.specs.event_machine.Cell.{Cell}
use Rattle.design_model.specs.BodyLaws.{all_cells}
use Rattle.design_model.specs.Design.{Design, In, signal_at}
use Rattle.design_model.specs.View.{design_view}
use Rattle.body_calls.specs.body_replay.KnownBits.{KnownBits}
use Rattle.body_calls.specs.body_replay.Replay.{Blames}
use Rattle.body_calls.specs.body_replay.Store.{Kept}
use Rattle.body_calls.specs.term_replay.Stands.{Scene}
use Rattle.body_calls.specs.Own.{IsOwn}
use Rattle.body_store.specs.declared.store.Store.{Store}
use Rattle.body_store.specs.Held.{HoldsStore, ReadsStore}
use Rattle.body_store.specs.Made.{unblamed}
use Rattle.body_store.specs.Scenes.{scene_of}
use Rattle.body_store.specs.Views.{hides, kept_scene, showing, veiling}

-- nothing is known of cells that the design does not have
abbrev pub IsBlank : Design → Kept → Type 0
IsBlank d k = (c : Cell) → (In c (all_cells d c.thing) → ⊥) → k c ≡ None

-- where a store holds something with each signal and memory to blame for itself, each is to blame for itself in what is kept
abbrev pub KeptOwnLaw : Type 0
KeptOwnLaw = (x : Store) (k : Kept) → HoldsStore (design_view x.design.now) k unblamed x → IsOwn (kept_scene x)

-- where bodies read something so, each is to blame for itself in what they read
abbrev pub ReadOwnLaw : Type 0
ReadOwnLaw = (x : Store) (k : Kept) → ReadsStore (design_view x.design.now) k unblamed x → IsOwn (scene_of x)

-- what a store holds is what is kept, if nothing is known outside of the design
abbrev pub HeldLaw : Type 0
HeldLaw = (x : Store) (k : Kept) (e : Blames) → HoldsStore (design_view x.design.now) k e x → IsBlank (design_view x.design.now) k → (kept_scene x).kept ≡ k

-- where nothing is shown or veiled, what is kept is what bodies read
abbrev pub SameLaw : Type 0
SameLaw = (x : Store) → ((t : ℕ) → hides x t ≡ false) → kept_scene x ≡ scene_of x

-- what is shown is to blame for itself
abbrev pub ShownOwnLaw : Type 0
ShownOwnLaw = (v : Scene) (s : ℕ) (ps : KnownBits) → s < length v.design.signals → length ps ≡ (signal_at v.design s).width → IsOwn v → IsOwn (showing s ps v)

-- so is what is veiled
abbrev pub VeiledOwnLaw : Type 0
VeiledOwnLaw = (v : Scene) (t : ℕ) → IsOwn v → IsOwn (veiling t v)
