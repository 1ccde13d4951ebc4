-- Where the run of a body is: what the store knows, what is queued and what is noted, against the state of the definition.
use Rattle.std.specs.Prelude.{◌≡◌, ◌++◌, ◌∷◌, ℕ, List, [], Option}
use Rattle.body_calls.specs.design_model.Design.{Design}
use Rattle.body_calls.specs.body_replay.Store.{KnownWrite}
use Rattle.body_calls.specs.body_replay.Replay.{Mark, State}
use Rattle.body_calls.specs.term_replay.Stands.{Scene}
use Rattle.body_calls.specs.Lvalues.{Like}

-- all queued writes, in order
abbrev pub flat : List (List KnownWrite) → List KnownWrite
flat [] = []
flat (ws ∷ more) = ws ++ flat more

-- what is known in a state of the definition, and what is to blame
abbrev pub scene_of : Design → State → Scene
scene_of d a = record { design = d; kept = a.kept; blames = a.blames }

-- the run is at this state: the first read that was not wholly sure, what is known, what is queued, and the marks that are noted
pub record IsState (d : Design) (a : State) (so_far : Option ℕ) (v : Scene) (queued : List KnownWrite) (Noted : List Mark → Type 0) : Type 0 where
  pub scene : Like (scene_of d a) v
  pub first : so_far ≡ a.first
  pub queue : queued ≡ flat a.queue
  pub noted : Noted a.marks
