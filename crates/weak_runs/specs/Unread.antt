-- What is read where nothing is known.
use Rattle.std.specs.Prelude.{Bool, true, false, List, [], ◌∷◌}
use Rattle.value_store.specs.body_replay.Contract.{unread}
use Rattle.value_store.specs.body_replay.Replay.{Mark}
use Rattle.term_replay.specs.Stands.{Scene}

-- the same design, of which nothing is known; thing 0 is to blame, and no memory is written
abbrev pub unread_scene : Scene → Scene
unread_scene v = record { design = v.design; kept = unread; blames = record { blame = λ x. 0; wrote = λ m. false } }

-- there are marks
abbrev pub has_marks : List Mark → Bool
has_marks [] = false
has_marks (m ∷ ms) = true
