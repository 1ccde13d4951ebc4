-- What is to blame once the run of a body has ended.
use Rattle.std.specs.Prelude.{ℕ, ◌==◌, false, if◌then◌else◌, List, [], ◌∷◌}
use Rattle.body_calls.specs.body_replay.Replay.{Blames}

-- the signal or memory is to blame for itself, and counts as not written
abbrev pub settled : ℕ → Blames → Blames
settled t e = record { blame = λ x. if t == x then x else e.blame x; wrote = λ m. if t == m then false else e.wrote m }

-- each of these is, and does
abbrev pub ended : List ℕ → Blames → Blames
ended [] e = e
ended (t ∷ ts) e = ended ts (settled t e)
