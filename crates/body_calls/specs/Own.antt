-- When each signal and memory is to blame for itself.
use Rattle.std.specs.Prelude.{◌≡◌, ◌==◌, ℕ, Bool, false, List}
use Rattle.std.specs.List.{list_any}
use Rattle.term_replay.specs.Stands.{Scene}
use Rattle.body_calls.specs.Lvalues.{Like, is_sure_signal}

-- the number is in the list
abbrev pub is_in : List ℕ → ℕ → Bool
is_in xs x = list_any (λ y. y == x) xs

-- the same, with each signal and memory to blame for itself, and no memory written by the run
abbrev pub own : Scene → Scene
own v = record v { blames = record { blame = λ x. x; wrote = λ m. false } }

-- each signal that is not wholly sure and each memory is to blame for itself, and no memory counts as written by the run
abbrev pub IsOwn : Scene → Type 0
IsOwn v = Like (own v) v

-- so does each signal and memory that is not in the list
pub record IsOwnOutside (xs : List ℕ) (v : Scene) : Type 0 where
  pub wrote : (m : ℕ) → is_in xs m ≡ false → v.blames.wrote m ≡ false
  pub blame : (x : ℕ) → is_in xs x ≡ false → is_sure_signal v x ≡ false → v.blames.blame x ≡ x
