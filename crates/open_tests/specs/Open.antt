-- The undecided arms of a case whose second branches run, and what they make of the state at its end.
use Rattle.std.specs.Prelude.{◌≡◌, ◌∷◌, ℕ, suc, zero, List, []}
use Rattle.assignments.specs.design_model.Design.{Design}
use Rattle.assignments.specs.body_replay.Replay.{State, joined_states}
use Rattle.assignments.specs.term_replay.Stands.{Scene}
use Rattle.assignments.specs.body_calls.Lvalues.{Like}
use Rattle.assignments.specs.body_calls.Ways.{Around, in_second}
use Rattle.assignments.specs.scene_laws.At.{scene_of}

-- an undecided arm: what is to blame, and what its body left
pub record OpenArm : Type 0 where
  pub test : ℕ
  pub left : State

-- the state once these arms are joined with what the last branch left, the innermost first
abbrev pub close : Design → List OpenArm → State → State
close d [] a = a
close d (x ∷ xs) a = close d xs (joined_states d x.test x.left a)

-- so many second branches run on this design, in these tests around
abbrev pub AreSecond : Design → ℕ → List Around → List Around → Type 0
AreSecond d zero outer inner = inner ≡ outer
AreSecond d (suc n) outer inner = (test : ℕ) × (left : Scene) × (rest : List Around) × (inner ≡ in_second test left ∷ rest) × (left.design ≡ d) × AreSecond d n outer rest

-- the tests around are those of these arms
abbrev pub AreOpen : Design → List OpenArm → List Around → List Around → Type 0
AreOpen d [] outer inner = inner ≡ outer
AreOpen d (x ∷ xs) outer inner = (left : Scene) × (rest : List Around) × (inner ≡ in_second x.test left ∷ rest) × Like (scene_of d x.left) left × AreOpen d xs outer rest
