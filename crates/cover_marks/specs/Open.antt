-- How many points of an owner are not hit yet, and an example.
use Rattle.std.specs.Prelude.{◌≡◌, ◌+◌, ℕ, List, [], ◌∷◌, Bool, true, false, cond, nat_eq}
use Rattle.point_marks.specs.declared.verdict.Verdict.{Verdict}
use Rattle.point_marks.specs.declared.verdict.Verdict.TheVariants.{Hit, Missed, Undetermined}

-- the point is not hit
abbrev pub is_open : Verdict → Bool
is_open Hit = false
is_open Missed = true
is_open (Undetermined y) = true

-- 1 where the point is one of this owner's and not hit, else 0
abbrev pub open_one : ℕ → ℕ → Verdict → ℕ
open_one p o v = cond (nat_eq p o) (cond (is_open v) 1 0) 0

-- how many points of this owner are not hit; the points past the list of owners have none
abbrev pub open_of : ℕ → List ℕ → List Verdict → ℕ
open_of p [] vs = 0
open_of p (o ∷ os) [] = 0
open_of p (o ∷ os) (v ∷ vs) = open_one p o v + open_of p os vs

-- three points of processes 1 and 2, and one that has no owner
abbrev pub example_owners : List ℕ
example_owners = 1 ∷ 2 ∷ 1 ∷ []

abbrev pub example_verdicts : List Verdict
example_verdicts = Hit ∷ Missed ∷ Undetermined (record { thing = 1; time = 5 }) ∷ Missed ∷ []

-- process 2 has a point that is missed, and process 1 one in doubt; process 0 has no such point
pub record IsOpenExample : Type 0 where
  pub none : open_of 0 example_owners example_verdicts ≡ 0
  pub doubt : open_of 1 example_owners example_verdicts ≡ 1
  pub missed : open_of 2 example_owners example_verdicts ≡ 1
  pub hit : open_of 2 example_owners (Hit ∷ Hit ∷ Missed ∷ Missed ∷ []) ≡ 0
