-- Parts of the examples' proofs: values that differ, the number of a thing, and a path by its place.
use Rattle.std.proofs.Common.{◌≢◌, ℕ, zero, suc, List, [], ◌∷◌, arith, Some, None}
use Rattle.four_state.specs.declared.bit.Bit.TheVariants.{One, Zero}
use Rattle.four_state.specs.declared.truth.Truth.TheVariants.{False, True}
use Rattle.design_model.specs.Design.{Thing, a_signal, a_word}
use Rattle.design_model.specs.Paths.{Path}

pub Zero≢One : Zero ≢ One
Zero≢One = grind arith

pub One≢Zero : One ≢ Zero
One≢Zero = grind arith

pub False≢True : False ≢ True
False≢True = grind arith

pub none_some : (n : ℕ) → None ≢ Some n
none_some n = grind arith

pub not_empty : {A : Type 0} (x : A) (xs : List A) → x ∷ xs ≢ []
not_empty x xs = grind arith

abbrev pub thing_of : Thing → ℕ
thing_of (a_signal s) = s
thing_of (a_word m i) = m

abbrev pub path_at : ℕ → List Path → Path
path_at n [] = []
path_at zero (p ∷ ps) = p
path_at (suc n) (p ∷ ps) = path_at n ps
