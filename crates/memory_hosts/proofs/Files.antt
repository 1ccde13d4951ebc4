-- What an append to the file that is being written does to the files.
use Rattle.std.proofs.Common.{◌≡◌, ◌≢◌, ◌<◌, ℕ, List, [], ◌∷◌, ◌++◌, length, Option, Some, refl, arith}
use Rattle.cov_host.specs.Outside.{Files, HasFile, AppendsTo}

-- a list with an item
pub length_positive : (xs : List ℕ) → xs ≢ [] → 0 < length xs
length_positive [] filled = absurd (filled refl)
length_positive (x ∷ xs) filled = omega arith

-- a file that is the target and has these bytes more at its end
pub appends_to : (target : Option (List ℕ)) (name bytes piece : List ℕ) (before after : Files) → target ≡ Some name → before name ≡ Some bytes → HasFile name (bytes ++ piece) before after → AppendsTo target piece before after
appends_to target name bytes piece before after is_target had has = rw is_target (rw had has)
