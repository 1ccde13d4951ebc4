-- Bytes that are those of two pieces end to end.
use Rattle.std.proofs.Common.{◌≡◌, ℕ, ◌<◌, ◌≤◌, ◌&&◌, ◌==◌, Bool, true, false, List, [], ◌∷◌, ◌++◌, length, take, drop, refl, sym, ap, ◌∙◌, arith}
use Rattle.std.specs.Str.{bytes_eq}

and_first : (p q r : Bool) → (p && q) && r ≡ p && (q && r)
and_first true q r = refl
and_first false q r = refl

-- the first bytes are those of the first piece, and the others those of the second
joined_is : (bytes first second : List ℕ) → length first ≤ length bytes → (bytes_eq (take (length first) bytes) first && bytes_eq (drop (length first) bytes) second) ≡ bytes_eq bytes (first ++ second)
joined_is bytes [] second l = refl
joined_is [] (f ∷ fs) second l = absurd (omega (arith, l))
joined_is (b ∷ bs) (f ∷ fs) second l =
    and_first (b == f) (bytes_eq (take (length fs) bs) fs) (bytes_eq (drop (length fs) bs) second) ∙ ap (λ q. (b == f) && q) (joined_is bs fs second (omega (arith, l)))

-- bytes that are too few for the first piece
pub joined_short : (bytes first second : List ℕ) → length bytes < length first → bytes_eq bytes (first ++ second) ≡ false
joined_short bytes [] second l = absurd (omega (arith, l))
joined_short [] (f ∷ fs) second l = refl
joined_short (b ∷ bs) (f ∷ fs) second l = ap (λ q. (b == f) && q) (joined_short bs fs second (omega (arith, l))) ∙ never (b == f)
  where
    never : (p : Bool) → p && false ≡ false
    never true = refl
    never false = refl

-- where the first bytes are those of the first piece
pub joined_same : (bytes first second : List ℕ) → length first ≤ length bytes → bytes_eq (take (length first) bytes) first ≡ true → bytes_eq bytes (first ++ second) ≡ bytes_eq (drop (length first) bytes) second
joined_same bytes first second l e = sym (joined_is bytes first second l) ∙ ap (λ p. p && bytes_eq (drop (length first) bytes) second) e

-- and where they are others
pub joined_other : (bytes first second : List ℕ) → length first ≤ length bytes → bytes_eq (take (length first) bytes) first ≡ false → bytes_eq bytes (first ++ second) ≡ false
joined_other bytes first second l e = sym (joined_is bytes first second l) ∙ ap (λ p. p && bytes_eq (drop (length first) bytes) second) e
