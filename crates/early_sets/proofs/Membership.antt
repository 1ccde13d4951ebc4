-- A number in a list, as a test and as a fact.
use Rattle.std.proofs.Common.{◌≡◌, ◌↔◌, ⊎_elim, ℕ, zero, suc, ◌<◌, Bool, true, false, ◌==◌, List, [], ◌∷◌, length, get_or, refl, sym, arith, eq-eqb}
use Rattle.std.specs.List.{Contains, list_any}
use Rattle.std.proofs.lemmas.Bool.{eqb-true, false_from_ne_true, false≢true, or_cases, or_left, or_right}

pub is_in_gives : (xs : List ℕ) (x : ℕ) → list_any (λ y. y == x) xs ≡ true → Contains xs x
is_in_gives [] x h = absurd (false≢true h)
is_in_gives (y ∷ ys) x h =
    ⊎_elim
    (λ e. (0, omega arith, eqb-true y x e))
    (λ r. let c = is_in_gives ys x r in (suc c.0, omega (arith, c.1), c.2))
    (or_cases (y == x) _ h)

pub is_in_from : (xs : List ℕ) (x k : ℕ) → k < length xs → get_or xs k x ≡ x → list_any (λ y. y == x) xs ≡ true
is_in_from [] x k l e = absurd (omega arith)
is_in_from (y ∷ ys) x zero l e = or_left (y == x) _ (eq-eqb y x e)
is_in_from (y ∷ ys) x (suc k) l e = or_right (y == x) _ (is_in_from ys x k (omega arith) e)

-- the test of a set is the test of its list
pub is_in_is : (xs : List ℕ) (x : ℕ) (b : Bool) → ((b ≡ true) ↔ Contains xs x) → b ≡ list_any (λ y. y == x) xs
is_in_is xs x true h = let c = h.0 refl in sym (is_in_from xs x c.0 c.1 c.2)
is_in_is xs x false h = sym (false_from_ne_true (list_any (λ y. y == x) xs) (λ t. false≢true (h.1 (is_in_gives xs x t))))
